-- What the reader's functions ask and answer.
use Rattle.std.specs.Prelude.{ℕ, ◌+◌, ◌*◌, ◌≤◌, ◌<◌, ◌≡◌, List, false, length}
use Rattle.wire.specs.declared.Frame.TheVariants.{Whole}
use Rattle.wire.specs.Frame.{broken, frame_at}
use Rattle.statement.specs.Record.{charge_size, most_charges}
use Rattle.statement.specs.Clauses.{RecordAt}
use Rattle.reader.specs.declared.Read.{Read}
use Rattle.reader.specs.declared.Read.TheVariants.{Refused, Record}
use Rattle.reader.specs.declared.Whose.{Whose}
use Rattle.reader.specs.declared.Whose.TheVariants.{Unsaid, Of}
use Rattle.reader.specs.declared.charges.Fit.TheVariants.{Fits}
use Rattle.reader.specs.Fields.{head_in, whose_in, charges_of}
use Rattle.reader.specs.Reading.{kind4_head, party_at, whose_at, Reading, refused, told}

-- a whole record stands at a place
abbrev pub FramedAt : List ℕ → ℕ → ℕ → ℕ → Type 0
FramedAt statement place kind body = frame_at statement place ≡ Whole kind body

-- and its kind and length fit
pub record FittedAt (statement : List ℕ) (place : ℕ) (whose : Whose) : Type 0 where
  pub whole : broken statement place ≡ false
  pub fits : whose_at statement place ≡ Fits whose

-- so many charges stand in the record at a place: what reading them asks
abbrev pub ReadableAt : List ℕ → ℕ → Whose → Type 0
ReadableAt statement place (Unsaid charges) = (charges ≤ most_charges) × (place + kind4_head + charge_size * charges ≤ length statement)
ReadableAt statement place (Of party) = RecordAt statement place × (party ≡ party_at statement place)

-- and one of them
pub record ChargeAsked (statement : List ℕ) (place : ℕ) (whose : Whose) (i : ℕ) : Type 0 where
  pub readable : ReadableAt statement place whose
  pub there : i < charges_of whose

-- the reading, as the answer that gives it: a record's charges are not in it, but whose they are
abbrev pub read_as : Reading → Read
read_as (refused number) = Refused number
read_as (told fields size) = Record size (head_in fields) (whose_in fields)
