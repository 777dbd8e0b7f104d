-- docs/RULES.md, section 16: the records of a roll, and what their lines say.
use Rattle.std.specs.Prelude.{ℕ, zero, suc, ◌+◌, List, [], ◌∷◌, ◌++◌, Bool, true, false, cond, length, take, drop, eqb}
use Rattle.wire.specs.Frame.{frame_at}
use Rattle.wire.specs.declared.Frame.TheVariants as frame
use Rattle.statement.specs.Record.{Part, largest_statement}
use Rattle.statement.specs.Reading.{sum_of}
use Rattle.settle.specs.Outcome.{Outcome, refused, accepted}
use Rattle.settle.specs.Runs.{Offer, Settlement, run_from}
use Rattle.roll.specs.declared.Entry.{Entry}
use Rattle.roll.specs.declared.Line.{Line}
use Rattle.roll.specs.declared.Line.TheVariants.{Charged, Both, Refused}

-- at most so many records of a roll are settled
abbrev pub most_records : ℕ
most_records = 65535

-- ---- The records of a roll: at most so many, until its end or a broken frame, which counts as a record.

-- each is offered with room for the largest statement
unfoldable pub offers_of : ℕ → List ℕ → List Offer
offers_of zero roll = []
offers_of (suc records) roll =
    elim (frame_at roll 0) [
      | frame.Broken ↦ []
      | frame.Whole kind body ↦
          record { bytes = take (4 + body) roll; room = largest_statement } ∷ offers_of records (drop (4 + body) roll)
    ]

-- whether a broken frame comes among them; no byte at all is the roll's end
unfoldable pub broken_in : ℕ → List ℕ → Bool
broken_in zero roll = false
broken_in (suc records) roll =
    cond (eqb (length roll) 0) false
    (elim (frame_at roll 0) [
      | frame.Broken ↦ true
      | frame.Whole kind body ↦ broken_in records (drop (4 + body) roll)
    ])

-- ---- The lines.

-- what is said of a part: area, km, minutes, opening minute, sum of its charges
unfoldable pub part_entry : Part → Entry
part_entry part =
    record {
      area = part.ride.area;
      km = part.ride.km.0;
      minutes = part.ride.minutes.0;
      opening = part.opening;
      cents = sum_of part.charges;
    }

-- the line of an outcome: its refusal, or its part, or its two parts. An acceptance has one part, or two where the trip was broken
unfoldable pub line_of : Outcome → Line
line_of (refused number place) = Refused number
line_of (accepted book []) = Refused 0
line_of (accepted book (part ∷ [])) = Charged (part_entry part)
line_of (accepted book (one ∷ other ∷ more)) = Both (part_entry one) (part_entry other)

-- the lines of a run
unfoldable pub lines_in : List Settlement → List Line
lines_in [] = []
lines_in (s ∷ more) = line_of s.outcome ∷ lines_in more

-- the lines of a roll, from a book on: those of its records, settled as one run; a broken frame is refused with 5 and ends it
unfoldable pub lines_of : ℕ → List ℕ → List ℕ → List ℕ → List Line
lines_of records file book roll =
    lines_in (run_from file book (offers_of records roll)) ++ cond (broken_in records roll) (Refused 5 ∷ []) []
