-- docs/FORMAT.md: a record's fields as plain bytes, the same for both kinds, so that a caller needs no struct. Kind 1, number of charges 1,
-- adults 1, children 1, bicycles 1 (0 each where the record does not tell them), area 1, km 2, minutes 2, opening minute 4; then for each
-- charge its cents 4, what caps took off 4, the named cap's area 1 and class 1.
use Rattle.std.specs.Prelude.{ℕ, zero, suc, ◌+◌, ◌*◌, ◌<◌, ◌≡◌, List, [], ◌++◌, cond, length, drop, ltb}
use Rattle.wire.specs.Number.{get_le, bytes_of}
use Rattle.trip.specs.declared.Party.{Party}
use Rattle.statement.specs.Record.{person_size, charge_kind, person_bytes}
use Rattle.statement.specs.Kind4.{charges_kind}
use Rattle.reader.specs.declared.Head.{Head}
use Rattle.reader.specs.declared.Whose.{Whose}
use Rattle.reader.specs.declared.Whose.TheVariants.{Unsaid, Of}
use Rattle.reader.specs.declared.Amount.{Amount}
use Rattle.reader.specs.declared.fields.Filled.{Filled}
use Rattle.reader.specs.declared.fields.Filled.TheVariants.{Refused, Record}
use Rattle.reader.specs.Fields.{Fields, head_in, whose_in, charges_of, amount_of}
use Rattle.reader.specs.Reading.{Reading, refused, told, read_at}

abbrev pub kind_of : Whose → ℕ
kind_of (Unsaid charges) = charges_kind
kind_of (Of party) = charge_kind

-- nobody is told in kind 4
abbrev pub party_of : Whose → Party
party_of (Unsaid charges) = record { adults = 0; children = 0; bicycles = 0 }
party_of (Of party) = party

unfoldable pub whose_bytes : Whose → List ℕ
whose_bytes whose =
    let party = party_of whose in
    bytes_of 1 (kind_of whose)
    ++ (bytes_of 1 (charges_of whose) ++ (bytes_of 1 party.adults ++ (bytes_of 1 party.children ++ bytes_of 1 party.bicycles)))

unfoldable pub ride_bytes : Head → List ℕ
ride_bytes head = bytes_of 1 head.area ++ (bytes_of 2 head.km.0 ++ (bytes_of 2 head.minutes.0 ++ bytes_of 4 head.opening.0))

-- the first n charges, each as a person's of kind 6 stands in its record: with a cut, whoever it is
unfoldable pub amount_bytes : Fields → ℕ → List ℕ
amount_bytes fields zero = []
amount_bytes fields (suc n) = let amount = amount_of fields n in amount_bytes fields n ++ person_bytes amount.charge.0 amount.cut

-- all of it
unfoldable pub field_bytes : Fields → List ℕ
field_bytes fields = whose_bytes (whose_in fields) ++ (ride_bytes (head_in fields) ++ amount_bytes fields (charges_of (whose_in fields)))

-- the bytes of so many charges and what stands before them: 324 for the largest
abbrev pub field_size : ℕ → ℕ
field_size charges = 14 + person_size * charges

-- the refusal of a slice that is too short, which is tested last
abbrev pub no_room : ℕ
no_room = 12

-- what reading into a slice comes to: a refusal, and nothing is written; or the fields that are, and the record's own bytes
pub data Filling : Type 0 where
  unfilled : ℕ → Filling
  filled : Fields → ℕ → Filling

unfoldable pub filling_from : Reading → ℕ → Filling
filling_from (refused number) room = unfilled number
filling_from (told fields size) room = cond (ltb room (field_size (charges_of (whose_in fields)))) (unfilled no_room) (filled fields size)

abbrev pub filling_of : List ℕ → ℕ → ℕ → Filling
filling_of statement place room = filling_from (read_at statement place) room

-- as the answer that gives it
abbrev pub filled_as : Filling → Filled
filled_as (unfilled number) = Refused number
filled_as (filled fields size) = Record size

-- the fields stand at the start of the slice, and its further bytes stay; a refusal leaves all of them
abbrev pub fields_after : Filling → List ℕ → List ℕ
fields_after (unfilled number) before = before
fields_after (filled fields size) before = field_bytes fields ++ drop (length (field_bytes fields)) before

pub record FilledIn (filling : Filling) (before after : List ℕ) (r : Filled) : Type 0 where
  pub answer : r ≡ filled_as filling
  pub fields_are : after ≡ fields_after filling before

-- ---- What a caller finds in the slice, by the places that docs/FORMAT.md gives.

-- a charge, in the ten bytes from a place on
pub record AmountFound (amount : Amount) (bytes : List ℕ) (place : ℕ) : Type 0 where
  pub charge : get_le 4 bytes place ≡ amount.charge.0
  pub reduction : get_le 4 bytes (place + 4) ≡ amount.cut.reduction.0
  pub cap-area : get_le 1 bytes (place + 8) ≡ amount.cut.area
  pub cap-class : get_le 1 bytes (place + 9) ≡ amount.cut.class

-- every field, and every charge
pub record FieldsFound (fields : Fields) (bytes : List ℕ) : Type 0 where
  pub kind : get_le 1 bytes 0 ≡ kind_of (whose_in fields)
  pub charges : get_le 1 bytes 1 ≡ charges_of (whose_in fields)
  pub adults : get_le 1 bytes 2 ≡ (party_of (whose_in fields)).adults
  pub children : get_le 1 bytes 3 ≡ (party_of (whose_in fields)).children
  pub bicycles : get_le 1 bytes 4 ≡ (party_of (whose_in fields)).bicycles
  pub area : get_le 1 bytes 5 ≡ (head_in fields).area
  pub km : get_le 2 bytes 6 ≡ (head_in fields).km.0
  pub minutes : get_le 2 bytes 8 ≡ (head_in fields).minutes.0
  pub opening : get_le 4 bytes 10 ≡ (head_in fields).opening.0
  pub amounts : (i : ℕ) → i < charges_of (whose_in fields) → AmountFound (amount_of fields i) bytes (14 + person_size * i)
