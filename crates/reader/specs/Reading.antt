-- docs/RULES.md, section 20: what reading one record at a place of a statement comes to. The refusals in their order: 14, a broken frame; 15,
-- another kind or length; 16, a field out of range. Else the record's fields, and its bytes.
use Rattle.std.specs.Prelude.{ℕ, zero, suc, ◌+◌, ◌-◌, ◌*◌, ◌/◌, List, [], ◌∷◌, cond, ◌&&◌, leb, eqb}
use Rattle.wire.specs.Number.{get_le}
use Rattle.wire.specs.Frame.{broken}
use Rattle.caps.specs.declared.Cut.{Cut}
use Rattle.trip.specs.declared.Party.{Party}
use Rattle.statement.specs.Record.{charge_size, long_with, most_charges, persons_of, count_of, charge_kind}
use Rattle.statement.specs.Kind4.{charges_kind, charges_long}
use Rattle.statement.specs.Reading.{
  long_in,
  kind_in,
  opening_in,
  area_in,
  km_in,
  minutes_in,
  adults_in,
  children_in,
  bicycles_in,
  size_in,
  charge_place,
  reduction_in,
  cap_area_in,
  cap_class_in,
}
use Rattle.reader.specs.declared.Head.{Head}
use Rattle.reader.specs.declared.Whose.{Whose}
use Rattle.reader.specs.declared.Whose.TheVariants.{Unsaid, Of}
use Rattle.reader.specs.declared.charges.Fit.{Fit}
use Rattle.reader.specs.declared.charges.Fit.TheVariants.{Fits, Unfit}
use Rattle.reader.specs.Fields.{Fields, kind4, kind6}
use Rattle.reader.specs.Ranges.{in_range}

-- ---- The fields, by their places.

-- the first n of a sequence
unfoldable pub listed : {A : Type 0} → ℕ → (ℕ → A) → List A
listed zero f = []
listed (suc n) f = f 0 ∷ listed n (λ (i : ℕ). f (suc i))

-- they stand at the same places in both kinds
abbrev pub head_at : List ℕ → ℕ → Head
head_at statement place =
    record {
      opening = record { 0 = opening_in statement place };
      area = area_in statement place;
      km = record { 0 = km_in statement place };
      minutes = record { 0 = minutes_in statement place };
    }

abbrev pub party_at : List ℕ → ℕ → Party
party_at statement place =
    record { adults = adults_in statement place; children = children_in statement place; bicycles = bicycles_in statement place }

abbrev pub cut_at : List ℕ → ℕ → ℕ → Cut
cut_at statement place i =
    record { reduction = record { 0 = reduction_in statement place i }; area = cap_area_in statement place i; class = cap_class_in statement place i }

-- length, kind, opening minute, area, km and minutes stand before the charges of a record of kind 4
abbrev pub kind4_head : ℕ
kind4_head = 13

-- its charge i
abbrev pub kind4_charge : List ℕ → ℕ → ℕ → ℕ
kind4_charge statement place i = get_le 4 statement (place + kind4_head + charge_size * i)

-- the fields of a record whose charges are such
unfoldable pub fields_for : List ℕ → ℕ → Whose → Fields
fields_for statement place (Unsaid charges) = kind4 (head_at statement place) (listed charges (kind4_charge statement place))
fields_for statement place (Of party) =
    kind6 (head_at statement place) party
    (listed (count_of party) (λ (i : ℕ). get_le 4 statement (charge_place place (persons_of party) i)))
    (listed (persons_of party) (cut_at statement place))

-- ---- Kind and length.

-- how many charges a record of kind 4 has by its length: 1 to 31, with nothing behind the last, or the length fits no party
abbrev pub kind4_charges : ℕ → ℕ
kind4_charges long = (long - 11) / charge_size

unfoldable pub kind4_fit : ℕ → Fit
kind4_fit long =
    let charges = kind4_charges long in
    cond (leb 1 charges && leb charges most_charges && eqb long (charges_long charges)) (Fits (Unsaid charges)) Unfit

-- the length of a record of kind 6 is what its three numbers give, as they stand. A body too short to have them is shorter than any party's
unfoldable pub kind6_fit : List ℕ → ℕ → Fit
kind6_fit statement place =
    let party = party_at statement place in
    cond (eqb (long_in statement place) (long_with (persons_of party) party.bicycles)) (Fits (Of party)) Unfit

-- whose the charges are; or it is another kind, or a length that fits no party
unfoldable pub whose_at : List ℕ → ℕ → Fit
whose_at statement place =
    cond (eqb (kind_in statement place) charges_kind) (kind4_fit (long_in statement place))
    (cond (eqb (kind_in statement place) charge_kind) (kind6_fit statement place) Unfit)

-- ---- The reading.

abbrev pub broken_frame : ℕ
broken_frame = 14

abbrev pub other_record : ℕ
other_record = 15

abbrev pub out_of_range : ℕ
out_of_range = 16

-- a refusal's number; or the fields, and the record's own bytes
pub data Reading : Type 0 where
  refused : ℕ → Reading
  told : Fields → ℕ → Reading

unfoldable pub ranged : Fields → ℕ → Reading
ranged fields size = cond (in_range fields) (told fields size) (refused out_of_range)

unfoldable pub read_at : List ℕ → ℕ → Reading
read_at statement place =
    cond (broken statement place) (refused broken_frame)
    (elim (whose_at statement place) [
      | Unfit ↦ refused other_record
      | Fits whose ↦ ranged (fields_for statement place whose) (size_in statement place)
    ])
