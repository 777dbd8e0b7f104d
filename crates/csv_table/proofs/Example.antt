-- Lines as the definitions have them: a person whose fare a cap cut and one whose fare none did, a bicycle, a charge of a record that does not say
-- whose it is, and refused records.
-- Assumes nothing.
use Prim.Native.Nat.{ℕ}
use mathlib.Core.Path.{◌≡◌, refl}
use mathlib.Core.List.{[], ◌∷◌, ◌++◌}
use Rattle.wire.specs.Number.{get_le}
use Rattle.wire.specs.Frame.{broken, frame_at}
use Rattle.calendar.proofs.MomentLaws.{autumn_night}
use Rattle.trip.specs.declared.Party.{Party}
use Rattle.reader.specs.declared.Head.{Head}
use Rattle.reader.specs.declared.Whose.TheVariants.{Unsaid, Of}
use Rattle.reader.specs.declared.Amount.{Amount}
use Rattle.reader.specs.Reading.{whose_at, read_at}
use Rattle.text.specs.Texts.{bytes, digit, digits_in, decimal}
use Rattle.csv_table.specs.Text.{
  columns,
  header,
  two_digits,
  four_digits,
  moment_text,
  rider_text,
  payer_text,
  is_person,
  off_text,
  cap_text,
  row_text,
  refused_text,
  record_text,
  records_text,
  csv_of,
}

abbrev head : Head
head = record { opening = record { 0 = 14113370 }; area = 2; km = record { 0 = 3 }; minutes = record { 0 = 8 } }

abbrev amount : ℕ → ℕ → ℕ → ℕ → Amount
amount charge off area class =
    record { charge = record { 0 = charge }; cut = record { reduction = record { 0 = off }; area = area; class = class } }

abbrev party : Party
party = record { adults = 1; children = 2; bicycles = 1 }

pub holder_row : row_text 1 head (Of party) 0 (amount 221 0 255 0) ≡ bytes "1,2026-10-31T22:50Z,2,3,8,holder,221,0,,,\n"
unfolding row_text columns moment_text two_digits four_digits payer_text rider_text is_person off_text cap_text bytes digit digits_in decimal
holder_row = rw autumn_night refl

pub child_row : row_text 12 head (Of party) 3 (amount 99 31 1 2) ≡ bytes "12,2026-10-31T22:50Z,2,3,8,child 2,99,31,1,2,\n"
unfolding row_text columns moment_text two_digits four_digits payer_text rider_text is_person off_text cap_text bytes digit digits_in decimal
child_row = rw autumn_night refl

pub bicycle_row : row_text 12 head (Of party) 4 (amount 450 0 255 0) ≡ bytes "12,2026-10-31T22:50Z,2,3,8,bicycle 1,450,,,,\n"
unfolding row_text columns moment_text two_digits four_digits payer_text rider_text is_person off_text cap_text bytes digit digits_in decimal
bicycle_row = rw autumn_night refl

pub charge_row : row_text 7 head (Unsaid 31) 30 (amount 450 0 255 0) ≡ bytes "7,2026-10-31T22:50Z,2,3,8,charge 31,450,,,,\n"
unfolding row_text columns moment_text two_digits four_digits payer_text rider_text is_person off_text cap_text bytes digit digits_in decimal
charge_row = rw autumn_night refl

pub refused_row : refused_text 3 15 ≡ bytes "3,,,,,,,,,,15\n"
unfolding refused_text columns bytes digit digits_in decimal
refused_row = refl

-- nothing in gives the header alone
pub nothing_in : csv_of [] ≡ header
unfolding csv_of records_text header bytes
nothing_in = refl

-- a record of another kind is passed over, and one byte behind it is a broken frame
pub passed_over : csv_of (2 ∷ 0 ∷ 9 ∷ 0 ∷ 2 ∷ []) ≡ header ++ bytes "1,,,,,,,,,,15\n2,,,,,,,,,,14\n"
unfolding csv_of records_text record_text refused_text columns header bytes digit digits_in decimal frame_at broken get_le read_at whose_at
passed_over = refl
