-- The example of docs/RULES.md, section 16, as the definitions have it; a refused trip, a number of one digit, a trip in two parts, and a
-- refused tariff.
-- Assumes nothing.
use Prim.Native.Nat.{ℕ}
use mathlib.Core.Path.{◌≡◌, refl}
use mathlib.Core.List.{[], ◌∷◌}
use Rattle.roll.specs.declared.Entry.{Entry}
use Rattle.roll.specs.declared.Line.TheVariants.{Charged, Both, Refused}
use Rattle.text.specs.Texts.{bytes, digit, digits_in, decimal}
use Rattle.lines.specs.Text.{header, spaced, entry_text, line_text, tail_text, accepted_of, refused_of, cents_of, lines_text, text_of, fault_text}

abbrev entry : ℕ → ℕ → ℕ → ℕ → ℕ → Entry
entry area km minutes opening cents = record { area = area; km = km; minutes = minutes; opening = opening; cents = cents }

pub five_trips :
    text_of
    (Charged (entry 2 3 8 526860 221)
    ∷ Charged (entry 2 5 11 526860 230)
    ∷ Charged (entry 2 5 12 526860 99)
    ∷ Charged (entry 2 8 15 526860 0)
    ∷ Charged (entry 2 3 1 528300 221)
    ∷ [])
    ≡ bytes
    "trip area km min open cents\n1 2 3 8 526860 221\n2 2 5 11 526860 230\n3 2 5 12 526860 99\n4 2 8 15 526860 0\n5 2 3 1 528300 221\naccepted 5 refused 0 cents 771\n"
unfolding bytes digit digits_in decimal header spaced entry_text line_text tail_text accepted_of refused_of cents_of lines_text text_of
five_trips = refl

pub a_refusal :
    text_of (Refused 12 ∷ Charged (entry 0 1 0 0 1206) ∷ [])
    ≡ bytes "trip area km min open cents\n1 refused 12\n2 0 1 0 0 1206\naccepted 1 refused 1 cents 1206\n"
unfolding bytes digit digits_in decimal header spaced entry_text line_text tail_text accepted_of refused_of cents_of lines_text text_of
a_refusal = refl

-- two lines under one number, one accepted, and the cents of both
pub two_parts :
    text_of (Charged (entry 2 3 8 526860 221) ∷ Both (entry 2 5 30 526860 230) (entry 4 5 0 526860 99) ∷ Refused 11 ∷ [])
    ≡ bytes
    "trip area km min open cents\n1 2 3 8 526860 221\n2 2 5 30 526860 230\n2 4 5 0 526860 99\n3 refused 11\naccepted 2 refused 1 cents 550\n"
unfolding bytes digit digits_in decimal header spaced entry_text line_text tail_text accepted_of refused_of cents_of lines_text text_of
two_parts = refl

pub a_fault : fault_text 3 1042 ≡ bytes "tariff refused 3 at 1042\n"
unfolding bytes digit digits_in decimal fault_text
a_fault = refl
