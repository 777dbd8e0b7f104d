-- Rules, section 11: what a bicycle is charged, and the words that a ride leaves it.
use Rattle.std.specs.Prelude.{ℕ, zero, suc, ◌+◌, ◌-◌, min, List, cond, eqb}
use Rattle.layout.specs.declared.Counts.{Counts}
use Rattle.layout.specs.Rules.{flat_of}
use Rattle.areas.specs.Areas.{smallest_of, is_aachen, bicycle_price_of}
use Rattle.ledger.specs.Words.{cover_word, paid_word, put_word, cover_place, paid_place}

-- a bicycle's new covering area: the smallest containing the trip's area and its old covering area, if any
unfoldable pub new_cover : List ℕ → Counts → ℕ → ℕ → ℕ
new_cover tariff counts area old = cond (eqb old 0) area (smallest_of tariff area (old - 1))

-- what a bicycle pays for a ride where its covering area is of kind 8: the smaller of the area's price per trip and what its cap has left over
-- the bicycle's payments in the window (0 if passed)
unfoldable pub payment : List ℕ → Counts → ℕ → ℕ → ℕ
payment tariff counts cover paid = min (bicycle_price_of tariff cover) (flat_of tariff cover - paid)

-- the old covering area's flat: 0 if unused, and an area of kind 8 counts as unused, whatever was paid there
unfoldable pub flat_before : List ℕ → Counts → ℕ → ℕ
flat_before tariff counts old = cond (eqb old 0) 0 (cond (is_aachen tariff (old - 1)) 0 (flat_of tariff (old - 1)))

-- the new covering area decides: in kind 8 the payment per trip, else its flat less the old one's
unfoldable pub bicycle_charge : List ℕ → Counts → ℕ → ℕ → ℕ → ℕ
bicycle_charge tariff counts area old paid =
    let new = new_cover tariff counts area old in
    cond (is_aachen tariff new) (payment tariff counts new paid) (flat_of tariff new - flat_before tariff counts old)

-- a bicycle's payments after a ride, by its covering area then: in kind 8 what it pays for the ride is added
unfoldable pub paid_with : List ℕ → Counts → ℕ → ℕ → ℕ
paid_with tariff counts cover paid = cond (is_aachen tariff cover) (paid + payment tariff counts cover paid) paid

-- the new covering areas of the first `count` bicycles, and their payments
unfoldable pub cover_bicycles : List ℕ → Counts → ℕ → ℕ → List ℕ → List ℕ
cover_bicycles tariff counts area zero book = book
cover_bicycles tariff counts area (suc count) book =
    let before = cover_bicycles tariff counts area count book in
    let new = new_cover tariff counts area (cover_word before count) in
    put_word (put_word before (cover_place count) (1 + new)) (paid_place count) (paid_with tariff counts new (paid_word before count))
