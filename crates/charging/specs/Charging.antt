-- Rules, sections 10 and 11: what each of a party is charged.
-- w stands for the words that count: the book's own in the open window, a fresh book's in the next (ledger/Windows: in_window).
use Rattle.std.specs.Prelude.{ℕ, zero, suc, ◌+◌, ◌-◌, List, [], ◌∷◌, ◌++◌, Bool, true, false, cond, leb, ltb}
use Rattle.caps.specs.Tree.{charge_in}
use Rattle.layout.specs.declared.Counts.{Counts}
use Rattle.areas.specs.Areas.{area_at}
use Rattle.trip.specs.declared.Party.{Party}
use Rattle.trip.specs.declared.Ride.{Ride}
use Rattle.prices.specs.Prices.{price_of}
use Rattle.ledger.specs.Words.{second_sum, all_sum, first_child, cover_word, paid_word}
use Rattle.cycles.specs.Bicycles.{bicycle_charge}
use Rattle.charging.specs.Caps.{tree_of}

-- riders 11 to 20 are the children
abbrev pub is_child : ℕ → Bool
is_child rider = ltb 10 rider

-- whether a party carries a rider: the holder is always there, adults and children are those numbered from 1
abbrev pub carries : Party → ℕ → Bool
carries party rider = cond (is_child rider) (ltb (rider - first_child) party.children) (leb rider party.adults)

-- where a carried rider's charge stands among the party's: account holder, adults, children
abbrev pub place_of : Party → ℕ → ℕ
place_of party rider = cond (is_child rider) (1 + party.adults + (rider - first_child)) rider

-- what a rider pays where no cap cuts it, by whether it is a child
abbrev pub price_for : List ℕ → Counts → Ride → Bool → ℕ
price_for tariff counts ride child = price_of (area_at tariff ride.area) ride child

-- the smallest of the rider's price and what the caps of the ride's area and of every area above have left over the rider's sums
unfoldable pub rider_charge : List ℕ → Counts → List ℕ → Ride → Bool → ℕ → ℕ
rider_charge tariff counts w ride child rider =
    charge_in (tree_of tariff counts child) (second_sum w rider) (all_sum w rider) ride.class ride.area (price_for tariff counts ride child)

-- a bicycle's charge, by its two words
abbrev pub bicycle_of : List ℕ → Counts → List ℕ → Ride → ℕ → ℕ
bicycle_of tariff counts w ride bicycle = bicycle_charge tariff counts ride.area (cover_word w bicycle) (paid_word w bicycle)

-- what something is of `first`, of the number after it and so on, `count` of them
unfoldable pub in_turn : {A : Type 0} → (ℕ → A) → ℕ → ℕ → List A
in_turn of first zero = []
in_turn of first (suc count) = in_turn of first count ++ (of (first + count) ∷ [])

-- and of each person of a party, a child or not: account holder, adults, children
unfoldable pub each_person : {A : Type 0} → Party → (Bool → ℕ → A) → List A
each_person party of = in_turn (of false) 0 (1 + party.adults) ++ in_turn (of true) first_child party.children

-- the persons' charges, and behind them the bicycles'
unfoldable pub charges_of : List ℕ → Counts → List ℕ → Ride → List ℕ
charges_of tariff counts w ride =
    each_person ride.party (rider_charge tariff counts w ride) ++ in_turn (bicycle_of tariff counts w ride) 0 ride.party.bicycles
