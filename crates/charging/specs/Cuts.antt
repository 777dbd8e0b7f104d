-- Rules, section 10: what caps took off each person's price, and which cap did.
-- w stands for the words that count: the book's own in the open window, a fresh book's in the next (ledger/Windows: in_window).
use Rattle.std.specs.Prelude.{ℕ, ◌-◌, List, Bool}
use Rattle.caps.specs.declared.Cut.{Cut}
use Rattle.caps.specs.Named.{name_in}
use Rattle.layout.specs.declared.Counts.{Counts}
use Rattle.trip.specs.declared.Ride.{Ride}
use Rattle.ledger.specs.Words.{second_sum, all_sum}
use Rattle.charging.specs.Caps.{tree_of}
use Rattle.charging.specs.Charging.{price_for, rider_charge, each_person}

-- the price less the charge, and the cap that is named for it
unfoldable pub rider_cut : List ℕ → Counts → List ℕ → Ride → Bool → ℕ → Cut
rider_cut tariff counts w ride child rider =
    let price = price_for tariff counts ride child in
    let name = name_in (tree_of tariff counts child) (second_sum w rider) (all_sum w rider) ride.class ride.area price in
    record { reduction = record { 0 = price - rider_charge tariff counts w ride child rider }; area = name.area; class = name.class }

-- of each person: bicycles have no caps
unfoldable pub cuts_of : List ℕ → Counts → List ℕ → Ride → List Cut
cuts_of tariff counts w ride = each_person ride.party (rider_cut tariff counts w ride)
