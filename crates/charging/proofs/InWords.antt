-- The charge in the rules' words: what settling computes is what the words say, whatever the sums are; and the words say one charge alone.
-- Assumes nothing.
use Prim.Native.Nat.{ℕ, ◌≤◌, ◌<◌}
use native.Mathlib.Nat.{le_antisymm}
use native.Mathlib.Omega.{arith}
use native.Mathlib.Decide.{dec_lt}
use mathlib.Core.Path.{◌≡◌}
use mathlib.Core.Logic.{inl, inr, ⊎_elim}
use mathlib.Core.List.{List}
use Rattle.caps.specs.Named.{name_in}
use Rattle.caps.proofs.Charge.{charge_smallest}
use Rattle.caps.proofs.NamedCaps.{charge_least, name_says}
use Rattle.layout.specs.declared.Counts.{Counts}
use Rattle.areas.specs.Areas.{FaultlessTariff}
use Rattle.trip.specs.declared.Ride.{Ride}
use Rattle.ledger.specs.Words.{second_sum, all_sum}
use Rattle.charging.specs.Caps.{tree_of}
use Rattle.charging.specs.Charging.{is_child, price_for, rider_charge}
use Rattle.charging.specs.InWords.{ChargeSays}
use Rattle.charging.proofs.Trees.{is_tree}

-- A rider's charge is the smallest of the price and what each of the ride's caps has left: where it is less than the price, the cap that is
-- named has left it.
pub charge_says :
    {tariff : List ℕ} {counts : Counts} → FaultlessTariff tariff counts → (w : List ℕ) (ride : Ride) → ride.area < counts.areas → (rider : ℕ)
    → ChargeSays tariff counts w ride rider (rider_charge tariff counts w ride (is_child rider) rider)
unfolding rider_charge
charge_says {tariff} {counts} t w ride here rider =
    let second = second_sum w rider in
    let all = all_sum w rider in
    let price = price_for tariff counts ride (is_child rider) in
    let tree = is_tree t (is_child rider) in
    let most = (charge_smallest tree second all ride.class ride.area here price).most in
    record {
      at_most_price = most;
      at_most_left = charge_least tree second all ride.class ride.area here price;
      one_of_them =
          elim (dec_lt (rider_charge tariff counts w ride (is_child rider) rider) price) [
            | yes cut ↦
                inr (
                  name_in (tree_of tariff counts (is_child rider)) second all ride.class ride.area price,
                  (name_says tree second all ride.class ride.area here price cut).one_of_them,
                )
            | no whole ↦ inl (omega arith)
          ];
    }

-- There is no other smallest.
pub charge_one :
    {tariff : List ℕ} {counts : Counts} {w : List ℕ} {ride : Ride} {rider charge charge' : ℕ} → ChargeSays tariff counts w ride rider charge
    → ChargeSays tariff counts w ride rider charge' → charge ≡ charge'
charge_one {tariff} {counts} {w} {ride} {rider} c c' = le_antisymm (less c c') (less c' c)
  where
    less : {m n : ℕ} → ChargeSays tariff counts w ride rider m → ChargeSays tariff counts w ride rider n → m ≤ n
    less {m} {n} c c' =
        ⊎_elim (λ (is : n ≡ price_for tariff counts ride (is_child rider)). rw is c.at_most_price) (λ by. c.at_most_left by.0 n by.1) c'.one_of_them
