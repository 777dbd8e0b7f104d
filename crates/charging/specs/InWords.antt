-- Rules, section 10: what a charge and a cut are, in the rules' words, without a way to find them.
-- w stands for the words that count: the book's own in the open window, a fresh book's in the next (ledger/Windows: in_window).
use Rattle.std.specs.Prelude.{ℕ, ◌+◌, ◌≤◌, ◌<◌, ◌≡◌, ◌⊎◌, List}
use Rattle.caps.specs.declared.Cut.{Cut}
use Rattle.caps.specs.declared.Name.{Name}
use Rattle.caps.specs.Named.{no_name, CapLeft, NamedCap}
use Rattle.layout.specs.declared.Counts.{Counts}
use Rattle.trip.specs.declared.Ride.{Ride}
use Rattle.ledger.specs.Words.{second_sum, all_sum}
use Rattle.charging.specs.Caps.{tree_of}
use Rattle.charging.specs.Charging.{is_child, price_for}

-- the charge is the smallest of the price and what each of the ride's caps has left: it is no more than any of them, and it is one of them.
-- A class 2 ride has both caps of its area and of every area above, a class 1 ride the all-classes ones; what a cap has left is the cap less
-- the rider's sum there, 0 if passed already (caps/Named: CapLeft)
pub record ChargeSays (tariff : List ℕ) (counts : Counts) (w : List ℕ) (ride : Ride) (rider charge : ℕ) : Type 0 where
  pub at_most_price : charge ≤ price_for tariff counts ride (is_child rider)
  pub at_most_left :
      (cap : Name) (left : ℕ)
      → CapLeft (tree_of tariff counts (is_child rider)) (second_sum w rider) (all_sum w rider) ride.class ride.area cap left
      → charge ≤ left
  pub one_of_them :
      (charge ≡ price_for tariff counts ride (is_child rider))
      ⊎ ((cap : Name)
      × CapLeft (tree_of tariff counts (is_child rider)) (second_sum w rider) (all_sum w rider) ride.class ride.area cap charge)

-- what caps took off makes up the price with the charge. Where that is nothing, no cap is named; else the one that left the least is, which is
-- what is charged: of several the widest area's, and in one area the second-class cap (caps/Named: NamedCap)
pub record CutSays (tariff : List ℕ) (counts : Counts) (w : List ℕ) (ride : Ride) (rider charge : ℕ) (cut : Cut) : Type 0 where
  pub makes_up : charge + cut.reduction.0 ≡ price_for tariff counts ride (is_child rider)
  pub none : cut.reduction.0 ≡ 0 → (cut.area ≡ no_name.area) × (cut.class ≡ no_name.class)
  pub named :
      0 < cut.reduction.0
      → NamedCap (tree_of tariff counts (is_child rider)) (second_sum w rider) (all_sum w rider) ride.class ride.area charge
      (record { area = cut.area; class = cut.class })
