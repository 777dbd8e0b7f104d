-- The steps make the price, by the area's kind. Only the surcharge raises an amount, and that at most to its double: so no price is above
-- 3,790,000 cents.
-- Assumes nothing.
use Prim.Native.Nat.{ℕ, ◌*◌, ◌≤◌}
use native.Mathlib.Nat.{le_refl, mul-le-mul}
use native.Mathlib.Omega.{arith}
use mathlib.Core.Path.{◌≡◌, refl}
use mathlib.Core.Bool.{Bool, true, false, cond}
use lib.Dec.{eqb}
use Rattle.units.specs.Day.{day_minutes}
use Rattle.units.specs.declared.Cap.{Cap}
use Rattle.units.specs.declared.Cents.{Cents}
use Rattle.units.specs.Rounding.{periods, raised_by}
use Rattle.units.specs.Caps.{capped_by}
use Rattle.units.proofs.Rounding.{periods_least, raised_most, reduced_most}
use Rattle.units.proofs.Caps.{capped_most}
use Rattle.layout.specs.declared.TripCap.{TripCap}
use Rattle.layout.specs.declared.Town.{Town}
use Rattle.layout.specs.declared.Town.TheVariants.{Unmarked, BaseDropped, KmDropped}
use Rattle.layout.specs.declared.Kind.{Kind}
use Rattle.layout.specs.declared.Kind.TheVariants.{Common, Aachen}
use Rattle.layout.specs.declared.Area.{Area}
use Rattle.areas.specs.Areas.{AreaRanges}
use Rattle.trip.specs.declared.Ride.{Ride}
use Rattle.units.specs.Plane.{most_km}
use Rattle.units.specs.Price.{most_price}
use Rattle.prices.specs.Prices.{
  most_base_part,
  most_km_part,
  most_far,
  base_part,
  km_part,
  step1,
  step2,
  step3,
  step4,
  trip_cap,
  common_price,
  town_step1,
  raised_or_compared,
  aachen_adult,
  aachen_child,
  price_of,
}
use Rattle.prices.specs.Clauses.{Amount, Priceable}

-- Step 1's two parts: at most 48 periods, and at most 1,415 kilometres.
pub base_most : (area : Area) (minutes : ℕ) → AreaRanges area → minutes ≤ day_minutes → base_part area minutes ≤ most_base_part
unfolding base_part
base_most area minutes ranges short =
    let few : periods minutes area.validity.0 ≤ 48 = periods_least _ _ 48 (omega arith) (omega arith) (omega arith) in
    mul-le-mul ranges.base-price few

pub km_most : (area : Area) (km : ℕ) → AreaRanges area → km ≤ most_km → km_part area km ≤ most_km_part
unfolding km_part
km_most area km ranges near = mul-le-mul ranges.price-per-km near

pub step1_most : (area : Area) (minutes km : ℕ) → AreaRanges area → minutes ≤ day_minutes → km ≤ most_km → step1 area minutes km ≤ most_far
unfolding step1
step1_most area minutes km ranges short near = omega (arith, base_most area minutes ranges short, km_most area km ranges near)

pub step2_most : (area : Area) (minutes level amount : ℕ) → step2 area minutes level amount ≤ amount
unfolding step2
step2_most area minutes level amount = capped_most (trip_cap area.trip_cap minutes level) amount

pub step3_most : (area : Area) (class amount : ℕ) → AreaRanges area → step3 area class amount ≤ 2 * amount
unfolding step3
step3_most area class amount ranges = go (eqb class 1)
  where
    go : (first : Bool) → cond first (raised_by area.surcharge amount) amount ≤ 2 * amount
    go true = raised_most amount area.surcharge ranges.surcharge
    go false = omega arith

pub step4_most : (area : Area) (child : Bool) (amount : ℕ) → step4 area child amount ≤ amount
unfolding step4
step4_most area true amount = reduced_most amount area.reduction
step4_most area false amount = le_refl amount

-- Kind 1: the steps in their order, each on what the one before it gives.
pub common_priced :
    (area : Area) (ride : Ride) (child : Bool) {far trip adult r : ℕ} → Amount most_far (step1 area ride.minutes.0 ride.km.0) far
    → Amount far (step2 area ride.minutes.0 ride.level far) trip → Amount (2 * trip) (step3 area ride.class trip) adult
    → r ≡ step4 area child adult → Amount most_price (common_price area ride child) r
unfolding common_price
common_priced area ride child {far} {trip} {adult} {r} first second third fourth =
    record {
      value = rw (fourth, third.value, second.value, first.value);
      range = omega (arith, step4_most area child adult);
    }

pub common_most : (area : Area) (ride : Ride) (child : Bool) → Priceable area ride → common_price area ride child ≤ most_price
unfolding common_price
common_most area ride child ok =
    (common_priced area ride child (record { value = refl; range = step1_most area _ _ ok.ranges ok.minutes ok.km })
    (record { value = refl; range = step2_most area _ _ _ })
    (record { value = refl; range = step3_most area _ _ ok.ranges })
    refl).range

-- Kind 8: what is left of step 1 in a town is no more, a child's reduction takes off, and only first class raises.
pub town_most : (area : Area) (town : Town) (ride : Ride) → Priceable area ride → town_step1 area town ride ≤ most_far
unfolding town_step1
town_most area (Unmarked) ride ok = step1_most area _ _ ok.ranges ok.minutes ok.km
town_most area (BaseDropped) ride ok = omega (arith, km_most area ride.km.0 ok.ranges ok.km)
town_most area (KmDropped) ride ok = omega (arith, base_most area ride.minutes.0 ok.ranges ok.minutes)

pub raised_or_compared_most :
    (area : Area) (class : ℕ) (ticket : Cap) (amount : ℕ) → AreaRanges area → amount ≤ most_far
    → raised_or_compared area class ticket amount ≤ most_price
unfolding raised_or_compared
raised_or_compared_most area class ticket amount ranges few = go (eqb class 1)
  where
    go : (first : Bool) → cond first (raised_by area.surcharge amount) (capped_by ticket amount) ≤ most_price
    go true = omega (arith, raised_most amount area.surcharge ranges.surcharge)
    go false = omega (arith, capped_most ticket amount)

pub aachen_adult_most : (area : Area) (town : Town) (ride : Ride) → Priceable area ride → aachen_adult area town ride ≤ most_price
unfolding aachen_adult
aachen_adult_most area town ride ok = raised_or_compared_most area _ _ _ ok.ranges (town_most area town ride ok)

pub aachen_child_most :
    (area : Area) (sort : TripCap) (town : Town) (ride : Ride) → Priceable area ride → aachen_child area sort town ride ≤ most_price
unfolding aachen_child
aachen_child_most area sort town ride ok =
    raised_or_compared_most area _ _ _ ok.ranges
    (omega (arith, reduced_most (town_step1 area town ride) area.reduction, town_most area town ride ok))

-- The price, by the area's kind.
pub price_common : (area : Area) (ride : Ride) (child : Bool) → area.kind ≡ Common → price_of area ride child ≡ common_price area ride child
unfolding price_of
price_common area ride child e = rw e

module _ (area : Area) (ride : Ride) (ticket : TripCap) (price : Cents) (town : Town) (is : area.kind ≡ Aachen ticket price town) where
  pub price_adult : price_of area ride false ≡ aachen_adult area town ride
  unfolding price_of
  price_adult = rw is

  pub price_child : price_of area ride true ≡ aachen_child area ticket town ride
  unfolding price_of
  price_child = rw is

-- No price is above the most.
pub price_most : (area : Area) (ride : Ride) (child : Bool) → Priceable area ride → price_of area ride child ≤ most_price
price_most area ride child ok = go area.kind refl child
  where
    go : (kind : Kind) → area.kind ≡ kind → (child : Bool) → price_of area ride child ≤ most_price
    go (Common) e child = rw (price_common area ride child e) (common_most area ride child ok)
    go (Aachen ticket price town) e true = rw (price_child area ride ticket price town e) (aachen_child_most area ticket town ride ok)
    go (Aachen ticket price town) e false = rw (price_adult area ride ticket price town e) (aachen_adult_most area town ride ok)

-- In an area of kind 1 a child's price is at most an adult's. In one of kind 8 the tariff's child tickets may say otherwise.
pub child_most : (area : Area) (ride : Ride) → area.kind ≡ Common → price_of area ride true ≤ price_of area ride false
unfolding common_price step4
child_most area ride e = rw (price_common area ride true e, price_common area ride false e) (reduced_most _ area.reduction)
