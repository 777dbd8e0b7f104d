-- docs/RULES.md, R7.6 and the second row of 6, in words of their own: whose factor holds for the two parts of a trip, and where there is no first
-- class.
use Rattle.std.specs.Prelude.{ℕ, ◌-◌, ◌<◌, ◌≡◌, List, true}
use Rattle.layout.specs.declared.Counts.{Counts}
use Rattle.layout.specs.declared.Factor.{Factor}
use Rattle.layout.specs.Rules.{level_of, wide_areas}
use Rattle.areas.specs.Areas.{factor_at, lies_within}
use Rattle.trip.specs.declared.Trip.{Trip}
use Rattle.fare.specs.Rides.{last_of, area_of_stops}
use Rattle.fare.specs.Parts.{rides_of}
use Rattle.fare.specs.Towns.{MarkedTown, SomeRide}

-- ---- The factor.

-- a region that contains two areas
pub record RegionOfBoth (tariff : List ℕ) (counts : Counts) (one other region : ℕ) : Type 0 where
  pub there : region < counts.areas
  pub level : level_of tariff region ≡ 1
  pub contains_one : lies_within tariff one region ≡ true
  pub contains_other : lies_within tariff other region ≡ true

-- the region containing both, or the state where none does
pub data HoldsForBoth (tariff : List ℕ) (counts : Counts) (one other : ℕ) : ℕ → Type 0 where
  the-region : {region : ℕ} → RegionOfBoth tariff counts one other region → HoldsForBoth tariff counts one other region
  the-state : ((region : ℕ) → RegionOfBoth tariff counts one other region → ⊥) → HoldsForBoth tariff counts one other 0

-- its factor record: factor records stand in the order of the state and the regions
pub record FactorForBoth (tariff : List ℕ) (counts : Counts) (one other : ℕ) (factor : Factor) : Type 0 where
  pub whose : ℕ
  pub holds : HoldsForBoth tariff counts one other whose
  pub is : factor ≡ factor_at tariff counts (wide_areas tariff whose)

-- ---- First class.

-- the trip's own area is such a town, or that of one of its parts is
pub data InSuchTown (tariff : List ℕ) (counts : Counts) (bytes : List ℕ) (trip : Trip) : Type 0 where
  the-trip : MarkedTown tariff counts (area_of_stops tariff counts bytes 0 (last_of trip - 0)) → InSuchTown tariff counts bytes trip
  a_part : SomeRide (λ ride. MarkedTown tariff counts ride.area) (rides_of tariff counts bytes trip) → InSuchTown tariff counts bytes trip

pub record FirstClassOfTrip (tariff : List ℕ) (counts : Counts) (bytes : List ℕ) (trip : Trip) : Type 0 where
  pub first_class : trip.class ≡ 1
  pub in-town : InSuchTown tariff counts bytes trip
