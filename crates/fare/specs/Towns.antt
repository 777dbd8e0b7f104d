-- Rules, section 13: the second row of 6. A marked town has no first class, neither of a trip nor of one of its parts.
use Rattle.std.specs.Prelude.{ℕ, ◌≡◌, List, [], ◌∷◌, Bool, false, ◌&&◌, ◌||◌, eqb}
use Rattle.layout.specs.declared.Town.TheVariants.{BaseDropped, KmDropped}
use Rattle.layout.specs.declared.Counts.{Counts}
use Rattle.areas.specs.Areas.{town_at, in_marked_town}
use Rattle.trip.specs.declared.Trip.{Trip}
use Rattle.trip.specs.declared.Ride.{Ride}
use Rattle.fare.specs.Parts.{rides_of}

-- the area of one of some rides is a marked town
unfoldable pub some_in_town : List ℕ → Counts → List Ride → Bool
some_in_town tariff counts [] = false
some_in_town tariff counts (ride ∷ rest) = in_marked_town tariff ride.area || some_in_town tariff counts rest

-- class 1, and the area of one of the trip's rides is a marked town
unfoldable pub town_refuses : List ℕ → Counts → List ℕ → Trip → Bool
town_refuses tariff counts bytes trip = eqb trip.class 1 && some_in_town tariff counts (rides_of tariff counts bytes trip)

-- The same in the rule's words. The area is a town where the base price or the km price is dropped;
pub data MarkedTown (tariff : List ℕ) (counts : Counts) (area : ℕ) : Type 0 where
  base_dropped : town_at tariff area ≡ BaseDropped → MarkedTown tariff counts area
  km_dropped : town_at tariff area ≡ KmDropped → MarkedTown tariff counts area

-- one ride of some is such;
pub data SomeRide (P : Ride → Type 0) : List Ride → Type 0 where
  this_ride : {ride : Ride} {rest : List Ride} → P ride → SomeRide P (ride ∷ rest)
  later_ride : {ride : Ride} {rest : List Ride} → SomeRide P rest → SomeRide P (ride ∷ rest)

-- and so the trip is in first class where there is none
pub record FirstClassInTown (tariff : List ℕ) (counts : Counts) (bytes : List ℕ) (trip : Trip) : Type 0 where
  pub first_class : trip.class ≡ 1
  pub in-town : SomeRide (λ ride. MarkedTown tariff counts ride.area) (rides_of tariff counts bytes trip)
