-- The rides that a trip is charged as: the whole trip, or its two parts; each of the trip's class, level and party, and in its ranges.
-- Assumes nothing.
use Prim.Native.Nat.{ℕ, ◌+◌, ◌-◌, ◌≤◌, ◌<◌}
use native.Mathlib.Omega.{arith}
use native.Mathlib.Decide.{dec_lt}
use mathlib.Core.Path.{◌≡◌, refl, sym}
use mathlib.Core.List.{List, [], ◌∷◌}
use lib.ListN.{length}
use Rattle.layout.specs.declared.Counts.{Counts}
use Rattle.areas.specs.Areas.{smallest_of}
use Rattle.areas.proofs.Faultless.{faultless}
use Rattle.areas.proofs.Within.{within_trans, smallest_unique}
use Rattle.trip.specs.declared.Trip.{Trip}
use Rattle.trip.specs.declared.Ride.{Ride}
use Rattle.fare.specs.declared.Breaking.{Breaking}
use Rattle.fare.specs.declared.Breaking.TheVariants.{Unbroken, At}
use Rattle.fare.specs.Rides.{area_of_stops, AreaOfStops, ride_between, ride_of}
use Rattle.fare.specs.Parts.{break_of, first_part, second_part, rides_of}
use Rattle.fare.specs.Clauses.{Riding, InOrder, RideIs, EachRide, none, more, OfTrip}
use Rattle.fare.proofs.Stops.{stop_there, area-of-stops, times, ride_there}
use Rattle.fare.proofs.Breaks.{broken_between}

-- The smallest area that contains both parts is the trip's: so f is that of the region that contains both, or the state's.
module _ {tariff : List ℕ} {counts : Counts} {bytes : List ℕ} {n : ℕ} (riding : Riding tariff counts bytes n) where
  between : (first last : ℕ) → first ≤ last → last < n → AreaOfStops tariff counts bytes first last (area_of_stops tariff counts bytes first (last - first))
  between first last order inside =
      let place : first + (last - first) ≡ last = omega arith in
      rw place at (area-of-stops riding first (last - first) (omega arith))

  pub parts_area :
      (c : ℕ) → c < n
      → smallest_of tariff (area_of_stops tariff counts bytes 0 (c - 0)) (area_of_stops tariff counts bytes c (n - 1 - c))
      ≡ area_of_stops tariff counts bytes 0 (n - 1 - 0)
  parts_area c inside =
      let t = faultless tariff counts riding.read in
      let one = between 0 c (omega arith) inside in
      let other = between c (n - 1) (omega arith) (omega arith) in
      let whole = between 0 (n - 1) (omega arith) (omega arith) in
      sym
      (smallest_unique t _ _ _ one.there other.there (one.least _ (λ i h h'. whole.contains i h (omega arith)))
      (other.least _ (λ i h h'. whole.contains i (omega arith) h'))
      (λ d in_one in-other.
      whole.least d
      (λ i h h'.
      elim (dec_lt i c) [
        | yes before ↦
            within_trans t _ _ d (stop_there riding i (omega arith)).ranges.area (one.contains i h (omega arith)) in_one
        | no not_before ↦
            within_trans t _ _ d (stop_there riding i (omega arith)).ranges.area (other.contains i (omega arith) h') in-other
      ])))

module _ (tariff : List ℕ) (counts : Counts) (bytes : List ℕ) (trip : Trip) where
  abbrev broken : Breaking
  broken = break_of tariff counts bytes trip.stops

  abbrev rides : List Ride
  rides = rides_of tariff counts bytes trip

  -- unbroken it is one ride, broken it is two
  pub one_ride : broken ≡ Unbroken → rides ≡ ride_of tariff counts bytes trip ∷ []
  unfolding rides_of
  one_ride e = rw (e, rides_of)

  pub two_rides : (c : ℕ) → broken ≡ At c → rides ≡ first_part tariff counts bytes trip c ∷ second_part tariff counts bytes trip c ∷ []
  unfolding rides_of
  two_rides c e = rw (e, rides_of)

  pub few_rides : (1 ≤ length rides) × (length rides ≤ 2)
  few_rides = go broken refl
    where
      go : (b : Breaking) → broken ≡ b → (1 ≤ length rides) × (length rides ≤ 2)
      go (Unbroken) e = rw (one_ride e) (omega arith, omega arith)
      go (At c) e = rw (two_rides c e) (omega arith, omega arith)

  -- What holds of the whole ride where the trip is unbroken, and of both parts where it is broken, holds of each ride.
  pub each_ride :
      (P : Ride → Type 0) → (broken ≡ Unbroken → P (ride_of tariff counts bytes trip))
      → ((c : ℕ) → broken ≡ At c → P (first_part tariff counts bytes trip c) × P (second_part tariff counts bytes trip c)) → EachRide P rides
  each_ride P whole parts = go broken refl
    where
      go : (b : Breaking) → broken ≡ b → EachRide P rides
      go (Unbroken) e = rw (one_ride e) (more (whole e) none)
      go (At c) e = rw (two_rides c e) (more (parts c e).0 (more (parts c e).1 none))

  -- Each is of the trip's class, level and party.
  between_of_trip : (first last minutes : ℕ) → OfTrip trip (ride_between tariff counts bytes trip first last minutes)
  unfolding ride_between
  between_of_trip first last minutes = record { class = refl; level = refl; party = refl }

  pub rides_of_trip : EachRide (OfTrip trip) rides
  unfolding ride_of first_part second_part
  rides_of_trip = each_ride (OfTrip trip) (λ e. between_of_trip _ _ _) (λ c e. (between_of_trip _ _ _, between_of_trip _ _ _))

  -- Each is in its ranges, where the tariff has the stops and the trip goes from its first to its last in at most a day.
  module _ (riding : Riding tariff counts bytes trip.stops) (order : InOrder trip) where
    pub whole_there : RideIs counts (ride_of tariff counts bytes trip) (ride_of tariff counts bytes trip)
    unfolding ride_of
    whole_there = ride_there trip riding 0 _ _ (omega arith) (omega arith) (omega (arith, (times trip order).1))

    pub first_there : (c : ℕ) → broken ≡ At c → RideIs counts (first_part tariff counts bytes trip c) (first_part tariff counts bytes trip c)
    unfolding first_part
    first_there c e = ride_there trip riding 0 c _ (omega arith) (omega (arith, (broken_between riding c e).1)) (omega (arith, (times trip order).1))

    pub second_there : (c : ℕ) → broken ≡ At c → RideIs counts (second_part tariff counts bytes trip c) (second_part tariff counts bytes trip c)
    unfolding second_part
    second_there c e = ride_there trip riding c _ 0 (omega (arith, (broken_between riding c e).1)) (omega arith) (omega arith)

    pub rides_there : EachRide (λ r. RideIs counts r r) rides
    rides_there = each_ride (λ r. RideIs counts r r) (λ e. whole_there) (λ c e. (first_there c e, second_there c e))
