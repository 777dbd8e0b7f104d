-- What serves contracts alone: what finding a ride asks, and each answer with its range.
use Rattle.std.specs.Prelude.{ℕ, ◌+◌, ◌-◌, ◌*◌, ◌≤◌, ◌<◌, ◌≡◌, List, [], ◌∷◌, Bool, true, length}
use Rattle.units.specs.Day.{day_minutes}
use Rattle.units.specs.Plane.{most_km}
use Rattle.layout.specs.declared.Counts.{Counts}
use Rattle.layout.specs.declared.Stop.{Stop}
use Rattle.layout.specs.Rules.{most_metres}
use Rattle.layout.specs.Scan.{Read}
use Rattle.areas.specs.Areas.{StopRanges, in_marked_town}
use Rattle.trip.specs.declared.Trip.{Trip}
use Rattle.trip.specs.Record.{trip_size}
use Rattle.trip.specs.Trips.{stops_known, in_order}
use Rattle.trip.specs.declared.Ride.{Ride}
use Rattle.fare.specs.declared.Breaking.{Breaking}
use Rattle.fare.specs.declared.Breaking.TheVariants.{At}
use Rattle.fare.specs.Distance.{square, apart}
use Rattle.fare.specs.Rides.{stop_of, area_of_stops, duration_of, ride_of}
use Rattle.fare.specs.Parts.{break_of}
use Rattle.fare.specs.Towns.{town_refuses}

-- a trip's bytes with n stops, each of which the faultless tariff has
pub record Riding (tariff : List ℕ) (counts : Counts) (trip : List ℕ) (n : ℕ) : Type 0 where
  pub read : Read tariff counts
  pub known : stops_known trip n counts.stops ≡ true
  pub fits : trip_size n ≤ length trip

-- two stops at least, and check-out at most a day after check-in
pub record InOrder (trip : Trip) : Type 0 where
  pub two : 2 ≤ trip.stops
  pub most : trip.stops ≤ 32
  pub times : in_order trip.checkin.0 trip.checkout.0 ≡ true

-- a stop on the plane
pub record OnPlane (stop : Stop) : Type 0 where
  pub x : stop.x.0 ≤ most_metres
  pub y : stop.y.0 ≤ most_metres

-- the most that dx² + dy² comes to
abbrev pub farthest : ℕ
farthest = 2 * square most_metres

pub record SquaredBetween (a b : Stop) (r : ℕ) : Type 0 where
  pub value : r ≡ apart a b
  pub range : r ≤ farthest

-- a guess of kilometres: whatever it is, the squares that follow fit 64 bits
abbrev pub most_guess : ℕ
most_guess = 2000

-- so many kilometres are not enough
pub record Short (d k : ℕ) : Type 0 where
  pub short : square (1000 * k) < d
  pub range : k ≤ most_guess

pub record StopOf (tariff : List ℕ) (counts : Counts) (trip : List ℕ) (i : ℕ) (r : Stop) : Type 0 where
  pub value : r ≡ stop_of tariff counts trip i
  pub ranges : StopRanges counts.areas r

pub record DurationOf (trip : Trip) (r : ℕ) : Type 0 where
  pub value : r ≡ duration_of trip
  pub range : r ≤ day_minutes

-- a ride of the trip in an area, so far and so long
abbrev pub ride_on : Trip → ℕ → ℕ → ℕ → Ride
ride_on trip area km minutes =
    record {
      area = area;
      km = record { 0 = km };
      minutes = record { 0 = minutes };
      class = trip.class;
      level = trip.level;
      party = trip.party;
    }

-- a ride by its definition, in one of the tariff's areas, no farther than across the plane and no longer than a day
pub record RideIs (counts : Counts) (ride r : Ride) : Type 0 where
  pub value : r ≡ ride
  pub there : r.area < counts.areas
  pub km : r.km.0 ≤ most_km
  pub minutes : r.minutes.0 ≤ day_minutes

abbrev pub RideOf : List ℕ → Counts → List ℕ → Trip → Ride → Type 0
RideOf tariff counts bytes trip r = RideIs counts (ride_of tariff counts bytes trip) r

-- where a trip is broken, if anywhere: at a stop between the first and the last
pub record BreakOf (tariff : List ℕ) (counts : Counts) (bytes : List ℕ) (stops : ℕ) (r : Breaking) : Type 0 where
  pub value : r ≡ break_of tariff counts bytes stops
  pub change : (c : ℕ) → r ≡ At c → (1 ≤ c) × (c + 1 < stops)

-- each ride of a list
pub data EachRide (P : Ride → Type 0) : List Ride → Type 0 where
  none : EachRide P []
  more : {ride : Ride} {rest : List Ride} → P ride → EachRide P rest → EachRide P (ride ∷ rest)

-- a ride of the trip's class, level and party
pub record OfTrip (trip : Trip) (ride : Ride) : Type 0 where
  pub class : ride.class ≡ trip.class
  pub level : ride.level ≡ trip.level
  pub party : ride.party ≡ trip.party

-- the area of a trip's stops `first` to `last` is a marked town
abbrev pub between_in_town : List ℕ → Counts → List ℕ → ℕ → ℕ → Bool
between_in_town tariff counts bytes first last = in_marked_town tariff (area_of_stops tariff counts bytes first (last - first))

-- whether first class is refused in a town; it goes by the stops and the class of the trip, whatever its stamps are
pub record TownRefuses (tariff : List ℕ) (counts : Counts) (bytes : List ℕ) (stops class : ℕ) (r : Bool) : Type 0 where
  pub value : (trip : Trip) → trip.stops ≡ stops → trip.class ≡ class → r ≡ town_refuses tariff counts bytes trip
