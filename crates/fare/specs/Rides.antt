-- Rules, section 7: the area of a trip, or of a part, is the smallest containing all its stops; kilometres lie between its first and last stop;
-- a trip's duration is check-out minus check-in.
use Rattle.std.specs.Prelude.{ℕ, zero, suc, ◌+◌, ◌-◌, ◌≤◌, ◌<◌, ◌≡◌, List, true}
use Rattle.layout.specs.declared.Counts.{Counts}
use Rattle.layout.specs.declared.Stop.{Stop}
use Rattle.areas.specs.Areas.{stop_at, lies_within, smallest_of}
use Rattle.trip.specs.declared.Trip.{Trip}
use Rattle.trip.specs.Record.{stop_number}
use Rattle.trip.specs.declared.Ride.{Ride}
use Rattle.fare.specs.Distance.{apart, km_of}

-- the trip's stop i, counted from 0
unfoldable pub stop_of : List ℕ → Counts → List ℕ → ℕ → Stop
stop_of tariff counts trip i = stop_at tariff counts (stop_number trip i)

-- the smallest area containing the stop `first` and the `more` stops after it
unfoldable pub area_of_stops : List ℕ → Counts → List ℕ → ℕ → ℕ → ℕ
area_of_stops tariff counts trip first zero = (stop_of tariff counts trip first).area
area_of_stops tariff counts trip first (suc more) =
    smallest_of tariff (area_of_stops tariff counts trip first more) (stop_of tariff counts trip (first + suc more)).area

-- it contains the area of each of those stops, and lies within every area that contains them all
pub record AreaOfStops (tariff : List ℕ) (counts : Counts) (trip : List ℕ) (first last r : ℕ) : Type 0 where
  pub value : r ≡ area_of_stops tariff counts trip first (last - first)
  pub there : r < counts.areas
  pub contains : (i : ℕ) → first ≤ i → i ≤ last → lies_within tariff (stop_of tariff counts trip i).area r ≡ true
  pub least :
      (d : ℕ) → ((i : ℕ) → first ≤ i → i ≤ last → lies_within tariff (stop_of tariff counts trip i).area d ≡ true)
      → lies_within tariff r d ≡ true

-- the ride from one stop of a trip to another, in so many minutes: the smallest area containing the stops from the one to the other, the
-- kilometres between these two, and the trip's class, level and party
unfoldable pub ride_between : List ℕ → Counts → List ℕ → Trip → ℕ → ℕ → ℕ → Ride
ride_between tariff counts bytes trip first last minutes =
    record {
      area = area_of_stops tariff counts bytes first (last - first);
      km = record { 0 = km_of (apart (stop_of tariff counts bytes first) (stop_of tariff counts bytes last)) };
      minutes = record { 0 = minutes };
      class = trip.class;
      level = trip.level;
      party = trip.party;
    }

-- check-out minus check-in
abbrev pub duration_of : Trip → ℕ
duration_of trip = trip.checkout.0 - trip.checkin.0

-- a trip's last stop
abbrev pub last_of : Trip → ℕ
last_of trip = trip.stops - 1

-- the ride that a whole trip is
unfoldable pub ride_of : List ℕ → Counts → List ℕ → Trip → Ride
ride_of tariff counts bytes trip = ride_between tariff counts bytes trip 0 (last_of trip) (duration_of trip)
