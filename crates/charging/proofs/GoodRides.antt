-- The rides of a trip that meets none of 5 to 9 can be charged: each is in one of the tariff's areas, goes no farther than across the plane,
-- takes at most a day, and its party is in its ranges.
-- Assumes nothing.
use Prim.Native.Nat.{ℕ, ◌-◌, ◌≤◌, ◌<◌}
use native.Mathlib.Omega.{arith}
use mathlib.Core.Path.{◌≡◌}
use mathlib.Core.Bool.{Bool, true}
use mathlib.Core.List.{List}
use Rattle.units.specs.Day.{day_minutes}
use Rattle.layout.specs.declared.Counts.{Counts}
use Rattle.layout.specs.Scan.{Read}
use Rattle.trip.specs.Record.{count_at}
use Rattle.trip.specs.Trips.{trip_of}
use Rattle.trip.specs.Clauses.{GoodTrip}
use Rattle.trip.proofs.Clear.{good_fields}
use Rattle.fare.specs.declared.Breaking.TheVariants.{At}
use Rattle.fare.specs.Rides.{ride_between, ride_of}
use Rattle.fare.specs.Parts.{break_of, first_part, second_part, rides_of}
use Rattle.fare.specs.Clauses.{EachRide}
use Rattle.fare.proofs.Stops.{ride_there}
use Rattle.fare.proofs.Breaks.{broken_between}
use Rattle.fare.proofs.PartLaws.{each_ride}
use Rattle.fare.proofs.GoodTrips.{riding}
use Rattle.ledger.specs.Sound.{covers_sound, sound_alone}
use Rattle.charging.specs.Clauses.{Rideable}

-- Of a good trip, on a book that is sound by itself, and in the open window within the tariff's areas:
module _ (tariff : List ℕ) (counts : Counts) (book : List ℕ) (current : Bool) (bytes : List ℕ) (read : Read tariff counts)
    (alone : sound_alone book ≡ true) (covers : current ≡ true → covers_sound book counts.areas ≡ true) (good : GoodTrip bytes counts.stops) where
  -- the ride from one of its stops to another
  pub good_between :
      (first last minutes : ℕ) → first ≤ last → last < count_at bytes 0 → minutes ≤ day_minutes
      → Rideable tariff counts book current (ride_between tariff counts bytes (trip_of bytes) first last minutes)
  unfolding ride_between
  good_between first last minutes order inside short =
      let fields = good_fields good in
      let is = ride_there (trip_of bytes) (riding read good) first last minutes order inside short in
      record {
        read = read;
        alone = alone;
        covers = covers;
        area = is.there;
        km = is.km;
        minutes = short;
        adults = fields.ranges.adults;
        children = fields.ranges.children;
        bicycles = fields.ranges.bicycles;
      }

  -- the whole of it
  pub good_ride : Rideable tariff counts book current (ride_of tariff counts bytes (trip_of bytes))
  unfolding ride_of
  good_ride =
      let fields = good_fields good in
      good_between 0 (count_at bytes 0 - 1) _ (omega arith) (omega (arith, fields.ranges.least)) (omega (arith, fields.short))

  -- both parts, where it is broken
  pub good_first : (c : ℕ) → break_of tariff counts bytes (count_at bytes 0) ≡ At c → Rideable tariff counts book current (first_part tariff counts bytes (trip_of bytes) c)
  unfolding first_part
  good_first c broken =
      let fields = good_fields good in
      good_between 0 c _ (omega arith) (omega (arith, (broken_between (riding read good) c broken).1)) (omega (arith, fields.short))

  pub good_second : (c : ℕ) → break_of tariff counts bytes (count_at bytes 0) ≡ At c → Rideable tariff counts book current (second_part tariff counts bytes (trip_of bytes) c)
  unfolding second_part
  good_second c broken =
      let fields = good_fields good in
      let inside = (broken_between (riding read good) c broken).1 in
      good_between c (count_at bytes 0 - 1) 0 (omega arith) (omega (arith, fields.ranges.least)) (omega arith)

  -- so each of its rides
  pub good_rides : EachRide (Rideable tariff counts book current) (rides_of tariff counts bytes (trip_of bytes))
  good_rides =
      each_ride tariff counts bytes (trip_of bytes) (Rideable tariff counts book current) (λ unbroken. good_ride)
      (λ c broken. (good_first c broken, good_second c broken))
