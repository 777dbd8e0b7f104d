-- The smallest area of a range of stops: it contains each, and lies within every area that contains them all; there is no other.
-- Assumes nothing.
use Prim.Native.Nat.{ℕ, zero, suc, ◌+◌, ◌-◌, ◌*◌, ◌≤◌, ◌<◌}
use native.Mathlib.Nat.{add-zero}
use native.Mathlib.Omega.{arith}
use native.Mathlib.Decide.{ℕ_discrete}
use mathlib.Core.Path.{◌≡◌, refl}
use mathlib.Core.Bool.{true, and-eq-true_iff}
use mathlib.Core.List.{List}
use borrow.Author.Tests.{leb-true, ltb-true}
use lib.Dec.{leb, ltb}
use Rattle.units.specs.Day.{day_minutes}
use Rattle.wire.proofs.Each.{each_at}
use Rattle.layout.specs.declared.Counts.{Counts}
use Rattle.layout.specs.declared.Stop.{Stop}
use Rattle.areas.specs.Areas.{lies_within, Smallest, StopRanges, FaultlessTariff}
use Rattle.areas.proofs.Faultless.{faultless}
use Rattle.areas.proofs.Within.{within_refl, within_trans, within_there, within_antisym, smallest}
use Rattle.trip.specs.declared.Trip.{Trip}
use Rattle.trip.specs.Record.{stop_number}
use Rattle.trip.specs.Trips.{stops_known}
use Rattle.fare.specs.Distance.{square, gap, apart, km_of, LeastKm}
use Rattle.units.specs.Plane.{most_km}
use Rattle.fare.specs.Rides.{stop_of, area_of_stops, AreaOfStops, ride_between}
use Rattle.fare.specs.Clauses.{Riding, InOrder, StopOf, RideIs, ride_on}
use Rattle.fare.proofs.Distance.{across, km-holds, km_least, km_range}

-- two stops of the plane are no farther apart than 1,415 kilometres reach
pub apart_most : {areas : ℕ} (from to : Stop) → StopRanges areas from → StopRanges areas to → apart from to ≤ square (1000 * most_km)
unfolding apart
apart_most from to one other =
    omega (arith, across (gap from.x.0 to.x.0) (gap from.y.0 to.y.0) (omega arith) (omega arith))

-- Of a trip with n stops, each of which the faultless tariff has:
module _ {tariff : List ℕ} {counts : Counts} {trip : List ℕ} {n : ℕ} (riding : Riding tariff counts trip n) where
  right : FaultlessTariff tariff counts
  right = faultless tariff counts riding.read

  -- the tariff has the stop's number
  pub stop_known : (i : ℕ) → i < n → stop_number trip i < counts.stops
  unfolding stops_known
  stop_known i h = ltb-true _ _ (each_at n (λ j. ltb (stop_number trip j) counts.stops) riding.known i h)

  -- so the stop has its ranges
  pub stop_there : (i : ℕ) → i < n → StopOf tariff counts trip i (stop_of tariff counts trip i)
  unfolding stop_of
  stop_there i h = record { value = refl; ranges = right.stop (stop_number trip i) (stop_known i h) }

  -- the area of one stop
  pub one-stop : (first : ℕ) (s : Stop) → StopOf tariff counts trip first s → AreaOfStops tariff counts trip first first s.area
  unfolding area_of_stops
  one-stop first s of =
      let none : first - first ≡ 0 = omega arith in
      record {
        value = rw (none, of.value);
        there = of.ranges.area;
        contains = λ i h h'. let e : i ≡ first = omega arith in rw (e, of.value) (within_refl tariff _);
        least = λ d all. rw of.value (all first (omega arith) (omega arith));
      }

  -- the area of one stop more
  pub next_stop :
      (first last r : ℕ) (s : Stop) (r' : ℕ) → first ≤ last → last + 1 < n → AreaOfStops tariff counts trip first last r
      → StopOf tariff counts trip (last + 1) s → Smallest tariff counts r s.area r'
      → AreaOfStops tariff counts trip first (last + 1) r'
  unfolding area_of_stops
  next_stop first last r s r' order inside so_far of two =
      let more : last + 1 - first ≡ suc (last - first) = omega arith in
      let place : first + suc (last - first) ≡ last + 1 = omega arith in
      record {
        value = rw (more, place, ← of.value, ← so_far.value) two.value;
        there = two.there;
        contains = λ i h h'.
            elim (ℕ_discrete i (last + 1)) [
              | yes e ↦ rw (e, ← of.value) two.other
              | no ne ↦
                  within_trans right _ r r' (stop_there i (omega arith)).ranges.area (so_far.contains i h (omega arith)) two.one
            ];
        least = λ d all.
            two.least d (so_far.least d (λ i h h'. all i h (omega arith))) (rw of.value (all (last + 1) (omega arith) (omega arith)));
      }

  -- the definition's area of a range of stops
  pub area-of-stops :
      (first more : ℕ) → first + more < n
      → AreaOfStops tariff counts trip first (first + more) (area_of_stops tariff counts trip first more)
  unfolding area_of_stops
  area-of-stops first zero h = rw add-zero (one-stop first _ (stop_there first (omega arith)))
  area-of-stops first (suc more) h =
      let place : first + suc more ≡ first + more + 1 = omega arith in
      let so_far = area-of-stops first more (omega arith) in
      let next = stop_there (first + more + 1) (omega arith) in
      rw place
      (next_stop first (first + more) _ _ _ (omega arith) (omega arith) so_far next
      (smallest right _ _ so_far.there next.ranges.area))

  -- An area that contains each of the stops and lies within every area that contains them all is the smallest.
  pub area_unique :
      (first last r : ℕ) → first ≤ last → last < n
      → ((i : ℕ) → first ≤ i → i ≤ last → lies_within tariff (stop_of tariff counts trip i).area r ≡ true)
      → ((d : ℕ) → ((i : ℕ) → first ≤ i → i ≤ last → lies_within tariff (stop_of tariff counts trip i).area d ≡ true)
      → lies_within tariff r d ≡ true)
      → r ≡ area_of_stops tariff counts trip first (last - first)
  area_unique first last r order inside contains least =
      let place : first + (last - first) ≡ last = omega arith in
      let s = rw place at (area-of-stops first (last - first) (omega arith)) in
      within_antisym right r _
      (within_there right _ r (stop_there first (omega arith)).ranges.area (contains first (omega arith) order)) s.there
      (least _ s.contains) (s.least r contains)

  -- The kilometres between two stops are enough, and no fewer are.
  pub least_between :
      (first last : ℕ) → first < n → last < n
      → LeastKm (apart (stop_of tariff counts trip first) (stop_of tariff counts trip last))
      (km_of (apart (stop_of tariff counts trip first) (stop_of tariff counts trip last)))
  least_between first last h h' =
      let near = apart_most _ _ (stop_there first h).ranges (stop_there last h').ranges in
      record { value = refl; holds = km-holds _ near; least = km_least _ near; range = km_range _ near }

-- Check-out is not before check-in, and at most a day after it.
pub times : (trip : Trip) → InOrder trip → (trip.checkin.0 ≤ trip.checkout.0) × (trip.checkout.0 ≤ trip.checkin.0 + day_minutes)
times trip order =
    let both = (and-eq-true_iff (leb trip.checkin.0 trip.checkout.0) _).0 order.times in
    (leb-true _ _ both.0, leb-true _ _ both.1)

-- the ride from one stop to another, from its area and its kilometres
pub ride :
    (tariff : List ℕ) (counts : Counts) (bytes : List ℕ) (trip : Trip) (first last minutes area km : ℕ)
    → minutes ≤ day_minutes → AreaOfStops tariff counts bytes first last area
    → LeastKm (apart (stop_of tariff counts bytes first) (stop_of tariff counts bytes last)) km
    → RideIs counts (ride_between tariff counts bytes trip first last minutes) (ride_on trip area km minutes)
unfolding ride_between
ride tariff counts bytes trip first last minutes area km short smallest-area far =
    record { value = rw (smallest-area.value, far.value); there = smallest-area.there; km = far.range; minutes = short }

-- so the definition's ride has its ranges
pub ride_there :
    {tariff : List ℕ} {counts : Counts} {bytes : List ℕ} (trip : Trip) {n : ℕ} → Riding tariff counts bytes n
    → (first last minutes : ℕ) → first ≤ last → last < n → minutes ≤ day_minutes
    → RideIs counts (ride_between tariff counts bytes trip first last minutes) (ride_between tariff counts bytes trip first last minutes)
unfolding ride_between
ride_there trip riding first last minutes order inside short =
    let place : first + (last - first) ≡ last = omega arith in
    ride _ _ _ trip first last minutes _ _ short (rw place at (area-of-stops riding first (last - first) (omega arith)))
    (least_between riding first last (omega arith) inside)
