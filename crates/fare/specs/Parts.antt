-- Rules, section 7: a trip with a change that comes back is broken at the change farthest from its start, and is then two parts. A change is
-- a stop between the first and the last, by its place in the trip: it may have the number of any other.
use Rattle.std.specs.Prelude.{ℕ, zero, suc, ◌+◌, ◌-◌, ◌*◌, ◌≤◌, ◌<◌, ◌≡◌, List, [], ◌∷◌, Bool, true, cond, ◌&&◌, ◌||◌, ltb, eqb}
use Rattle.layout.specs.declared.Counts.{Counts}
use Rattle.layout.specs.declared.Stop.{Stop}
use Rattle.layout.specs.Rules.{level_of}
use Rattle.areas.specs.Areas.{lies_within}
use Rattle.areas.specs.Factors.{is_city, factor_of}
use Rattle.trip.specs.declared.Trip.{Trip}
use Rattle.trip.specs.declared.Ride.{Ride}
use Rattle.fare.specs.declared.Breaking.{Breaking}
use Rattle.fare.specs.declared.Breaking.TheVariants.{Unbroken, At}
use Rattle.fare.specs.Distance.{square, apart}
use Rattle.fare.specs.Rides.{stop_of, area_of_stops, ride_between, duration_of, last_of, ride_of}

-- ---- The farthest change.

-- dx² + dy² from the trip's first stop to its stop i
unfoldable pub away : List ℕ → Counts → List ℕ → ℕ → ℕ
away tariff counts bytes i = apart (stop_of tariff counts bytes 0) (stop_of tariff counts bytes i)

-- of a change and a later one: the later one only where it is farther away
unfoldable pub farther : List ℕ → Counts → List ℕ → ℕ → ℕ → ℕ
farther tariff counts bytes c later = cond (ltb (away tariff counts bytes c) (away tariff counts bytes later)) later c

-- the farthest of the change 1 and the `more` changes after it, the first of equals
unfoldable pub farthest : List ℕ → Counts → List ℕ → ℕ → ℕ
farthest tariff counts bytes zero = 1
farthest tariff counts bytes (suc more) = farther tariff counts bytes (farthest tariff counts bytes more) (2 + more)

-- c is the farthest of the changes before the stop `last`: none is farther away, and each before it is nearer
pub record FarthestChange (tariff : List ℕ) (counts : Counts) (bytes : List ℕ) (last c : ℕ) : Type 0 where
  pub after_first : 1 ≤ c
  pub before_last : c < last
  pub greatest : (i : ℕ) → 1 ≤ i → i < last → away tariff counts bytes i ≤ away tariff counts bytes c
  pub first : (i : ℕ) → 1 ≤ i → i < c → away tariff counts bytes i < away tariff counts bytes c

-- ---- Whether and where a trip is broken.

-- a trip with the area of a city is never broken where the city's region says so
unfoldable pub kept_whole : List ℕ → Counts → ℕ → Bool
kept_whole tariff counts area = is_city tariff area && eqb (factor_of tariff counts area).mark 1

-- first and last stop are at the same point, or the squared distance to the change exceeds f² times the squared distance from first to last
unfoldable pub comes_back : Stop → Stop → Stop → ℕ → Bool
comes_back first last change f =
    eqb first.x.0 last.x.0 && eqb first.y.0 last.y.0 || ltb (square f * apart first last) (apart first change)

-- so of a trip's first stop, its last and a change
abbrev pub comes_back_from : List ℕ → Counts → List ℕ → ℕ → ℕ → ℕ → Bool
comes_back_from tariff counts bytes last c f =
    comes_back (stop_of tariff counts bytes 0) (stop_of tariff counts bytes last) (stop_of tariff counts bytes c) f

-- a trip of so many stops with a change, which is not kept whole, is broken at the farthest change where it comes back from there. f is
-- that of the region that contains the trip's area, else the state's
unfoldable pub break_of : List ℕ → Counts → List ℕ → ℕ → Breaking
break_of tariff counts bytes stops =
    let last = stops - 1 in
    let area = area_of_stops tariff counts bytes 0 last in
    let c = farthest tariff counts bytes (last - 2) in
    cond (ltb stops 3 || kept_whole tariff counts area) Unbroken
    (cond (comes_back_from tariff counts bytes last c (factor_of tariff counts area).factor) (At c) Unbroken)

-- The same in the rule's words. All stops lie inside one city, whose region has the mark 1;
pub record InMarkedCity (tariff : List ℕ) (counts : Counts) (bytes : List ℕ) (stops : ℕ) : Type 0 where
  pub city : ℕ
  pub level : level_of tariff city ≡ 2
  pub inside : (i : ℕ) → i < stops → lies_within tariff (stop_of tariff counts bytes i).area city ≡ true
  pub mark : (factor_of tariff counts city).mark ≡ 1

-- the trip comes back to its first stop's point, or so near to it that the change is more than f times as far away;
pub data ComesBack (first last change : Stop) (f : ℕ) : Type 0 where
  same_point : first.x.0 ≡ last.x.0 → first.y.0 ≡ last.y.0 → ComesBack first last change f
  nearer : square f * apart first last < apart first change → ComesBack first last change f

-- and so it is broken at the change c
pub record BrokenAt (tariff : List ℕ) (counts : Counts) (bytes : List ℕ) (stops c : ℕ) : Type 0 where
  pub farthest_change : FarthestChange tariff counts bytes (stops - 1) c
  pub not_kept : InMarkedCity tariff counts bytes stops → ⊥
  pub comes-back :
      ComesBack (stop_of tariff counts bytes 0) (stop_of tariff counts bytes (stops - 1)) (stop_of tariff counts bytes c)
      (factor_of tariff counts (area_of_stops tariff counts bytes 0 (stops - 1))).factor

-- ---- The rides that a trip is charged as.

-- the first part ends at the change and has the whole duration
unfoldable pub first_part : List ℕ → Counts → List ℕ → Trip → ℕ → Ride
first_part tariff counts bytes trip c = ride_between tariff counts bytes trip 0 c (duration_of trip)

-- the second part begins at the change and has 0 minutes, at the check-out
unfoldable pub second_part : List ℕ → Counts → List ℕ → Trip → ℕ → Ride
second_part tariff counts bytes trip c = ride_between tariff counts bytes trip c (last_of trip) 0

-- the whole trip; or, where it is broken, its two parts
unfoldable pub rides_of : List ℕ → Counts → List ℕ → Trip → List Ride
rides_of tariff counts bytes trip =
    elim (break_of tariff counts bytes trip.stops) [
      | Unbroken ↦ ride_of tariff counts bytes trip ∷ []
      | At c ↦ first_part tariff counts bytes trip c ∷ second_part tariff counts bytes trip c ∷ []
    ]
