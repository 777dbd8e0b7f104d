use Prim.Native.Nat.{◌-◌, ◌≤◌}
use Rattle.fare.specs.Rides.{AreaOfStops}
use Rattle.fare.proofs.rides.area_of_stops.Given as goal

abbrev pub invariant-loop-i : goal.invariant-loop-i
invariant-loop-i l =
    (l.first ≤ l.i) × ((l.i ≤ l.last) × AreaOfStops l.tariff-2 l.counts l.trip-2 l.first l.i l.area)

abbrev pub decreases-loop-i : goal.decreases-loop-i
decreases-loop-i l = l.last - l.i
