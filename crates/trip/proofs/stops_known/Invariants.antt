use Prim.Native.Nat.{◌-◌, ◌≤◌}
use mathlib.Core.Path.{◌≡◌}
use Rattle.trip.specs.Trips.{stops_known}
use Rattle.trip.proofs.stops_known.Given as goal

abbrev pub invariant-loop-i : goal.invariant-loop-i
invariant-loop-i l = (l.all ≡ stops_known l.trip l.i l.known) × (l.i ≤ l.stops)

abbrev pub decreases-loop-i : goal.decreases-loop-i
decreases-loop-i l = l.stops - l.i
