use Prim.Native.Nat.{◌-◌, ◌≤◌}
use mathlib.Core.Path.{◌≡◌}
use Rattle.trip.specs.Trips.{one_stop}
use Rattle.trip.proofs.one_stop.Given as goal

abbrev pub invariant-loop-i : goal.invariant-loop-i
invariant-loop-i l = (l.one ≡ one_stop l.trip l.i) × (l.i ≤ l.stops)

abbrev pub decreases-loop-i : goal.decreases-loop-i
decreases-loop-i l = l.stops - l.i
