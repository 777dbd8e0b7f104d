use Prim.Native.Nat.{◌*◌, ◌-◌, ◌<◌}
use Rattle.units.specs.Plane.{most_km}
use Rattle.fare.specs.Distance.{square}
use Rattle.fare.proofs.kilometres.first_enough.Given as goal

abbrev pub invariant-loop-below : goal.invariant-loop-below
invariant-loop-below l = (l.below < most_km) × (square (1000 * l.below) < l.d)

abbrev pub decreases-loop-below : goal.decreases-loop-below
decreases-loop-below l = most_km - l.below
