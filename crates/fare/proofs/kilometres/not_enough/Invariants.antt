use Prim.Native.Nat.{◌≤◌}
use Rattle.fare.specs.Clauses.{most_guess}
use Rattle.fare.proofs.kilometres.not_enough.Given as goal

abbrev pub invariant-loop-below : goal.invariant-loop-below
invariant-loop-below l = l.below ≤ most_guess

abbrev pub decreases-loop-below : goal.decreases-loop-below
decreases-loop-below l = l.below
