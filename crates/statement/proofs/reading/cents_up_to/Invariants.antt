use Prim.Native.Nat.{◌≤◌, ◌-◌}
use Rattle.statement.specs.Clauses.{CentsUpTo}
use Rattle.statement.proofs.reading.cents_up_to.Given as goal

abbrev pub invariant-loop-i : goal.invariant-loop-i
invariant-loop-i l = (l.i ≤ l.count) × CentsUpTo l.statement l.place l.i l.cents

abbrev pub decreases-loop-i : goal.decreases-loop-i
decreases-loop-i l = l.count - l.i
