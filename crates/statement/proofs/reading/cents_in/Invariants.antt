use Prim.Native.Nat.{◌-◌}
use Rattle.statement.proofs.Sums.{Added}
use Rattle.statement.proofs.reading.cents_in.Given as goal

abbrev pub invariant-loop-next : goal.invariant-loop-next
invariant-loop-next l = Added l.statement l.size l.next l.cents

abbrev pub decreases-loop-next : goal.decreases-loop-next
decreases-loop-next l = l.size - l.next
