use Prim.Native.Nat.{◌-◌}
use Rattle.corrections.proofs.Paid.{Passed}
use Rattle.corrections.proofs.payers.add_statement.Given as goal

abbrev pub invariant-loop-next : goal.invariant-loop-next
invariant-loop-next l = Passed l.statement l.size l.next l.initial.sums l.sums

abbrev pub decreases-loop-next : goal.decreases-loop-next
decreases-loop-next l = l.size - l.next
