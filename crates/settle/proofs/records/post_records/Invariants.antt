use Prim.Native.Nat.{◌-◌}
use mathlib.Core.Path.{◌≡◌}
use lib.ListN.{length}
use Rattle.settle.proofs.Turns.{Left}
use Rattle.settle.proofs.records.post_records.Given as goal

abbrev pub invariant-loop-next : goal.invariant-loop-next
invariant-loop-next l =
    Left l.tariff-2 l.counts l.checkout l.class l.statement-2 l.size l.initial.book l.initial.within l.book l.within l.next × (length l.book ≡ length l.initial.book)

abbrev pub decreases-loop-next : goal.decreases-loop-next
decreases-loop-next l = l.size - l.next
