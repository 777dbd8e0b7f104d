use Prim.Native.Nat.{◌-◌}
use Rattle.posting.proofs.PostTurns.{RidersAdded}
use Rattle.posting.proofs.add_riders.Given as goal

abbrev pub invariant-loop-i : goal.invariant-loop-i
invariant-loop-i l =
    RidersAdded l.tariff l.initial.book l.book l.class l.at l.first l.count l.statement l.place l.way l.i l.next

abbrev pub decreases-loop-i : goal.decreases-loop-i
decreases-loop-i l = l.count - l.i
