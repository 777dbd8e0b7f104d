use Prim.Native.Nat.{◌-◌}
use Rattle.cycles.specs.Clauses.{ChangedRight}
use Rattle.posting.proofs.PostTurns.{BicyclesCovered}
use Rattle.posting.proofs.cover_bicycles.Given as goal

abbrev pub invariant-loop-i : goal.invariant-loop-i
invariant-loop-i l =
    BicyclesCovered l.tariff l.counts l.initial.book l.book l.count l.at l.i × ChangedRight l.tariff l.counts l.at l.last

abbrev pub decreases-loop-i : goal.decreases-loop-i
decreases-loop-i l = l.count - l.i
