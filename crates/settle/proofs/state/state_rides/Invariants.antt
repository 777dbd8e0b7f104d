use Prim.Native.Nat.{◌-◌}
use Rattle.settle.proofs.Legs.{Leg}
use Rattle.settle.proofs.state.state_rides.Given as goal

abbrev pub invariant-loop-from : goal.invariant-loop-from
invariant-loop-from l =
    Leg l.tariff l.counts l.book l.bytes l.trip l.window l.initial.statement l.from l.to l.minutes.0 l.earlier l.next l.statement

abbrev pub decreases-loop-from : goal.decreases-loop-from
decreases-loop-from l =
    l.last - l.from
