use Prim.Native.Nat.{◌+◌, ◌-◌}
use Rattle.statement.specs.Record.{head_size}
use Rattle.posting.proofs.PostSteps.{Groups}
use Rattle.posting.proofs.post.Given as goal

abbrev pub invariant-loop : goal.invariant-loop
invariant-loop l =
    Groups l.tariff l.counts l.class l.at l.adults l.children l.statement-2 (l.place + head_size) l.initial.book l.counter l.first l.count l.next l.book

abbrev pub decreases-loop : goal.decreases-loop
decreases-loop l =
    2 - l.counter
