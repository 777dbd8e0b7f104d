use mathlib.Core.Path.{◌≡◌}
use lib.ListN.{length}
use Rattle.streams.specs.Flows.{left}
use Rattle.roll.specs.Clauses.{StatementRoom}
use Rattle.settle_roll.specs.Clauses.{Running, beside, records_left}
use Rattle.settle_roll.proofs.run.settle_all.Given as goal

abbrev pub invariant-loop-on : goal.invariant-loop-on
invariant-loop-on g l =
    Running l.file l.editions l.book l.input l.out l.run × (length l.book ≡ length l.initial.book) × StatementRoom l.statement

abbrev pub decreases-loop-on : goal.decreases-loop-on
decreases-loop-on g l = left records_left l.run.flow (beside l.book l.run.carried)
