use Rattle.streams.specs.Flows.{left}
use Rattle.print_statement.specs.Clauses.{Running, records_left}
use Rattle.print_statement.proofs.print_all.Given as goal

abbrev pub invariant-loop-on : goal.invariant-loop-on
invariant-loop-on g l = Running l.input l.out l.run

abbrev pub decreases-loop-on : goal.decreases-loop-on
decreases-loop-on g l = left records_left l.run.flow l.run.carried
