-- `scan::fault_at` meets its contract: the test is the definition's.
use Rattle.scan.specs.Halts.{fault_at}
use Rattle.scan.proofs.fault_at.Goals as goal

pub returns-then-lacking : goal.returns-then-lacking
unfolding fault_at
returns-then-lacking c = rw c.if-lacking.true

pub returns-else-lacking : goal.returns-else-lacking
unfolding fault_at
returns-else-lacking c = rw c.if-lacking.false
