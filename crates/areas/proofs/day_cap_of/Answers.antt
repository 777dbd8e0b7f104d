-- `areas::day_cap_of` meets its contract: its one test is the definition's.
use borrow.Author.Tests.{eq-eqb, ne_eqb}
use Rattle.areas.specs.Areas.{day_cap_of}
use Rattle.areas.proofs.day_cap_of.Goals as goal

pub returns-then-amount-eq-NO_DAY_CAP : goal.returns-then-amount-eq-NO_DAY_CAP
unfolding day_cap_of
returns-then-amount-eq-NO_DAY_CAP c = rw (eq-eqb _ 65535 c.if-amount-eq-NO_DAY_CAP.true)

pub returns-else-amount-eq-NO_DAY_CAP : goal.returns-else-amount-eq-NO_DAY_CAP
unfolding day_cap_of
returns-else-amount-eq-NO_DAY_CAP c = rw (ne_eqb _ 65535 c.if-amount-eq-NO_DAY_CAP.false)
