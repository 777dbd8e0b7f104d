-- `reader::charges::cut_right` meets its contract: the test goes by whether something was taken off.
use borrow.Author.Tests.{eq-eqb, ne_eqb}
use Rattle.reader.proofs.charges.cut_right.Goals as goal

pub returns-then-cut-eq0 : goal.returns-then-cut-eq0
returns-then-cut-eq0 c = rw (eq-eqb _ _ c.if-cut-eq0.true)

pub returns-else-cut-eq0 : goal.returns-else-cut-eq0
returns-else-cut-eq0 c = rw (ne_eqb _ _ c.if-cut-eq0.false)
