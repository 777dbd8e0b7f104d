-- `layout::rules::tickets_right` meets its contract: of the three ways of `ticketsRight` only the one of the area's sort can hold.
use mathlib.Core.Path.{sym, ◌∙◌}
use borrow.Author.Tests.{ne_eqb}
use Rattle.wire.proofs.Tests.{or_none}
use Rattle.layout.proofs.rules.tickets_right.Goals as goal

pub returns-then-sort-eq2 : goal.returns-then-sort-eq2
returns-then-sort-eq2 c = rw c.if-sort-eq2.true

pub returns-then-sort-eq1 : goal.returns-then-sort-eq1
returns-then-sort-eq1 c = rw c.if-sort-eq1.true (sym (or_none _))

pub returns : goal.returns
returns c = rw (ne_eqb _ 1 c.if-sort-eq1.false, ne_eqb _ 2 c.if-sort-eq2.false) (sym (or_none _ ∙ or_none _))
