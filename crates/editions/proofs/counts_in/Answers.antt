-- `editions::counts_in` meets its contract: the tests are the definition's.
use borrow.Author.Tests.{eq-eqb, ne_eqb}
use Rattle.editions.specs.Editions.{edition_in}
use Rattle.editions.proofs.counts_in.Goals as goal

pub returns-in-One : goal.returns-in-One
unfolding edition_in
returns-in-One c = rw c.in-One.is

pub returns-then-number-eq2 : goal.returns-then-number-eq2
unfolding edition_in
returns-then-number-eq2 c = rw (c.in-Two.is, eq-eqb _ _ c.if-number-eq2.true)

pub returns-else-number-eq2 : goal.returns-else-number-eq2
unfolding edition_in
returns-else-number-eq2 c = rw (c.in-Two.is, ne_eqb _ _ c.if-number-eq2.false)
