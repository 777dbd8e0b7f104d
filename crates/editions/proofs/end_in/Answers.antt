-- `editions::end_in` meets its contract: the tests are the definition's; at most 32 areas have a longer record, so nothing overflows.
use native.Mathlib.Omega.{arith}
use lib.Count.{ones-le}
use borrow.Author.Tests.{eq-eqb, ne_eqb}
use Rattle.editions.specs.Editions.{end_in}
use Rattle.editions.proofs.end_in.Goals as goal

pub overflow_add-result : goal.overflow_add-result
overflow_add-result c = omega (arith, c.tariff_size.ensures, ones-le 32 c.in-Two.first.counts.longs (omega arith))

pub returns-in-One : goal.returns-in-One
unfolding end_in
returns-in-One c = rw c.in-One.is

pub returns-then-number-eq2 : goal.returns-then-number-eq2
unfolding end_in
returns-then-number-eq2 c = rw (c.in-Two.is, eq-eqb _ _ c.if-number-eq2.true)

pub returns-else-number-eq2 : goal.returns-else-number-eq2
unfolding end_in
returns-else-number-eq2 c = rw (c.in-Two.is, ne_eqb _ _ c.if-number-eq2.false) (omega (arith, c.tariff_size.ensures))
