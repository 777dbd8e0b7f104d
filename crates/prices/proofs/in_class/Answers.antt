-- `prices::in_class` meets its contract: the test of the class is the definition's, and raising is cited with its range.
use native.Mathlib.Omega.{arith}
use borrow.Author.Tests.{eq-eqb, ne_eqb}
use Rattle.prices.specs.Prices.{step3}
use Rattle.prices.proofs.in_class.Goals as goal

pub returns-then-class-eq1 : goal.returns-then-class-eq1
unfolding step3
returns-then-class-eq1 c =
    record {
      value = rw (eq-eqb _ 1 c.if-class-eq1.true) c.raised.ensures.value;
      range = c.raised.ensures.range;
    }

pub returns-else-class-eq1 : goal.returns-else-class-eq1
unfolding step3
returns-else-class-eq1 c = record { value = rw (ne_eqb _ 1 c.if-class-eq1.false); range = omega arith }
