-- `prices::raised_or_compared` meets its contract: the test of the class is the definition's, raising and comparing are cited.
use native.Mathlib.Omega.{arith}
use borrow.Author.Tests.{eq-eqb, ne_eqb}
use Rattle.prices.specs.Prices.{raised_or_compared}
use Rattle.prices.proofs.raised_or_compared.Goals as goal

pub returns-then-class-eq1 : goal.returns-then-class-eq1
unfolding raised_or_compared
returns-then-class-eq1 c =
    record {
      value = rw (eq-eqb _ 1 c.if-class-eq1.true) c.raised.ensures.value;
      range = omega (arith, c.raised.ensures.range, c.requires.1);
    }

pub returns-else-class-eq1 : goal.returns-else-class-eq1
unfolding raised_or_compared
returns-else-class-eq1 c =
    record {
      value = rw (ne_eqb _ 1 c.if-class-eq1.false) c.capped.ensures.value;
      range = omega (arith, c.capped.ensures.range, c.requires.1);
    }
