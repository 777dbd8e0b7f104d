-- `caps::capped_here` meets its contract: the all-classes cap first, then in class 2 the second-class cap on what that leaves. What each has left
-- as a plain number leaves the rest that the cap leaves.
use native.Mathlib.Nat.{le_trans}
use borrow.Author.Tests.{eq-eqb, ne_eqb}
use Rattle.caps.specs.Clauses.{rest_here}
use Rattle.caps.proofs.Named.{under_left}
use Rattle.caps.proofs.capped_here.Goals as goal

pub returns-then-class-eq2 : goal.returns-then-class-eq2
unfolding rest_here
returns-then-class-eq2 c = (
  rw (
    eq-eqb _ 2 c.if-class-eq2.true,
    under_left c.left_of-then-class-eq2.ensures c.under.ensures,
    under_left c.left_of.ensures c.under-low.ensures,
  ),
  le_trans c.under.ensures.less c.under-low.ensures.less,
)

pub returns-else-class-eq2 : goal.returns-else-class-eq2
unfolding rest_here
returns-else-class-eq2 c = (
  rw (ne_eqb _ 2 c.if-class-eq2.false, under_left c.left_of.ensures c.under-low.ensures),
  c.under-low.ensures.less,
)
