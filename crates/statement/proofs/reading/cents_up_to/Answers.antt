-- `statement::reading::cents_up_to` meets its contract: the loop has added the charges that it passed. The measure is the charges that are left.
use native.Mathlib.Omega.{arith}
use Rattle.statement.proofs.Sums.{cents_none, cents_more, cents_all}
use Rattle.statement.proofs.reading.cents_up_to.Goals as goal

pub loop-i-init : goal.loop-i-init
loop-i-init c = (omega arith, cents_none _ _)

pub charge_of-requires : goal.charge_of-requires
charge_of-requires c = let asked = c.requires in (asked.0, (asked.1.0, omega arith))

pub overflow_cast-cents : goal.overflow_cast-cents
overflow_cast-cents c = omega (arith, c.charge_of.ensures.range)

pub loop-i-preserved : goal.loop-i-preserved
loop-i-preserved c = (
  omega arith,
  cents_more _ _ _ _ _ c.loop-i.invariant.1 c.charge_of.ensures.value c.charge_of.ensures.range,
)

pub returns : goal.returns
returns c = cents_all _ _ _ _ _ c.loop-i.invariant.0 c.loop-i-test.false c.loop-i.invariant.1
