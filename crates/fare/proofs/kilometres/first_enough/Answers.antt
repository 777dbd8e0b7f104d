-- `kilometres::first_enough` meets its contract: the number stays one that is not enough, and the loop ends where one more is. What is not enough
-- is below 1,415, and the measure is what is left up to there.
use Prim.Native.Nat.{◌+◌}
use native.Mathlib.Omega.{arith}
use Rattle.fare.proofs.Distance.{fits, short_range, first_reached}
use Rattle.fare.proofs.kilometres.first_enough.Goals as goal

pub loop-below-init : goal.loop-below-init
loop-below-init c = (short_range _ _ (omega arith) c.requires.1.short, c.requires.1.short)

pub overflow_mul-below-in-loop-below-2 : goal.overflow_mul-below-in-loop-below-2
overflow_mul-below-in-loop-below-2 c = omega (arith, fits (c.loop-below.below + 1) (omega arith))

pub loop-below-preserved : goal.loop-below-preserved
loop-below-preserved c = (short_range _ _ (omega arith) c.loop-below-test.true, c.loop-below-test.true)

pub returns : goal.returns
returns c = first_reached _ _ (omega arith) c.loop-below.invariant.1 (omega arith)
