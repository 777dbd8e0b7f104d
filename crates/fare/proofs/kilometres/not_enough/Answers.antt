-- `kilometres::not_enough` meets its contract: the loop ends where the number is not enough, and 0 kilometres are not. The measure is the number.
use native.Mathlib.Omega.{arith}
use Rattle.fare.proofs.Distance.{fits, some_km}
use Rattle.fare.proofs.kilometres.not_enough.Goals as goal

pub loop-below-init : goal.loop-below-init
loop-below-init c = c.requires.1

pub overflow_mul-below-in-loop-below-2 : goal.overflow_mul-below-in-loop-below-2
overflow_mul-below-in-loop-below-2 c = omega (arith, fits c.loop-below.below c.loop-below.invariant)

pub overflow_sub-below : goal.overflow_sub-below
overflow_sub-below c = some_km _ _ c.requires.0 c.loop-below-test.true

pub loop-below-smaller : goal.loop-below-smaller
loop-below-smaller c = omega (arith, some_km _ _ c.requires.0 c.loop-below-test.true)

pub returns : goal.returns
returns c = record { short = omega arith; range = c.loop-below.invariant }
