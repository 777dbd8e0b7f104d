-- `editions::many_of` meets its contract: one, or two.
use native.Mathlib.Omega.{arith}
use Rattle.editions.specs.Editions.{many_of}
use Rattle.editions.proofs.many_of.Goals as goal

pub returns-in-One : goal.returns-in-One
unfolding many_of
returns-in-One c = (rw c.in-One.is, omega arith)

pub returns-in-Two : goal.returns-in-Two
unfolding many_of
returns-in-Two c = (rw c.in-Two.is, omega arith)
