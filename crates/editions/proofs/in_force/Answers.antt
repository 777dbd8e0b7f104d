-- `editions::in_force` meets its contract: the tests are the definition's.
use native.Mathlib.Omega.{arith}
use borrow.Author.Tests.{le-leb, lt-leb}
use Rattle.editions.specs.Editions.{many_of, in_force}
use Rattle.editions.proofs.in_force.Goals as goal

pub returns-then-first-minute : goal.returns-then-first-minute
unfolding in_force many_of
returns-then-first-minute c = (rw (c.in-One.is, le-leb _ _ c.if-first-minute.true), rw c.in-One.is (omega arith), omega arith)

pub returns-else-first-minute : goal.returns-else-first-minute
unfolding in_force many_of
returns-else-first-minute c = (rw (c.in-One.is, lt-leb _ _ c.if-first-minute.false), rw c.in-One.is (omega arith), omega arith)

pub returns-then-second-minute : goal.returns-then-second-minute
unfolding in_force many_of
returns-then-second-minute c = (rw (c.in-Two.is, le-leb _ _ c.if-second-minute.true), rw c.in-Two.is (omega arith), omega arith)

pub returns-then-first-minute-2 : goal.returns-then-first-minute-2
unfolding in_force many_of
returns-then-first-minute-2 c = (rw (c.in-Two.is, lt-leb _ _ c.if-second-minute.false, le-leb _ _ c.if-first-minute-2.true), rw c.in-Two.is (omega arith), omega arith)

pub returns-else-first-minute-2 : goal.returns-else-first-minute-2
unfolding in_force many_of
returns-else-first-minute-2 c = (rw (c.in-Two.is, lt-leb _ _ c.if-second-minute.false, lt-leb _ _ c.if-first-minute-2.false), rw c.in-Two.is (omega arith), omega arith)
