-- `areas::cap_of` meets its contract: each arm's sort decides the definition's tests.
use borrow.Author.Tests.{ne_eqb}
use Rattle.areas.specs.Areas.{cap_of}
use Rattle.areas.proofs.cap_of.Goals as goal

pub returns-in-1 : goal.returns-in-1
unfolding cap_of
returns-in-1 c = rw c.in-1.is

pub returns-in-2 : goal.returns-in-2
unfolding cap_of
returns-in-2 c = rw c.in-2.is

pub returns-in_default : goal.returns-in_default
unfolding cap_of
returns-in_default c = rw (ne_eqb _ 1 c.in_default.in_default-own.rest.0.1, ne_eqb _ 2 c.in_default.in_default-own.rest.1)
