-- `caps::under` meets its contract.
use native.Mathlib.Nat.{le_refl}
use native.Mathlib.Omega.{arith}
use borrow.Author.Tests.{le-leb, lt-leb}
use Rattle.caps.proofs.under.Goals as goal

pub returns-then-left-amount : goal.returns-then-left-amount
returns-then-left-amount c = record { value = rw (le-leb _ _ c.if-left-amount.true); less = c.if-left-amount.true; rest_range = omega arith }

pub returns-else-left-amount : goal.returns-else-left-amount
returns-else-left-amount c = record { value = rw (lt-leb _ _ c.if-left-amount.false); less = le_refl _; rest_range = omega arith }
