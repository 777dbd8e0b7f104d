-- `units::hundredths_of` meets its contract: the product of a roundable amount and at most 200 fits 32 bits, and 99 more.
use Prim.Native.Nat.{ℕ, ◌+◌, ◌/◌, ◌%◌}
use native.Mathlib.Nat.{mul-le-mul}
use native.Mathlib.Omega.{arith}
use native.Mathlib.Decide.{ℕ_discrete}
use mathlib.Core.Path.{◌≡◌}
use borrow.Author.Tests.{eq-eqb, ne_eqb}
use Rattle.units.specs.Rounding.{divided_up, hundredths_of}
use Rattle.units.proofs.hundredths_of.Goals as goal

-- with 99 more, a quotient by 100 is rounded up
with-more : (n : ℕ) → (n + 99) / 100 ≡ divided_up n 100
unfolding divided_up
with-more n =
    elim (ℕ_discrete (n % 100) 0) [
      | yes none ↦ rw (eq-eqb (n % 100) 0 none) (omega arith)
      | no some ↦ rw (ne_eqb (n % 100) 0 some) (omega arith)
    ]

pub overflow_mul-result : goal.overflow_mul-result
overflow_mul-result c = omega (arith, mul-le-mul c.requires.0 c.requires.1)

pub overflow_add-result : goal.overflow_add-result
overflow_add-result c = omega (arith, mul-le-mul c.requires.0 c.requires.1)

pub returns : goal.returns
unfolding hundredths_of
returns c = with-more _
