-- Rounding up, proved once: not below the exact value, and the least such. Every use cites these two laws.
-- Assumes nothing.
use Prim.Native.Nat.{ℕ, ◌+◌, ◌-◌, ◌*◌, ◌/◌, ◌%◌, ◌≤◌, ◌<◌}
use native.Mathlib.Nat.{
  div-add-mod',
  mod-lt,
  add-mul,
  one-mul,
  zero-mul,
  pos_of_ne-zero,
  mul-le-mul_left,
  le_of_mul-le-mul_right,
  lt_of_mul-lt-mul_right,
  max-le,
  max-eq_right,
  le-max_left,
}
use native.Mathlib.Omega.{arith}
use mathlib.Core.Path.{◌≡◌, refl, sym, ap}
use mathlib.Core.Bool.{Bool, true, false, cond}
use borrow.Author.Tests.{eqb-true, eqb-false}
use lib.Dec.{eqb}
use Rattle.units.specs.Rounding.{divided_up, hundredths_of, raised_by, reduced_by, periods, Started}

-- not below the exact value
pub not_below : (n d : ℕ) → 0 < d → n ≤ divided_up n d * d
unfolding divided_up
not_below n d pos = go (eqb (n % d) 0) refl
  where
    go : (b : Bool) → eqb (n % d) 0 ≡ b → n ≤ (n / d + cond b 0 1) * d
    go true e = omega (arith, div-add-mod' n d, add-mul (n / d) 0 d, eqb-true (n % d) 0 e)
    go false e = omega (arith, div-add-mod' n d, add-mul (n / d) 1 d, mod-lt n pos, one-mul d)

-- the least such
pub least : (n d k : ℕ) → 0 < d → n ≤ k * d → divided_up n d ≤ k
unfolding divided_up
least n d k pos h = go (eqb (n % d) 0) refl
  where
    go : (b : Bool) → eqb (n % d) 0 ≡ b → n / d + cond b 0 1 ≤ k
    go true e =
        le_of_mul-le-mul_right
        (let z : n % d ≡ 0 = eqb-true (n % d) 0 e in
        let whole : (n / d + 0) * d ≡ n = omega (arith, div-add-mod' n d, add-mul (n / d) 0 d, zero-mul d) in
        omega arith)
        pos
    go false e =
        let left : n % d ≡ 0 → ⊥ = eqb-false (n % d) 0 e in
        let below : n / d < k = lt_of_mul-lt-mul_right d (omega (arith, div-add-mod' n d, pos_of_ne-zero left)) in
        omega arith

-- hundredths of an amount: not below the exact value
pub hundredths_not_below : (hundredths amount : ℕ) → amount * hundredths ≤ hundredths_of hundredths amount * 100
unfolding hundredths_of
hundredths_not_below h a = not_below (a * h) 100 (omega arith)

-- hundredths of an amount: the least such
pub hundredths_least : (hundredths amount k : ℕ) → amount * hundredths ≤ k * 100 → hundredths_of hundredths amount ≤ k
unfolding hundredths_of
hundredths_least h a k = least (a * h) 100 k (omega arith)

-- raised by at most 100 percent: at most twice the amount
pub raised_most : (amount percent : ℕ) → percent ≤ 100 → raised_by percent amount ≤ 2 * amount
raised_most a p h =
    let h' : 100 + p ≤ 200 = omega arith in
    hundredths_least (100 + p) a (2 * a) (omega (arith, mul-le-mul_left a h'))

-- reduced: at most the amount
pub reduced_most : (amount percent : ℕ) → reduced_by percent amount ≤ amount
reduced_most a p = hundredths_least (100 - p) a a (mul-le-mul_left a (omega arith))

-- at least one period
pub one_period : (duration validity : ℕ) → 1 ≤ periods duration validity
unfolding periods
one_period d v = le-max_left 1 (divided_up d v)

-- no more periods than are enough
pub periods_least : (duration validity k : ℕ) → 0 < validity → 1 ≤ k → duration ≤ k * validity → periods duration validity ≤ k
unfolding periods
periods_least d v k pos one h = max-le one (least d v k pos h)

-- within the validity it is one period, and beyond it the rounded quotient
pub one_period_within : (duration validity : ℕ) → 0 < validity → duration ≤ validity → 1 ≡ periods duration validity
one_period_within d v pos h = omega (arith, one_period d v, periods_least d v 1 pos (omega arith) (omega (arith, one-mul v)))

pub periods_beyond : (duration validity : ℕ) → 0 < validity → validity < duration → divided_up duration validity ≡ periods duration validity
unfolding periods
periods_beyond d v pos h =
    let some : divided_up d v ≡ 0 → ⊥ = λ none. let whole = not_below d v pos in absurd (omega (arith, ap (λ k. k * v) none, zero-mul v)) in
    sym (max-eq_right (pos_of_ne-zero some))

-- the contract of `started_periods`, from its value
pub started : (duration validity r : ℕ) → 0 < validity → r ≡ periods duration validity → Started duration validity r
started d v r pos e = record { value = e; range = λ k one h. omega (arith, periods_least d v k pos one h) }
