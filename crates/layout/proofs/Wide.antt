-- How many of the first areas are the state or a region: counted area by area, never fewer with more areas, and never more than the areas.
-- Assumes nothing.
use Prim.Native.Nat.{ℕ, zero, suc, ◌+◌, ◌≤◌, ◌<◌}
use native.Mathlib.Omega.{arith}
use native.Mathlib.Numerals.{add-one}
use native.Mathlib.Decide.{dec_lt}
use mathlib.Core.Path.{◌≡◌, refl}
use mathlib.Core.Bool.{cond}
use borrow.Author.Tests.{lt-ltb, le-ltb}
use lib.Dec.{ltb}
use Rattle.layout.specs.Rules.{wide_among}

module _ (level : ℕ → ℕ) where
  pub wide_none : wide_among level 0 ≡ 0
  unfolding wide_among
  wide_none = refl

  pub wide_next : (n : ℕ) → wide_among level (n + 1) ≡ wide_among level n + cond (ltb (level n) 2) 1 0
  unfolding wide_among
  wide_next n = rw (add-one n)

  -- the state or a region counts; a city does not
  pub wide_more : (n : ℕ) → level n < 2 → wide_among level (n + 1) ≡ wide_among level n + 1
  unfolding wide_among
  wide_more n wide = rw (add-one n, lt-ltb (level n) 2 wide)

  pub wide_city : (n : ℕ) → 2 ≤ level n → wide_among level (n + 1) ≡ wide_among level n
  unfolding wide_among
  wide_city n city = rw (add-one n, le-ltb (level n) 2 city) (omega arith)

  -- with one area more it is as many, or one more
  pub wide_step : (n : ℕ) → (wide_among level n ≤ wide_among level (suc n)) × (wide_among level (suc n) ≤ wide_among level n + 1)
  wide_step n =
      elim (dec_lt (level n) 2) [
        | yes wide ↦ let e = rw (add-one n) at (wide_more n wide) in (omega arith, omega arith)
        | no city ↦ let e = rw (add-one n) at (wide_city n (omega arith)) in (omega arith, omega arith)
      ]

  pub wide_most : (n : ℕ) → wide_among level n ≤ n
  wide_most zero = omega (arith, wide_none)
  wide_most (suc n) = omega (arith, wide_step n, wide_most n)

  pub wide_up : (m n : ℕ) → m ≤ n → wide_among level m ≤ wide_among level n
  wide_up m zero h = let e : m ≡ 0 = omega arith in rw e (omega arith)
  wide_up m (suc n) h =
      elim (dec_lt n m) [
        | yes last ↦ let e : m ≡ suc n = omega arith in rw e (omega arith)
        | no earlier ↦ omega (arith, wide_step n, wide_up m n (omega arith))
      ]

  -- the state or a region among the first areas: there are more than before it
  pub wide_before : (m n : ℕ) → m < n → level m < 2 → wide_among level m < wide_among level n
  wide_before m n h wide = omega (arith, wide_more m wide, wide_up (m + 1) n (omega arith))

-- Levels that agree on the first areas give one count.
pub wide_same : (level level' : ℕ → ℕ) (n : ℕ) → ((i : ℕ) → i < n → level i ≡ level' i) → wide_among level n ≡ wide_among level' n
unfolding wide_among
wide_same level level' zero same = refl
wide_same level level' (suc n) same = rw (wide_same level level' n (λ i h. same i (omega arith)), same n (omega arith))
