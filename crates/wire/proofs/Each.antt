-- The laws of a test at each of the first numbers: where it begins, how it goes on, and what its answer means.
-- Assumes nothing.
use Prim.Native.Nat.{ℕ, zero, suc, ◌+◌, ◌<◌}
use native.Mathlib.Nat.{not-suc-le-zero}
use native.Mathlib.Numerals.{add-one}
use native.Mathlib.Decide.{ℕ_discrete}
use native.Mathlib.Omega.{arith}
use mathlib.Core.Path.{◌≡◌, refl}
use mathlib.Core.Bool.{Bool, true, false, ◌&&◌, and-eq-true_iff, and-false}
use Rattle.wire.specs.Each.{each}

-- At none of no numbers anything is to be shown.
pub each_none : (test : ℕ → Bool) → each 0 test ≡ true
unfolding each
each_none test = refl

-- One number more is one test more.
pub each_more : (n : ℕ) (test : ℕ → Bool) → each (n + 1) test ≡ each n test && test n
unfolding each
each_more n test = rw add-one

-- What holds at each holds at every single one.
pub each_at : (n : ℕ) (test : ℕ → Bool) → each n test ≡ true → (k : ℕ) → k < n → test k ≡ true
unfolding each
each_at zero test e k h = absurd (not-suc-le-zero h)
each_at (suc n) test e k h =
    let both = (and-eq-true_iff (each n test) (test n)).0 e in
    elim (ℕ_discrete k n) [ yes same ↦ rw same both.1 | no other ↦ each_at n test both.0 k (omega arith) ]

-- What holds at every single one holds at each.
pub each_all : (n : ℕ) (test : ℕ → Bool) → ((k : ℕ) → k < n → test k ≡ true) → each n test ≡ true
unfolding each
each_all zero test all = refl
each_all (suc n) test all = rw (each_all n test (λ k h. all k (omega arith)), all n (omega arith))

-- Where it fails at one, it fails.
pub each_fails : (n : ℕ) (test : ℕ → Bool) (k : ℕ) → k < n → test k ≡ false → each n test ≡ false
unfolding each
each_fails zero test k h e = absurd (not-suc-le-zero h)
each_fails (suc n) test k h e =
    elim (ℕ_discrete k n) [
      | yes same ↦ let here : test n ≡ false = rw same at e in rw (here, and-false)
      | no other ↦ rw (each_fails n test k (omega arith) e)
    ]
