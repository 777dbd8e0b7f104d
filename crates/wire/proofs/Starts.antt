-- Byte strings that begin alike: what is read there is the same, and what is put in both leaves them so.
-- Assumes nothing.
use Prim.Native.Nat.{ℕ, zero, suc, ◌+◌, ◌%◌, ◌/◌, ◌≤◌, ◌<◌}
use native.Mathlib.Omega.{arith}
use native.Mathlib.Decide.{ℕ_discrete}
use mathlib.Core.Path.{◌≡◌, sym, ◌∙◌}
use mathlib.Core.List.{List}
use lib.ListN.{length, get_or, set, length-set}
use lib.Seq.{get_or-set_same, get_or-set_other}
use Rattle.wire.specs.Number.{get_le, put_le}
use Rattle.wire.proofs.Number.{get_same}

-- two byte strings begin with the same n bytes
pub record SameStart (n : ℕ) (b b' : List ℕ) : Type 0 where
  pub long : n ≤ length b
  pub long' : n ≤ length b'
  pub same : (i : ℕ) → i < n → get_or b' i 0 ≡ get_or b i 0

-- the same byte stored in both
set_start : {n : ℕ} {b b' : List ℕ} → SameStart n b b' → (p x : ℕ) → SameStart n (set b p x) (set b' p x)
set_start {n} {b} {b'} s p x =
    record {
      long = omega (arith, s.long, length-set b p x);
      long' = omega (arith, s.long', length-set b' p x);
      same = λ i h. at i h (ℕ_discrete i p);
    }
  where
    at : (i : ℕ) → i < n → Dec (i ≡ p) → get_or (set b' p x) i 0 ≡ get_or (set b p x) i 0
    at i h (no ne) = get_or-set_other b' p i x 0 ne ∙ s.same i h ∙ sym (get_or-set_other b p i x 0 ne)
    at i h (yes e) =
        rw e (get_or-set_same b' p x 0 (omega (arith, s.long')) ∙ sym (get_or-set_same b p x 0 (omega (arith, s.long))))

-- The same number put in both leaves them so.
pub put_start : (k : ℕ) {n : ℕ} {b b' : List ℕ} → SameStart n b b' → (p v : ℕ) → SameStart n (put_le k b p v) (put_le k b' p v)
unfolding put_le
put_start zero s p v = s
put_start (suc k) s p v = put_start k (set_start s p (v % 256)) (p + 1) (v / 256)

-- A number that stands wholly within the beginning is the same.
pub get_start : (k : ℕ) {n : ℕ} {b b' : List ℕ} → SameStart n b b' → (p : ℕ) → p + k ≤ n → get_le k b' p ≡ get_le k b p
get_start k {n} {b} {b'} s p fits = get_same k b' b p (λ i low high. s.same i (omega arith))
