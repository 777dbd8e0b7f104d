-- The first of a sequence as a list: how many they are, each of them, and a list that is listed again.
-- Assumes nothing.
use Prim.Native.Nat.{ℕ, zero, suc, ◌≤◌, ◌<◌}
use native.Mathlib.Nat.{not-suc-le-zero}
use native.Mathlib.Omega.{arith}
use mathlib.Core.Path.{◌≡◌, refl, ap}
use mathlib.Core.List.{List, [], ◌∷◌}
use lib.ListN.{length, get_or}
use Rattle.reader.specs.Reading.{listed}

pub length_listed : {A : Type 0} (n : ℕ) (f : ℕ → A) → length (listed n f) ≡ n
unfolding listed
length_listed zero f = refl
length_listed (suc n) f = ap suc (length_listed n (λ (i : ℕ). f (suc i)))

pub listed_at : {A : Type 0} (n : ℕ) (f : ℕ → A) (d : A) (i : ℕ) → i < n → get_or (listed n f) i d ≡ f i
unfolding listed
listed_at zero f d i h = absurd (not-suc-le-zero h)
listed_at (suc n) f d zero h = refl
listed_at (suc n) f d (suc i) h = listed_at n (λ (j : ℕ). f (suc j)) d i (omega arith)

-- Behind the last there is none.
pub listed_past : {A : Type 0} (n : ℕ) (f : ℕ → A) (d : A) (i : ℕ) → n ≤ i → get_or (listed n f) i d ≡ d
unfolding listed
listed_past zero f d i h = refl
listed_past (suc n) f d zero h = absurd (not-suc-le-zero h)
listed_past (suc n) f d (suc i) h = listed_past n (λ (j : ℕ). f (suc j)) d i (omega arith)

-- Two sequences that are alike list alike.
pub listed_same : {A : Type 0} (n : ℕ) (f g : ℕ → A) → ((i : ℕ) → f i ≡ g i) → listed n f ≡ listed n g
unfolding listed
listed_same zero f g same = refl
listed_same (suc n) f g same = rw (same 0, listed_same n (λ (i : ℕ). f (suc i)) (λ (i : ℕ). g (suc i)) (λ i. same (suc i)))

-- What has a list's elements lists it again.
pub listed_back : {A : Type 0} (l : List A) (d : A) (f : ℕ → A) → ((i : ℕ) → i < length l → f i ≡ get_or l i d) → listed (length l) f ≡ l
unfolding listed
listed_back [] d f same = refl
listed_back (x ∷ l) d f same = rw (same 0 (omega arith), listed_back l d (λ (i : ℕ). f (suc i)) (λ i h. same (suc i) (omega arith)))
