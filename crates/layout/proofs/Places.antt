-- Where the areas' records stand: each where the one before it ends, so that by number an area is found at 29 bytes for each area before it
-- and 13 more for each of these that is of kind 8, which binary digits tell.
-- Assumes nothing.
use Prim.Native.Nat.{ℕ, zero, suc, ◌+◌, ◌-◌, ◌*◌, ◌%◌, ◌^◌, ◌≤◌, ◌<◌}
use native.Mathlib.Omega.{arith}
use native.Mathlib.Nat.{mul-le-mul_right, pow-suc, mod-eq_of_lt}
use native.Mathlib.Numerals.{add-one}
use native.Mathlib.Decide.{ℕ_discrete, dec_lt}
use mathlib.Core.Path.{◌≡◌, refl, sym, ap, ◌∙◌}
use mathlib.Core.List.{List}
use borrow.Author.Tests.{eq-eqb, ne_eqb}
use lib.Pow.{low, mod-mod-pow}
use lib.Count.{ones, ones_cat}
use Rattle.layout.specs.Layout.{common_kind, aachen_kind, area_size, long_more, long_of, kind_at, area_end, area_place, long_bits}

-- One kind is the longer, and only kind 8 is.
pub long_is : (kind : ℕ) → kind ≡ aachen_kind → long_of kind ≡ 1
unfolding long_of
long_is kind is = rw (eq-eqb kind aachen_kind is)

pub long_not : (kind : ℕ) → (kind ≡ aachen_kind → ⊥) → long_of kind ≡ 0
unfolding long_of
long_not kind never = rw (ne_eqb kind aachen_kind never)

pub long_most : (kind : ℕ) → long_of kind ≤ 1
long_most kind =
    elim (ℕ_discrete kind aachen_kind) [ yes is ↦ omega (arith, long_is kind is) | no never ↦ omega (arith, long_not kind never) ]

-- it is a digit, and so counts itself
long_digit : (kind : ℕ) → ones (long_of kind) ≡ long_of kind
unfolding ones
long_digit kind =
    elim (ℕ_discrete kind aachen_kind) [ yes is ↦ rw (long_is kind is) | no never ↦ rw (long_not kind never) ]

module _ (b : List ℕ) where
  pub place_none : area_place b 0 ≡ 0
  unfolding area_place
  place_none = refl

  pub place_next : (n : ℕ) → area_place b (n + 1) ≡ area_end b (area_place b n)
  unfolding area_place
  place_next n = rw (add-one n)

  bits_none : long_bits b 0 ≡ 0
  unfolding long_bits
  bits_none = refl

  pub bits_next : (n : ℕ) → long_bits b (n + 1) ≡ long_of (kind_at b (area_place b n)) * 2 ^ n + long_bits b n
  unfolding long_bits
  bits_next n = rw (add-one n)

  -- the first areas have a digit each
  pub bits_below : (n : ℕ) → long_bits b n < 2 ^ n
  bits_below zero = omega (arith, bits_none)
  bits_below (suc n) =
      let next = rw (add-one n) at (bits_next n) in
      omega (arith, mul-le-mul_right (2 ^ n) (long_most (kind_at b (area_place b n))), pow-suc 2 n, bits_below n)

  -- the digits of fewer areas are the lowest of those of more
  pub bits_cut : (m n : ℕ) → m ≤ n → long_bits b n % 2 ^ m ≡ long_bits b m
  bits_cut m zero h = let e : m ≡ 0 = omega arith in rw e (mod-eq_of_lt (bits_below 0))
  bits_cut m (suc n) h =
      elim (dec_lt n m) [
        | yes last ↦ let e : m ≡ suc n = omega arith in rw e (mod-eq_of_lt (bits_below (suc n)))
        | no earlier ↦
            let more : n - m + m ≡ n = omega arith in
            let lowest : long_bits b (suc n) % 2 ^ n ≡ long_bits b n =
            rw (rw (add-one n) at (bits_next n)) (low (long_of (kind_at b (area_place b n))) n (bits_below n))
            in
            sym (rw more at (mod-mod-pow (long_bits b (suc n)) (n - m) m)) ∙ ap (λ (x : ℕ). x % 2 ^ m) lowest
            ∙ bits_cut m n (omega arith)
      ]

  -- how many of them are ones
  abbrev pub long_areas : ℕ → ℕ
  long_areas n = ones (long_bits b n)

  pub long_none : long_areas 0 ≡ 0
  unfolding ones
  long_none = rw bits_none

  long_next : (n : ℕ) → long_areas (n + 1) ≡ long_areas n + long_of (kind_at b (area_place b n))
  long_next n =
      let kind = kind_at b (area_place b n) in
      let apart = ones_cat n (long_of kind) (long_bits b n) (bits_below n) in
      rw (bits_next n) (omega (arith, long_digit kind))

  pub place_is : (n : ℕ) → area_place b n ≡ area_size * n + long_more * long_areas n
  place_is zero = omega (arith, place_none, long_none)
  place_is (suc n) = omega (arith, rw (add-one n) at (place_next n), rw (add-one n) at (long_next n), place_is n)

  -- where none before it is of kind 8
  pub place_plain : (n : ℕ) → long_bits b n ≡ 0 → area_place b n ≡ area_size * n
  unfolding ones
  place_plain n none = let few : long_areas n ≡ 0 = ap ones none in omega (arith, place_is n)

  -- with one area more it is as many, or one more
  long_step : (n : ℕ) → (long_areas n ≤ long_areas (suc n)) × (long_areas (suc n) ≤ long_areas n + 1)
  long_step n =
      let e = rw (add-one n) at (long_next n) in
      let most = long_most (kind_at b (area_place b n)) in
      (omega arith, omega arith)

  long_up : (m n : ℕ) → m ≤ n → long_areas m ≤ long_areas n
  long_up m zero h = let e : m ≡ 0 = omega arith in rw e (omega arith)
  long_up m (suc n) h =
      elim (dec_lt n m) [
        | yes last ↦ let e : m ≡ suc n = omega arith in rw e (omega arith)
        | no earlier ↦ omega (arith, long_step n, long_up m n (omega arith))
      ]

  -- an area's record ends before any later area's begins
  pub place_before : (m n : ℕ) → m < n → area_end b (area_place b m) ≤ area_place b n
  place_before m n h = omega (arith, place_next m, place_is (m + 1), place_is n, long_up (m + 1) n (omega arith))

  pub long_few : (n : ℕ) → long_areas n ≤ n
  long_few zero = omega (arith, long_none)
  long_few (suc n) = omega (arith, long_step n, long_few n)

  -- where the first area is of kind 1, not all are of kind 8
  pub long_fewer : kind_at b 0 ≡ common_kind → (n : ℕ) → 0 < n → long_areas n < n
  long_fewer common zero some = absurd (omega arith)
  long_fewer common (suc zero) some =
      let first : kind_at b (area_place b 0) ≡ common_kind = rw place_none common in
      omega (arith, long_none, long_next 0, long_not (kind_at b (area_place b 0)) (λ e. omega arith))
  long_fewer common (suc (suc n)) some = omega (arith, long_step (suc n), long_fewer common (suc n) (omega arith))
