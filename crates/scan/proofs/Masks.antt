-- Words joined by "or", and masks: which bits are clear.
-- Assumes nothing.
use Rattle.std.proofs.Common.{◌≡◌, ℕ, zero, suc, ◌+◌, ◌-◌, ◌*◌, ◌/◌, ◌%◌, ◌^◌, ◌<◌, sym, refl, ap, ◌∙◌, mod-lt, suc-mul, arith, pow_pos}
use lib.Pow.{split}
use lib.Bits.{bit_and, bit_or, and_le_l, and_le_r, or_add_and, or_shr, or_mod, and_block, and_high}
use Rattle.scan.specs.Blocks.{bits}

-- what is joined to 0 is 0
pub or_left : (a b : ℕ) → bit_or a b ≡ 0 → a ≡ 0
or_left a b e = omega (arith, or_add_and a b, and_le_r a b)

pub or_right : (a b : ℕ) → bit_or a b ≡ 0 → b ≡ 0
or_right a b e = omega (arith, or_add_and a b, and_le_l a b)

-- bits of joined words that are clear are clear in both
module _ (from many a b : ℕ) where
  bits_or : bits from many (bit_or a b) ≡ bit_or (bits from many a) (bits from many b)
  bits_or = ap (λ (n : ℕ). n % 2 ^ many) (or_shr a b from) ∙ or_mod (a / 2 ^ from) (b / 2 ^ from) many

  pub clear_left : bits from many (bit_or a b) ≡ 0 → bits from many a ≡ 0
  clear_left e = or_left (bits from many a) (bits from many b) (sym bits_or ∙ e)

  pub clear_right : bits from many (bit_or a b) ≡ 0 → bits from many b ≡ 0
  clear_right e = or_right (bits from many a) (bits from many b) (sym bits_or ∙ e)

-- a number some power of two times is 0 only where it is 0
shifted_none : (k n : ℕ) → n * 2 ^ k ≡ 0 → n ≡ 0
shifted_none k zero e = refl
shifted_none k (suc n) e = absurd (omega (arith, suc-mul n (2 ^ k), pow_pos k))

-- a mask of two parts that picks nothing: neither part does
pub mask_parts :
    (k n upper lower : ℕ) → lower < 2 ^ k → bit_and n (upper * 2 ^ k + lower) ≡ 0
    → (bit_and (n / 2 ^ k) upper ≡ 0) × (bit_and (n % 2 ^ k) lower ≡ 0)
mask_parts k n upper lower small none =
    let parts = and_block k (n / 2 ^ k) upper (n % 2 ^ k) lower (mod-lt n (pow_pos k)) small in
    let sum : bit_and (n / 2 ^ k) upper * 2 ^ k + bit_and (n % 2 ^ k) lower ≡ 0 = sym (rw (split n k) at parts) ∙ none in
    (shifted_none k (bit_and (n / 2 ^ k) upper) (omega arith), omega arith)

-- a mask of so many bits from one on that picks nothing
pub high_bits : (n many from : ℕ) → bit_and n (2 ^ (many + from) - 2 ^ from) ≡ 0 → bits from many n ≡ 0
high_bits n many from none = shifted_none from (bits from many n) (sym (and_high n many from) ∙ none)
