-- An area's prices at once: where the bits that a price above its most sets are clear, before the word is moved and then, each is in its range.
-- Assumes nothing.
use Rattle.std.proofs.Common.{◌≡◌, ℕ, ◌+◌, ◌-◌, ◌*◌, ◌/◌, ◌%◌, ◌^◌, ◌<◌, ◌≤◌, true, List, arith, le-leb}
use lib.Bits.{bit_and, bit_or}
use Rattle.wire.specs.Number.{get_le, Bytes}
use Rattle.wire.proofs.Number.{get_range}
use Rattle.layout.specs.Fields.{area_fields}
use Rattle.layout.specs.Rules.{prices_right}
use Rattle.scan.specs.Blocks.{bits}
use Rattle.scan.proofs.Masks.{clear_left, clear_right, mask_parts, high_bits}
use Rattle.scan.proofs.Words.{packed, packed_word}

-- the bits of the five fields from 2 ^ 14, 2 ^ 10, 2 ^ 11, 2 ^ 7 and 2 ^ 7 on are clear
record PricesClear (n : ℕ) : Type 0 where
  base : bits 14 2 n ≡ 0
  km : bits 26 6 n ≡ 0
  minutes : bits 43 5 n ≡ 0
  surcharge : bits 55 1 n ≡ 0
  reduction : bits 63 1 n ≡ 0

module _ (m n : ℕ) (c : PricesClear (bit_or m n)) where
  clear_first : PricesClear m
  clear_first =
      record {
        base = clear_left 14 2 m n c.base;
        km = clear_left 26 6 m n c.km;
        minutes = clear_left 43 5 m n c.minutes;
        surcharge = clear_left 55 1 m n c.surcharge;
        reduction = clear_left 63 1 m n c.reduction;
      }

  clear_second : PricesClear n
  clear_second =
      record {
        base = clear_right 14 2 m n c.base;
        km = clear_right 26 6 m n c.km;
        minutes = clear_right 43 5 m n c.minutes;
        surcharge = clear_right 55 1 m n c.surcharge;
        reduction = clear_right 63 1 m n c.reduction;
      }

-- bits stay clear with more above them, and tell how large their own number is
module _ (a more : ℕ) where
  past_1 : a % 2 ^ 1 ≡ 0 → (a + 2 ^ 1 * more) % 2 ^ 1 ≡ 0
  past_1 e = omega arith

  past_2 : a % 2 ^ 2 ≡ 0 → (a + 2 ^ 2 * more) % 2 ^ 2 ≡ 0
  past_2 e = omega arith

  past_5 : a % 2 ^ 5 ≡ 0 → (a + 2 ^ 5 * more) % 2 ^ 5 ≡ 0
  past_5 e = omega arith

  past_6 : a % 2 ^ 6 ≡ 0 → (a + 2 ^ 6 * more) % 2 ^ 6 ≡ 0
  past_6 e = omega arith

  below_7 : a < 2 ^ 8 → (a / 2 ^ 7 + 2 ^ 1 * more) % 2 ^ 1 ≡ 0 → a < 2 ^ 7
  below_7 fits e = omega arith

  below_10 : a < 2 ^ 16 → (a / 2 ^ 10 + 2 ^ 6 * more) % 2 ^ 6 ≡ 0 → a < 2 ^ 10
  below_10 fits e = omega arith

  below_11 : a < 2 ^ 16 → (a / 2 ^ 11 + 2 ^ 5 * more) % 2 ^ 5 ≡ 0 → a < 2 ^ 11
  below_11 fits e = omega arith

  below_14 : a < 2 ^ 16 → (a / 2 ^ 14 + 2 ^ 2 * more) % 2 ^ 2 ≡ 0 → a < 2 ^ 14
  below_14 fits e = omega arith

-- the mask picks these bits
module _ (n : ℕ) where
  base_field : n / 2 ^ 14 ≡ n % 2 ^ 32 % 2 ^ 16 / 2 ^ 14 + 2 ^ 2 * (n / 2 ^ 16)
  base_field = omega arith

  km_field : n / 2 ^ 26 ≡ n % 2 ^ 32 / 2 ^ 16 / 2 ^ 10 + 2 ^ 6 * (n / 2 ^ 32)
  km_field = omega arith

  minutes_field : n / 2 ^ 43 ≡ n / 2 ^ 32 % 2 ^ 16 / 2 ^ 11 + 2 ^ 5 * (n / 2 ^ 48)
  minutes_field = omega arith

  surcharge_field : n / 2 ^ 55 ≡ n / 2 ^ 32 / 2 ^ 16 % 2 ^ 8 / 2 ^ 7 + 2 ^ 1 * (n / 2 ^ 56)
  surcharge_field = omega arith

  reduction_field : n / 2 ^ 63 ≡ n / 2 ^ 32 / 2 ^ 16 / 2 ^ 8 / 2 ^ 7
  reduction_field = omega arith

  prices_bits : bit_and n 9259673516985335808 ≡ 0 → PricesClear n
  prices_bits none =
      let (upper, lower) = mask_parts 32 n 2155935744 4227907584 (omega arith) none in
      let (shares, minutes) = mask_parts 16 (n / 2 ^ 32) 32896 63488 (omega arith) upper in
      let (km, base) = mask_parts 16 (n % 2 ^ 32) 64512 49152 (omega arith) lower in
      let (reduction, surcharge) = mask_parts 8 (n / 2 ^ 32 / 2 ^ 16) 128 128 (omega arith) shares in
      record {
        base = rw base_field (past_2 (n % 2 ^ 32 % 2 ^ 16 / 2 ^ 14) (n / 2 ^ 16) (high_bits (n % 2 ^ 32 % 2 ^ 16) 2 14 base));
        km = rw km_field (past_6 (n % 2 ^ 32 / 2 ^ 16 / 2 ^ 10) (n / 2 ^ 32) (high_bits (n % 2 ^ 32 / 2 ^ 16) 6 10 km));
        minutes = rw minutes_field (past_5 (n / 2 ^ 32 % 2 ^ 16 / 2 ^ 11) (n / 2 ^ 48) (high_bits (n / 2 ^ 32 % 2 ^ 16) 5 11 minutes));
        surcharge =
            rw surcharge_field (past_1 (n / 2 ^ 32 / 2 ^ 16 % 2 ^ 8 / 2 ^ 7) (n / 2 ^ 56) (high_bits (n / 2 ^ 32 / 2 ^ 16 % 2 ^ 8) 1 7 surcharge));
        reduction = rw reduction_field (high_bits (n / 2 ^ 32 / 2 ^ 16 / 2 ^ 8) 1 7 reduction);
      }

-- five fields of a word that are so clear
module _ (a b c d e : ℕ) (az : a < 2 ^ 16) (bs : b < 2 ^ 16) (cs : c < 2 ^ 16) (ds : d < 2 ^ 8) (es : e < 2 ^ 8) where
  fields_small : PricesClear (packed a b c d e) → (a < 2 ^ 14) × (b < 2 ^ 10) × (c < 2 ^ 11) × (d < 2 ^ 7) × (e < 2 ^ 7)
  fields_small clear =
      let base : packed a b c d e / 2 ^ 14 ≡ a / 2 ^ 14 + 2 ^ 2 * (b + 2 ^ 16 * c + 2 ^ 32 * d + 2 ^ 40 * e) = omega arith in
      let km : packed a b c d e / 2 ^ 26 ≡ b / 2 ^ 10 + 2 ^ 6 * (c + 2 ^ 16 * d + 2 ^ 24 * e) = omega arith in
      let minutes : packed a b c d e / 2 ^ 43 ≡ c / 2 ^ 11 + 2 ^ 5 * (d + 2 ^ 8 * e) = omega arith in
      let surcharge : packed a b c d e / 2 ^ 55 ≡ d / 2 ^ 7 + 2 ^ 1 * e = omega arith in
      let reduction : packed a b c d e / 2 ^ 63 ≡ e / 2 ^ 7 = omega arith in (
        below_14 a (b + 2 ^ 16 * c + 2 ^ 32 * d + 2 ^ 40 * e) az (rw base at clear.base),
        below_10 b (c + 2 ^ 16 * d + 2 ^ 24 * e) bs (rw km at clear.km),
        below_11 c (d + 2 ^ 8 * e) cs (rw minutes at clear.minutes),
        below_7 d e ds (rw surcharge at clear.surcharge),
        last (rw reduction at clear.reduction),
      )
    where
      last : e / 2 ^ 7 % 2 ^ 1 ≡ 0 → e < 2 ^ 7
      last none = omega arith

-- a validity less 30 minutes whose bits are so clear has 30 at least: else it ran over
least-minutes :
    (p v t : ℕ) → p < 2 ^ 32 → v < 2 ^ 16 → bits 43 5 ((p + 2 ^ 32 * (v + 2 ^ 16 * t) + 18446743944860532736) % 2 ^ 64) ≡ 0 → 30 ≤ v
least-minutes p v t ps vs clear =
    let u = v + 2 ^ 16 * t + 4294967266 in
    let n = (p + 2 ^ 32 * (v + 2 ^ 16 * t) + 18446743944860532736) % 2 ^ 64 in
    let upper : n / 2 ^ 32 ≡ u % 2 ^ 32 = upper_word p v t ps in
    let twice : n / 2 ^ 43 ≡ n / 2 ^ 32 / 2 ^ 11 = omega arith in
    over v t vs (rw (twice, upper) at clear)
  where
    upper_word :
        (p v t : ℕ) → p < 2 ^ 32
        → (p + 2 ^ 32 * (v + 2 ^ 16 * t) + 18446743944860532736) % 2 ^ 64 / 2 ^ 32 ≡ (v + 2 ^ 16 * t + 4294967266) % 2 ^ 32
    upper_word p v t ps = omega arith

    over : (v t : ℕ) → v < 2 ^ 16 → (v + 2 ^ 16 * t + 4294967266) % 2 ^ 32 / 2 ^ 11 % 2 ^ 5 ≡ 0 → 30 ≤ v
    over v t vs clear =
        let w = (v + 2 ^ 16 * t + 4294967266) % 2 ^ 32 in
        let low : w % 2 ^ 16 ≡ (v + 65506) % 2 ^ 16 = omega arith in
        let small : w % 2 ^ 16 < 2 ^ 11 = omega arith in
        omega arith

-- The five fields of a word whose bits are clear, less 30 minutes, and moved besides.
module _ (a b v d e : ℕ) (az : a < 2 ^ 16) (bs : b < 2 ^ 16) (vs : v < 2 ^ 16) (ds : d < 2 ^ 8) (es : e < 2 ^ 8) where
  abbrev less : ℕ
  less = (packed a b v d e + 18446743944860532736) % 2 ^ 64

  abbrev moved : ℕ
  moved = (less + 1953157599290923247) % 2 ^ 64

  prices_small :
      PricesClear less → PricesClear moved → (a ≤ 10000) × (b ≤ 1000) × (30 ≤ v) × (v ≤ 1440) × (d ≤ 100) × (e ≤ 100)
  prices_small clear clear-moved =
      let whole : packed a b v d e ≡ a + 2 ^ 16 * b + 2 ^ 32 * (v + 2 ^ 16 * (d + 2 ^ 8 * e)) = omega arith in
      let least = least-minutes (a + 2 ^ 16 * b) v (d + 2 ^ 8 * e) (omega arith) vs (rw whole at clear.minutes) in
      let less-is : less ≡ packed a b (v - 30) d e = omega arith in
      let (a_small, b-small, v-small, d_small, e-small) = fields_small a b (v - 30) d e az bs (omega arith) ds es (rw less-is at clear) in
      let moved-is : moved ≡ packed (a + 6383) (b + 23) (v - 30 + 637) (d + 27) (e + 27) = rw less-is (omega arith) in
      let (a-most, b-most, v-most, d-most, e-most) =
      fields_small (a + 6383) (b + 23) (v - 30 + 637) (d + 27) (e + 27) (omega arith) (omega arith) (omega arith) (omega arith) (omega arith)
      (rw moved-is at clear-moved)
      in
      (omega arith, omega arith, least, omega arith, omega arith, omega arith)

-- So the prices of the area record at a place are right.
pub prices_told :
    (b : List ℕ) → Bytes b → (at : ℕ)
    → bit_and
    (bit_or ((get_le 8 b (at + 6) + 18446743944860532736) % 2 ^ 64) (((get_le 8 b (at + 6) + 18446743944860532736) % 2 ^ 64 + 1953157599290923247) % 2 ^ 64))
    9259673516985335808
    ≡ 0
    → prices_right (area_fields b at) ≡ true
unfolding area_fields
prices_told b bytes at none =
    let km-at : at + 6 + 2 ≡ at + 8 = omega arith in
    let minutes-at : at + 6 + 4 ≡ at + 10 = omega arith in
    let surcharge-at : at + 6 + 6 ≡ at + 12 = omega arith in
    let reduction-at : at + 6 + 7 ≡ at + 13 = omega arith in
    let word = rw (km-at, minutes-at, surcharge-at, reduction-at) at (packed_word b (at + 6)) in
    let base = get_le 2 b (at + 6) in
    let km = get_le 2 b (at + 8) in
    let minutes = get_le 2 b (at + 10) in
    let surcharge = get_le 1 b (at + 12) in
    let reduction = get_le 1 b (at + 13) in
    let x = (packed base km minutes surcharge reduction + 18446743944860532736) % 2 ^ 64 in
    let y = (x + 1953157599290923247) % 2 ^ 64 in
    let clear = prices_bits (bit_or x y) (rw word at none) in
    let (base-right, km-right, least, most, surcharge-right, reduction-right) =
    prices_small base km minutes surcharge reduction (get_range 2 b (at + 6) bytes) (get_range 2 b (at + 8) bytes) (get_range 2 b (at + 10) bytes)
    (get_range 1 b (at + 12) bytes) (get_range 1 b (at + 13) bytes) (clear_first x y clear) (clear_second x y clear)
    in
    rw (
      le-leb base 10000 base-right,
      le-leb km 1000 km-right,
      le-leb 30 minutes least,
      le-leb minutes 1440 most,
      le-leb surcharge 100 surcharge-right,
      le-leb reduction 100 reduction-right,
    )
