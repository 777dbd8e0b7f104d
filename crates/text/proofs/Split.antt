-- The digits of two numbers below 10,000, found at once.
-- Assumes nothing.
use Prim.Native.Nat.{ℕ, ◌+◌, ◌-◌, ◌*◌, ◌/◌, ◌%◌, ◌≤◌, ◌<◌}
use native.Mathlib.Omega.{arith}
use mathlib.Core.Path.{◌≡◌, ap, ◌∙◌}
use mathlib.Core.List.{List, [], ◌∷◌, ◌++◌}
use Rattle.text.specs.Fours.{four, two_fours, word_of}

hundredth : (n : ℕ) → n < 10000 → n * 5243 / 524288 ≡ n / 100
hundredth n small = omega arith

tenth : (n : ℕ) → n < 100 → n * 103 / 1024 ≡ n / 10
tenth n small = omega arith

-- ---- Two numbers in a word's halves.

abbrev pub halves : ℕ → ℕ → ℕ
halves a b = a + 4294967296 * b

abbrev pub in_halves : ℕ → ℕ
in_halves raw = raw % 128 + 4294967296 * (raw / 4294967296 % 128)

module _ (a b : ℕ) (sa : a < 10000) (sb : b < 10000) where
  scaled : halves a b * 5243 / 524288 ≡ a * 5243 / 524288 + 8192 * (b * 5243)
  scaled = omega arith

  pub hundreds : in_halves (halves a b * 5243 / 524288) ≡ halves (a / 100) (b / 100)
  hundreds =
      let low = hundredth a sa in
      let high = hundredth b sb in
      let x = b * 5243 in
      let first : (a / 100 + 8192 * x) % 128 ≡ a / 100 = omega arith in
      let second : (a / 100 + 8192 * x) / 4294967296 ≡ x / 524288 = omega arith in
      rw (scaled, low, first, second, high) (omega arith)

-- ---- Four numbers in its quarters.

abbrev pub quarters : ℕ → ℕ → ℕ → ℕ → ℕ
quarters c d e f = c + 65536 * d + 4294967296 * e + 281474976710656 * f

abbrev pub in_quarters : ℕ → ℕ
in_quarters raw =
    raw % 16 + 65536 * (raw / 65536 % 16) + 4294967296 * (raw / 4294967296 % 16) + 281474976710656 * (raw / 281474976710656 % 16)

-- what stands below does not reach into the quarter above
above : (c x : ℕ) → c < 64 → (c + 64 * x) / 65536 ≡ x / 1024
above c x small = omega arith

module _ (c d e f : ℕ) (sc : c < 100) (sd : d < 100) (se : e < 100) (sf : f < 100) where
  abbrev raw : ℕ
  raw = quarters c d e f * 103 / 1024

  first : raw ≡ c / 10 + 64 * (quarters d e f 0 * 103)
  first = omega (arith, tenth c sc)

  second : raw / 65536 ≡ d / 10 + 64 * (quarters e f 0 0 * 103)
  second = ap (◌/ 65536) first ∙ above (c / 10) (quarters d e f 0 * 103) (omega arith) ∙ omega (arith, tenth d sd)

  third : raw / 4294967296 ≡ e / 10 + 64 * (quarters f 0 0 0 * 103)
  third =
      let by_two : raw / 4294967296 ≡ raw / 65536 / 65536 = omega arith in
      by_two ∙ ap (◌/ 65536) second ∙ above (d / 10) (quarters e f 0 0 * 103) (omega arith) ∙ omega (arith, tenth e se)

  fourth : raw / 281474976710656 ≡ f / 10
  fourth =
      let by_two : raw / 281474976710656 ≡ raw / 4294967296 / 65536 = omega arith in
      by_two ∙ ap (◌/ 65536) third ∙ above (e / 10) (quarters f 0 0 0 * 103) (omega arith) ∙ omega (arith, tenth f sf)

  pub tens : in_quarters raw ≡ quarters (c / 10) (d / 10) (e / 10) (f / 10)
  tens =
      let one : (c / 10 + 64 * (quarters d e f 0 * 103)) % 16 ≡ c / 10 = omega arith in
      let two : (d / 10 + 64 * (quarters e f 0 0 * 103)) % 16 ≡ d / 10 = omega arith in
      let three : (e / 10 + 64 * (quarters f 0 0 0 * 103)) % 16 ≡ e / 10 = omega arith in
      let four : f / 10 % 16 ≡ f / 10 = omega arith in
      omega (arith, ap (◌% 16) first, ap (◌% 16) second, ap (◌% 16) third, ap (◌% 16) fourth)

-- ---- The digits.

interleaved :
    (c d e f g h i j : ℕ)
    → quarters c e g i + 256 * quarters d f h j ≡ word_of (c ∷ d ∷ e ∷ f ∷ g ∷ h ∷ i ∷ j ∷ [])
unfolding word_of
interleaved c d e f g h i j = omega arith

-- as the code has them: two pairs of each number, and the tens of all four
abbrev pub code_hundreds : ℕ → ℕ → ℕ
code_hundreds a b = in_halves (halves a b * 5243 / 524288)

abbrev pub code_pairs : ℕ → ℕ → ℕ
code_pairs a b = code_hundreds a b + 65536 * (halves a b - 100 * code_hundreds a b)

abbrev pub code_tens : ℕ → ℕ → ℕ
code_tens a b = in_quarters (code_pairs a b * 103 / 1024)

nines : (c d e f g h i j : ℕ) → c ≤ 9 → d ≤ 9 → e ≤ 9 → f ≤ 9 → g ≤ 9 → h ≤ 9 → i ≤ 9 → j ≤ 9
    → word_of (c ∷ d ∷ e ∷ f ∷ g ∷ h ∷ i ∷ j ∷ []) ≤ 651061555542690057
unfolding word_of
nines c d e f g h i j sc sd se sf sg sh si sj = omega arith

module _ (a b : ℕ) (sa : a < 10000) (sb : b < 10000) where
  pub hundreds_fit : 100 * code_hundreds a b ≤ halves a b
  hundreds_fit = rw (hundreds a b sa sb) (omega arith)

  abbrev pub pairs : ℕ
  pairs = quarters (a / 100) (a % 100) (b / 100) (b % 100)

  pub pairs_are : code_pairs a b ≡ pairs
  pairs_are =
      let left : halves a b - 100 * halves (a / 100) (b / 100) ≡ halves (a % 100) (b % 100) = omega arith in
      rw (hundreds a b sa sb, left) (omega arith)

  abbrev pub tenths : ℕ
  tenths = quarters (a / 100 / 10) (a % 100 / 10) (b / 100 / 10) (b % 100 / 10)

  pub tens_are : code_tens a b ≡ tenths
  tens_are = rw pairs_are (tens (a / 100) (a % 100) (b / 100) (b % 100) (omega arith) (omega arith) (omega arith) (omega arith))

  pub tens_fit : 10 * code_tens a b ≤ code_pairs a b
  tens_fit = rw (tens_are, pairs_are) (omega arith)

  rests : pairs - 10 * tenths ≡ quarters (a / 100 % 10) (a % 100 % 10) (b / 100 % 10) (b % 100 % 10)
  rests = omega arith

  digits_are : tenths + 256 * (pairs - 10 * tenths) ≡ word_of (two_fours a b)
  digits_are =
      let a1 : a / 100 / 10 ≡ a / 1000 = omega arith in
      let a2 : a % 100 / 10 ≡ a / 10 % 10 = omega arith in
      let a3 : a % 100 % 10 ≡ a % 10 = omega arith in
      let b1 : b / 100 / 10 ≡ b / 1000 = omega arith in
      let b2 : b % 100 / 10 ≡ b / 10 % 10 = omega arith in
      let b3 : b % 100 % 10 ≡ b % 10 = omega arith in
      rw (rests, a1, a2, a3, b1, b2, b3)
      (interleaved (a / 1000) (a / 100 % 10) (a / 10 % 10) (a % 10) (b / 1000) (b / 100 % 10) (b / 10 % 10) (b % 10))

  pub digits_found : code_tens a b + 256 * (code_pairs a b - 10 * code_tens a b) ≡ word_of (two_fours a b)
  digits_found = rw (tens_are, pairs_are) digits_are

  pub word_small : word_of (two_fours a b) ≤ 651061555542690057
  word_small =
      nines (a / 1000) (a / 100 % 10) (a / 10 % 10) (a % 10) (b / 1000) (b / 100 % 10) (b / 10 % 10) (b % 10)
      (omega arith) (omega arith) (omega arith) (omega arith) (omega arith) (omega arith) (omega arith) (omega arith)

-- ---- The word in two.

module _ (c d e f g h i j : ℕ) (sc : c < 10) (sd : d < 10) (se : e < 10) (sf : f < 10) where
  abbrev low : List ℕ
  low = c ∷ d ∷ e ∷ f ∷ []

  abbrev high : List ℕ
  high = g ∷ h ∷ i ∷ j ∷ []

  apart : word_of (low ++ high) ≡ word_of low + 4294967296 * word_of high
  unfolding word_of
  apart = omega arith

  low_small : word_of low < 4294967296
  unfolding word_of
  low_small = omega arith

  low_half : word_of (low ++ high) % 4294967296 ≡ word_of low
  low_half = omega (arith, apart, low_small)

  high_half : word_of (low ++ high) / 4294967296 ≡ word_of high
  high_half = omega (arith, apart, low_small)

module _ (a b : ℕ) (sa : a < 10000) where
  pub front_half : word_of (two_fours a b) % 4294967296 ≡ word_of (four a)
  front_half =
      low_half (a / 1000) (a / 100 % 10) (a / 10 % 10) (a % 10) (b / 1000) (b / 100 % 10) (b / 10 % 10) (b % 10) (omega arith) (omega arith)
      (omega arith) (omega arith)

  pub back_half : word_of (two_fours a b) / 4294967296 ≡ word_of (four b)
  back_half =
      high_half (a / 1000) (a / 100 % 10) (a / 10 % 10) (a % 10) (b / 1000) (b / 100 % 10) (b / 10 % 10) (b % 10) (omega arith) (omega arith)
      (omega arith) (omega arith)
