-- A number in decimal is the number: its digits, read one after another, give it back, and the first one is not 0 unless the number is.
-- Assumes nothing.
use Prim.Native.Nat.{ℕ, zero, suc, ◌+◌, ◌-◌, ◌*◌, ◌/◌, ◌%◌, ◌≤◌, ◌<◌}
use native.Mathlib.Omega.{arith}
use native.Mathlib.Decide.{dec_lt}
use mathlib.Core.Path.{◌≡◌, refl, sym, ap, ◌∙◌}
use mathlib.Core.List.{List, [], ◌∷◌, ◌++◌}
use Rattle.text.specs.Texts.{digit, digits_in, decimal}
use Rattle.text.proofs.Decimal.{none_in, some_in}

-- a number read on, digit by digit
pub read_on : ℕ → List ℕ → ℕ
read_on value [] = value
read_on value (byte ∷ text) = read_on (10 * value + (byte - 48)) text

one_read : (value : ℕ) (text : List ℕ) (byte : ℕ) → read_on value (text ++ (byte ∷ [])) ≡ 10 * read_on value text + (byte - 48)
unfolding read_on
one_read value [] byte = refl
one_read value (first ∷ text) byte = one_read (10 * value + (first - 48)) text byte

last_read : (text : List ℕ) (n : ℕ) → read_on 0 text ≡ n / 10 → read_on 0 (text ++ (digit n ∷ [])) ≡ n
unfolding digit
last_read text n rest = one_read 0 text (48 + n % 10) ∙ omega arith

digits_read : (most n : ℕ) → n ≤ most → read_on 0 (digits_in most n) ≡ n
unfolding read_on
digits_read zero n small = rw (none_in zero n small) (omega arith)
digits_read (suc most) n small =
    elim (dec_lt 0 n) [
      | yes some ↦ rw (some_in most n some) (last_read (digits_in most (n / 10)) n (digits_read most (n / 10) (omega arith)))
      | no none ↦ rw (none_in (suc most) n (omega arith)) (omega arith)
    ]

pub decimal_read : (n : ℕ) → read_on 0 (decimal n) ≡ n
unfolding decimal
decimal_read n = last_read (digits_in n (n / 10)) n (digits_read n (n / 10) (omega arith))

-- no two numbers have the same text
pub decimal_unique : (m n : ℕ) → decimal m ≡ decimal n → m ≡ n
decimal_unique m n same = sym (decimal_read m) ∙ ap (read_on 0) same ∙ decimal_read n

-- a text whose first digit is not 0
pub record Leading (text : List ℕ) : Type 0 where
  pub first : ℕ
  pub rest : List ℕ
  pub is : text ≡ first ∷ rest
  pub not_zero : 48 < first

more_leading : {text : List ℕ} (byte : ℕ) → Leading text → Leading (text ++ (byte ∷ []))
more_leading byte l = record { first = l.first; rest = l.rest ++ (byte ∷ []); is = ap (◌++ (byte ∷ [])) l.is; not_zero = l.not_zero }

last_leading : (text : List ℕ) (n : ℕ) → 0 < n → (0 < n / 10 → Leading text) → (n / 10 ≤ 0 → text ≡ []) → Leading (text ++ (digit n ∷ []))
unfolding digit
last_leading text n some longer short =
    elim (dec_lt 0 (n / 10)) [
      | yes more ↦ more_leading (48 + n % 10) (longer more)
      | no none ↦ record { first = 48 + n % 10; rest = []; is = ap (◌++ ((48 + n % 10) ∷ [])) (short (omega arith)); not_zero = omega arith }
    ]

digits_leading : (most n : ℕ) → n ≤ most → 0 < n → Leading (digits_in most n)
digits_leading zero n small some = absurd (omega arith)
digits_leading (suc most) n small some =
    rw (some_in most n some)
    (last_leading (digits_in most (n / 10)) n some (digits_leading most (n / 10) (omega arith)) (none_in most (n / 10)))

pub decimal_leading : (n : ℕ) → 0 < n → Leading (decimal n)
unfolding decimal
decimal_leading n some =
    last_leading (digits_in n (n / 10)) n some (digits_leading n (n / 10) (omega arith)) (none_in n (n / 10))
