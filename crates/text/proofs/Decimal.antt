-- A number that is put digit by digit, the last one first: what stands in front of the digits put are those that are left, and there is room
-- for them.
-- Assumes nothing.
use Prim.Native.Nat.{ℕ, zero, suc, ◌+◌, ◌-◌, ◌/◌, ◌%◌, ◌^◌, ◌≤◌, ◌<◌}
use native.Mathlib.Omega.{arith}
use native.Mathlib.Nat.{pow-succ', pow-le-pow_right}
use native.Mathlib.Decide.{dec_lt}
use mathlib.Core.Path.{◌≡◌, refl, sym, ap, ◌∙◌}
use mathlib.Core.List.{List, [], ◌∷◌, ◌++◌, append_assoc}
use borrow.Author.Tests.{ne_eqb}
use lib.ListN.{length, drop, set}
use lib.Seq.{drop-cons, drop-set-lt, get_or-set_same, lt-length-set}
use Rattle.text.specs.Texts.{digit, digits_in, decimal}

-- ---- The digits of a number.

pub none_in : (most n : ℕ) → n ≤ 0 → digits_in most n ≡ []
unfolding digits_in
none_in zero n none = refl
none_in (suc most) n none = let zero_is : n ≡ 0 = omega arith in rw zero_is

pub some_in : (most n : ℕ) → 0 < n → digits_in (suc most) n ≡ digits_in most (n / 10) ++ (digit n ∷ [])
unfolding digits_in
some_in most n some = rw (ne_eqb n 0 (λ none. omega arith))

-- how many digits may come does not matter, where they are as many as the number counts
enough : (k m n : ℕ) → n ≤ k → n ≤ m → digits_in k n ≡ digits_in m n
enough zero m n in-k in-m = none_in zero n in-k ∙ sym (none_in m n in-k)
enough (suc k) zero n in-k in-m = none_in (suc k) n in-m ∙ sym (none_in zero n in-m)
enough (suc k) (suc m) n in-k in-m =
    elim (dec_lt 0 n) [
      | yes some ↦
          some_in k n some ∙ ap (◌++ (digit n ∷ [])) (enough k m (n / 10) (omega arith) (omega arith)) ∙ sym (some_in m n some)
      | no none ↦ none_in (suc k) n (omega arith) ∙ sym (none_in (suc m) n (omega arith))
    ]

-- all of them, none for 0
abbrev pub digits : ℕ → List ℕ
digits n = digits_in n n

-- a number's last digit stands behind the digits of its tenth
pub more_digits : (n : ℕ) → 0 < n → digits n ≡ digits (n / 10) ++ (digit n ∷ [])
more_digits (suc n) some =
    some_in n (suc n) some ∙ ap (◌++ (digit (suc n) ∷ [])) (enough n (suc n / 10) (suc n / 10) (omega arith) (omega arith))
more_digits zero some = absurd (omega arith)

pub decimal_digits : (n : ℕ) → decimal n ≡ digits (n / 10) ++ (digit n ∷ [])
unfolding decimal
decimal_digits n = ap (◌++ (digit n ∷ [])) (enough n (n / 10) (n / 10) (omega arith) (omega arith))

-- in decimal a number but 0 is its digits
pub decimal_some : (n : ℕ) → 0 < n → decimal n ≡ digits n
decimal_some n some = decimal_digits n ∙ sym (more_digits n some)

pub one_digit : (n : ℕ) → n < 10 → decimal n ≡ (48 + n) ∷ []
unfolding digit
one_digit n few =
    let last : n % 10 ≡ n = omega arith in
    decimal_digits n ∙ rw (none_in (n / 10) (n / 10) (omega arith), last)

-- the last digit stands behind those of the tenth
pub last_digit : (n : ℕ) → 10 ≤ n → decimal n ≡ decimal (n / 10) ++ (digit n ∷ [])
last_digit n more = decimal_digits n ∙ ap (◌++ (digit n ∷ [])) (sym (decimal_some (n / 10) (omega arith)))

-- ---- Digits in front of a place of a buffer.

-- the bytes from the place before on, once its byte is set
pub set_front :
    (text : List ℕ) (place value : ℕ) → 0 < place → place ≤ length text → drop (place - 1) (set text (place - 1) value) ≡ value ∷ drop place text
set_front text place value some within =
    let here : place - 1 < length text = omega arith in
    let next : suc (place - 1) ≡ place = omega arith in
    drop-cons (set text (place - 1) value) (place - 1) 0 (lt-length-set text (place - 1) value here)
    ∙ rw (get_or-set_same text (place - 1) value 0 here, drop-set-lt (suc (place - 1)) text (place - 1) value (omega arith), next)

-- what stands from the place on stays
pub set_behind : (text : List ℕ) (place value : ℕ) → 0 < place → drop place (set text (place - 1) value) ≡ drop place text
set_behind text place value some = drop-set-lt place text (place - 1) value (omega arith)

-- the digit that is put goes from those that are left to those that stand
one_put : (left : List ℕ) (value : ℕ) (text : List ℕ) (at : ℕ) → 0 < at → at ≤ length text
    → left ++ drop (at - 1) (set text (at - 1) value) ≡ (left ++ (value ∷ [])) ++ drop at text
one_put left value text at some within = rw (set_front text at value some within, append_assoc)

module _ (text : List ℕ) (at n : ℕ) (some : 0 < at) (within : at ≤ length text) where
  -- a number's last digit
  pub last_put : digits (n / 10) ++ drop (at - 1) (set text (at - 1) (48 + n % 10)) ≡ decimal n ++ drop at text
  unfolding digit
  last_put = one_put (digits (n / 10)) (48 + n % 10) text at some within ∙ ap (◌++ drop at text) (sym (decimal_digits n))

  -- one more digit
  pub more_put : 0 < n → digits (n / 10) ++ drop (at - 1) (set text (at - 1) (48 + n % 10)) ≡ digits n ++ drop at text
  more_put not_zero = last_put ∙ ap (◌++ drop at text) (decimal_some n not_zero)

  -- one more, where others are left for sure
  pub long_put : 10 ≤ n → decimal (n / 10) ++ drop (at - 1) (set text (at - 1) (48 + n % 10)) ≡ decimal n ++ drop at text
  long_put long = ap (◌++ drop (at - 1) (set text (at - 1) (48 + n % 10))) (decimal_some (n / 10) (omega arith)) ∙ last_put

-- none is left
pub all_put : (n : ℕ) (text : List ℕ) → n ≤ 0 → digits n ++ text ≡ text
all_put n text none = rw (none_in n n none)

-- ---- The room.

-- what is left of a number has no more digits than there are places from `low` up to `at`
pub record DigitsLeft (rest low at : ℕ) : Type 0 where
  pub left : ℕ
  pub small : rest < 10 ^ left
  pub room : low + left ≤ at

module _ {rest low at : ℕ} where
  -- where a digit is left there is a place for it, and the rest has a digit fewer
  pub digit_put : DigitsLeft rest low at → 0 < rest → DigitsLeft (rest / 10) low (at - 1) × (low < at)
  digit_put s some = go s.left s.small s.room
    where
      go : (left : ℕ) → rest < 10 ^ left → low + left ≤ at → DigitsLeft (rest / 10) low (at - 1) × (low < at)
      go zero small room = absurd (omega arith)
      go (suc left) small room =
          let more = pow-succ' 10 left in (record { left = left; small = omega arith; room = omega arith }, omega arith)

  -- what does not fit 32 bits has 10 digits at least
  pub long_left : DigitsLeft rest low at → 4294967295 < rest → low + 10 ≤ at
  long_left s long =
      elim (dec_lt s.left 10) [
        | yes few ↦
            let small : 10 ^ s.left ≤ 10 ^ 9 = pow-le-pow_right {n = 10} (omega arith) {i = s.left} {j = 9} (omega arith) in
            absurd (omega (arith, s.small))
        | no many ↦ omega (arith, s.room)
      ]
