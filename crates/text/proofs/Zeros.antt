-- Digits in a word of bytes: the zeros in front are its lowest bytes, and what is left without them is the number in decimal.
-- Assumes nothing.
use Prim.Native.Nat.{ℕ, zero, suc, ◌+◌, ◌-◌, ◌*◌, ◌/◌, ◌%◌, ◌^◌, ◌≤◌, ◌<◌}
use native.Mathlib.Omega.{arith}
use native.Mathlib.Nat.{le_refl, zero-div, div-div-eq-div-mul}
use lib.Pow.{pow-add}
use mathlib.Core.Path.{◌≡◌, refl, sym, ap, ◌∙◌}
use mathlib.Core.List.{List, [], ◌∷◌, ◌++◌, append_assoc, append-nil}
use lib.ListN.{length, take, drop, length-drop}
use lib.Seq.{drop-append-le}
use lib.Count.{count_trailing_zeros, under}
use Rattle.text.specs.Texts.{digit, decimal}
use Rattle.text.specs.Fours.{four, two_fours, word_of, first_bytes}
use Rattle.text.proofs.Decimal.{one_digit, last_digit}

-- ---- The digits, and their number.

-- each is below a limit
abbrev Below : ℕ → List ℕ → Type 0
Below limit [] = Unit {0}
Below limit (first ∷ rest) = (first < limit) × Below limit rest

-- the number that digits are read on to
abbrev number_on : ℕ → List ℕ → ℕ
number_on value [] = value
number_on value (first ∷ rest) = number_on (10 * value + first) rest

-- their text
abbrev as_text : List ℕ → List ℕ
as_text [] = []
as_text (first ∷ rest) = (48 + first) ∷ as_text rest

-- how many zeros stand in front
abbrev zeros_before : List ℕ → ℕ
zeros_before [] = 0
zeros_before (zero ∷ rest) = suc (zeros_before rest)
zeros_before (suc first ∷ rest) = 0

next_digit : (n d : ℕ) → 0 < n → d < 10 → decimal (10 * n + d) ≡ decimal n ++ ((48 + d) ∷ [])
unfolding digit
next_digit n d some small =
    let tenth : (10 * n + d) / 10 ≡ n = omega arith in
    let last : (10 * n + d) % 10 ≡ d = omega arith in
    last_digit (10 * n + d) (omega arith) ∙ rw (tenth, last)

read-on : (n : ℕ) (ds : List ℕ) → 0 < n → Below 10 ds → decimal (number_on n ds) ≡ decimal n ++ as_text ds
read-on n [] some small = sym (append-nil (decimal n))
read-on n (d ∷ ds) some small =
    read-on (10 * n + d) ds (omega arith) small.1 ∙ ap (◌++ as_text ds) (next_digit n d some small.0) ∙ append_assoc (decimal n) ((48 + d) ∷ []) (as_text ds)

more_below : (ds : List ℕ) {last : ℕ} → Below 10 ds → last < 10 → Below 10 (ds ++ (last ∷ []))
more_below [] small is = (is, tt)
more_below (d ∷ ds) small is = (small.0, more_below ds small.1 is)

-- a number in decimal is its digits without the zeros in front, but for the last digit, which stays
without_zeros :
    (ds : List ℕ) (last : ℕ) → Below 10 ds → last < 10
    → drop (zeros_before ds) (as_text (ds ++ (last ∷ []))) ≡ decimal (number_on 0 (ds ++ (last ∷ [])))
without_zeros [] last small is = let alone : 0 + last ≡ last = omega arith in rw alone (sym (one_digit last is))
without_zeros (zero ∷ ds) last small is = without_zeros ds last small.1 is
without_zeros (suc d ∷ ds) last small is =
    let all = ds ++ (last ∷ []) in
    let alone : 0 + suc d ≡ suc d = omega arith in
    sym (
    ap (λ (n : ℕ). decimal (number_on n all)) alone ∙ read-on (suc d) all (omega arith) (more_below ds small.1 is)
    ∙ ap (◌++ as_text all) (one_digit (suc d) small.0)
    )

-- ---- The zeros, counted in the word.

-- so many binary digits more than a byte's eight
abbrev eight_more : ℕ → ℕ
eight_more k = suc (suc (suc (suc (suc (suc (suc (suc k)))))))

even : (k m n : ℕ) → m ≡ 2 * n → count_trailing_zeros (suc k) m ≡ suc (count_trailing_zeros k n)
unfolding count_trailing_zeros
even k m n is =
    let half : m / 2 ≡ n = omega arith in
    let none : m % 2 ≡ 0 = omega arith in
    rw (half, none)

-- a byte of zeros below the rest
zero_byte : (k m n : ℕ) → m ≡ 256 * n → count_trailing_zeros (eight_more k) m ≡ eight_more (count_trailing_zeros k n)
zero_byte k m n is =
    even _ m (128 * n) (omega arith) ∙ ap suc (
    even _ (128 * n) (64 * n) (omega arith) ∙ ap suc (
    even _ (64 * n) (32 * n) (omega arith) ∙ ap suc (
    even _ (32 * n) (16 * n) (omega arith) ∙ ap suc (
    even _ (16 * n) (8 * n) (omega arith) ∙ ap suc (
    even _ (8 * n) (4 * n) (omega arith) ∙ ap suc (
    even _ (4 * n) (2 * n) (omega arith) ∙ ap suc (even _ (2 * n) n refl)))))))

one_more : (k m limit : ℕ) → (m % 2 ≡ 0 → count_trailing_zeros k (m / 2) < limit) → count_trailing_zeros (suc k) m < suc limit
unfolding count_trailing_zeros
one_more k m limit rest = go (m % 2) refl
  where
    go : (bit : ℕ) → m % 2 ≡ bit → under bit (count_trailing_zeros k (m / 2)) < suc limit
    go zero is = let fewer = rest is in omega arith
    go (suc bit) is = omega arith

-- a byte that is not 0
some_byte : (k m : ℕ) → 0 < m % 256 → count_trailing_zeros (eight_more k) m < 8
some_byte k m some =
    one_more _ m 7 (λ a. one_more _ (m / 2) 6 (λ b. one_more _ (m / 2 / 2) 5 (λ c. one_more _ (m / 2 / 2 / 2) 4 (λ d.
    one_more _ (m / 2 / 2 / 2 / 2) 3 (λ e. one_more _ (m / 2 / 2 / 2 / 2 / 2) 2 (λ f. one_more _ (m / 2 / 2 / 2 / 2 / 2 / 2) 1 (λ g.
    one_more _ (m / 2 / 2 / 2 / 2 / 2 / 2 / 2) 0 (λ h. absurd (omega arith)))))))))

-- a word's binary digits: eight for each of its bytes but the last, eight for that, and so many more
abbrev bits_for : ℕ → List ℕ → ℕ
bits_for more [] = eight_more more
bits_for more (first ∷ rest) = eight_more (bits_for more rest)

-- with 16 added to the last digit, so that its byte is not 0
zeros_counted :
    (more : ℕ) (ds : List ℕ) (last : ℕ) → Below 10 ds → last < 10
    → count_trailing_zeros (bits_for more ds) (word_of (ds ++ ((last + 16) ∷ []))) / 8 ≡ zeros_before ds
unfolding word_of
zeros_counted more [] last small is =
    let few = some_byte more (last + 16 + 256 * 0) (omega arith) in omega arith
zeros_counted more (zero ∷ ds) last small is =
    let w = word_of (ds ++ ((last + 16) ∷ [])) in
    let below = zero_byte (bits_for more ds) (0 + 256 * w) w (omega arith) in
    let rest = zeros_counted more ds last small.1 is in
    omega arith
zeros_counted more (suc d ∷ ds) last small is =
    let w = word_of (ds ++ ((last + 16) ∷ [])) in
    let few = some_byte (bits_for more ds) (suc d + 256 * w) (omega (arith, small.0)) in
    omega arith

-- ---- The bytes.

-- a word without its first bytes
shifted : (z : ℕ) (cs : List ℕ) → Below 256 cs → word_of cs / 2 ^ (8 * z) ≡ word_of (drop z cs)
unfolding word_of
shifted zero cs small = omega arith
shifted (suc z) [] small = zero-div (2 ^ (8 * suc z))
shifted (suc z) (c ∷ cs) small =
    let more : 8 * suc z ≡ 8 + 8 * z = omega arith in
    let rest : (c + 256 * word_of cs) / 256 ≡ word_of cs = omega (arith, small.0) in
    rw (more, pow-add 2 8 (8 * z), ← div-div-eq-div-mul (c + 256 * word_of cs) 256 (2 ^ (8 * z)), rest) (shifted z cs small.1)

bytes_back : (cs : List ℕ) (k : ℕ) → length cs ≤ k → Below 256 cs → take (length cs) (first_bytes k (word_of cs)) ≡ cs
unfolding word_of first_bytes
bytes_back [] k fits small = refl
bytes_back (c ∷ cs) zero fits small = absurd (omega arith)
bytes_back (c ∷ cs) (suc k) fits small =
    let low : (c + 256 * word_of cs) % 256 ≡ c = omega (arith, small.0) in
    let high : (c + 256 * word_of cs) / 256 ≡ word_of cs = omega (arith, small.0) in
    rw (low, high) (ap (c ∷◌) (bytes_back cs k (omega arith) small.1))

bytes_of : (ds : List ℕ) → Below 10 ds → Below 256 (as_text ds)
bytes_of [] small = tt
bytes_of (d ∷ ds) small = (omega (arith, small.0), bytes_of ds small.1)

below_drop : (z : ℕ) (cs : List ℕ) → Below 256 cs → Below 256 (drop z cs)
below_drop zero cs small = small
below_drop (suc z) [] small = tt
below_drop (suc z) (c ∷ cs) small = below_drop z cs small.1

few_zeros : (ds : List ℕ) → zeros_before ds ≤ length ds
few_zeros [] = omega arith
few_zeros (zero ∷ ds) = let fewer = few_zeros ds in omega arith
few_zeros (suc d ∷ ds) = omega arith

-- so many of the first bytes of a word without its lowest are the text from there on
text-left : (z : ℕ) (cs : List ℕ) (k : ℕ) → length cs ≤ k → Below 256 cs → take (length cs - z) (first_bytes k (word_of cs / 2 ^ (8 * z))) ≡ drop z cs
text-left z cs k fits small =
    let left : length (drop z cs) ≡ length cs - z = length-drop z cs in
    rw (shifted z cs small, ← left) (bytes_back (drop z cs) k (omega arith) (below_drop z cs small))

-- ---- Eight digits.

eight_marked :
    (c d e f g h i j : ℕ)
    → word_of (c ∷ d ∷ e ∷ f ∷ g ∷ h ∷ i ∷ j ∷ []) + 1152921504606846976 ≡ word_of (c ∷ d ∷ e ∷ f ∷ g ∷ h ∷ i ∷ (j + 16) ∷ [])
unfolding word_of
eight_marked c d e f g h i j = omega arith

eight_written :
    (c d e f g h i j : ℕ)
    → word_of (c ∷ d ∷ e ∷ f ∷ g ∷ h ∷ i ∷ j ∷ []) + 3472328296227680304 ≡ word_of (as_text (c ∷ d ∷ e ∷ f ∷ g ∷ h ∷ i ∷ j ∷ []))
unfolding word_of
eight_written c d e f g h i j = omega arith

four_read : (n a : ℕ) → a < 10000 → 10 * (10 * (10 * (10 * n + a / 1000) + a / 100 % 10) + a / 10 % 10) + a % 10 ≡ 10000 * n + a
four_read n a small = omega arith

module _ (a b : ℕ) (sa : a < 10000) (sb : b < 10000) where
  -- all digits but the last
  abbrev seven : List ℕ
  seven = four a ++ (b / 1000 ∷ b / 100 % 10 ∷ b / 10 % 10 ∷ [])

  seven_small : Below 10 seven
  seven_small = (omega arith, (omega arith, (omega arith, (omega arith, (omega arith, (omega arith, (omega arith, tt)))))))

  eight_zeros : count_trailing_zeros 64 (word_of (two_fours a b) + 1152921504606846976) / 8 ≡ zeros_before seven
  eight_zeros =
      ap (λ (w : ℕ). count_trailing_zeros 64 w / 8)
      (eight_marked (a / 1000) (a / 100 % 10) (a / 10 % 10) (a % 10) (b / 1000) (b / 100 % 10) (b / 10 % 10) (b % 10))
      ∙ zeros_counted 0 seven (b % 10) seven_small (omega arith)

  eight_read : number_on 0 (two_fours a b) ≡ 10000 * a + b
  eight_read =
      let front : 10 * (10 * (10 * (0 + a / 1000) + a / 100 % 10) + a / 10 % 10) + a % 10 ≡ a = omega arith in
      rw front (four_read a b sb)

  -- of the word that holds the digits: how many zeros there are in front, and the text that is left without them
  module _ (word : ℕ) (is : word ≡ word_of (two_fours a b)) where
    abbrev zeros : ℕ
    zeros = count_trailing_zeros 64 (word + 1152921504606846976) / 8

    zeros_are : zeros ≡ zeros_before seven
    zeros_are = ap (λ (w : ℕ). count_trailing_zeros 64 (w + 1152921504606846976) / 8) is ∙ eight_zeros

    pub eight_few : zeros ≤ 7
    eight_few = omega (arith, zeros_are, few_zeros seven)

    pub eight_text : take (8 - zeros) (first_bytes 8 ((word + 3472328296227680304) / 2 ^ (8 * zeros))) ≡ decimal (10000 * a + b)
    eight_text =
        ap (λ (w : ℕ). take (8 - zeros) (first_bytes 8 (w / 2 ^ (8 * zeros))))
        (
        ap (◌+ 3472328296227680304) is
        ∙ eight_written (a / 1000) (a / 100 % 10) (a / 10 % 10) (a % 10) (b / 1000) (b / 100 % 10) (b / 10 % 10) (b % 10)
        )
        ∙ text-left zeros (as_text (two_fours a b)) 8 (le_refl 8) (bytes_of (two_fours a b) (more_below seven seven_small (omega arith)))
        ∙ ap (λ (z : ℕ). drop z (as_text (two_fours a b))) zeros_are
        ∙ without_zeros seven (b % 10) seven_small (omega arith)
        ∙ ap decimal eight_read

-- ---- Four digits, and a mark.

four_marked : (c d e f : ℕ) → word_of (c ∷ d ∷ e ∷ f ∷ []) + 268435456 ≡ word_of (c ∷ d ∷ e ∷ (f + 16) ∷ [])
unfolding word_of
four_marked c d e f = omega arith

four_written :
    (c d e f mark : ℕ)
    → word_of (c ∷ d ∷ e ∷ f ∷ []) + 808464432 + 4294967296 * mark ≡ word_of (as_text (c ∷ d ∷ e ∷ f ∷ []) ++ (mark ∷ []))
unfolding word_of
four_written c d e f mark = omega arith

four_limit : (c d e f : ℕ) → c < 10 → d < 10 → e < 10 → f < 10 → word_of (c ∷ d ∷ e ∷ f ∷ []) ≤ 151587081
unfolding word_of
four_limit c d e f sc sd se sf = omega arith

module _ (a : ℕ) (sa : a < 10000) where
  abbrev three : List ℕ
  three = a / 1000 ∷ a / 100 % 10 ∷ a / 10 % 10 ∷ []

  three_small : Below 10 three
  three_small = (omega arith, (omega arith, (omega arith, tt)))

  module _ (word : ℕ) (is : word ≡ word_of (four a)) where
    pub four_small : word ≤ 151587081
    four_small =
        omega (arith, is, four_limit (a / 1000) (a / 100 % 10) (a / 10 % 10) (a % 10) (omega arith) (omega arith) (omega arith) (omega arith))

    abbrev front : ℕ
    front = count_trailing_zeros 64 (word + 268435456) / 8

    front_are : front ≡ zeros_before three
    front_are =
        ap (λ (w : ℕ). count_trailing_zeros 64 w / 8) (ap (◌+ 268435456) is ∙ four_marked (a / 1000) (a / 100 % 10) (a / 10 % 10) (a % 10))
        ∙ zeros_counted 32 three (a % 10) three_small (omega arith)

    pub four_few : front ≤ 3
    four_few = omega (arith, front_are, few_zeros three)

    module _ (mark : ℕ) (byte : mark < 256) where
      marked_small : Below 256 (as_text (four a) ++ (mark ∷ []))
      marked_small = (omega arith, (omega arith, (omega arith, (omega arith, (byte, tt)))))

      pub four_text :
          take (5 - front) (first_bytes 8 ((word + 808464432 + 4294967296 * mark) / 2 ^ (8 * front))) ≡ decimal a ++ (mark ∷ [])
      four_text =
          let whole : number_on 0 (four a) ≡ a = omega arith in
          ap (λ (w : ℕ). take (5 - front) (first_bytes 8 (w / 2 ^ (8 * front))))
          (
          ap (λ (w : ℕ). w + 808464432 + 4294967296 * mark) is
          ∙ four_written (a / 1000) (a / 100 % 10) (a / 10 % 10) (a % 10) mark
          )
          ∙ text-left front (as_text (four a) ++ (mark ∷ [])) 8 (omega arith) marked_small
          ∙ drop-append-le front (as_text (four a)) (mark ∷ []) (omega (arith, four_few))
          ∙ ap (◌++ (mark ∷ [])) (
          ap (λ (z : ℕ). drop z (as_text (four a))) front_are ∙ without_zeros three (a % 10) three_small (omega arith) ∙ ap decimal whole
          )
