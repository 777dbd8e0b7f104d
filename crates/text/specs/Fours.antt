-- Digits in a word of bytes, the first one in the lowest: what the fast way of fours.rt goes by, and nothing else.
use Rattle.std.specs.Prelude.{ℕ, zero, suc, ◌+◌, ◌*◌, ◌/◌, ◌%◌, List, [], ◌∷◌, ◌++◌}

-- the four digits of a number below 10,000, with zeros in front
abbrev pub four : ℕ → List ℕ
four n = n / 1000 ∷ n / 100 % 10 ∷ n / 10 % 10 ∷ n % 10 ∷ []

-- those of two numbers, one behind the other
abbrev pub two_fours : ℕ → ℕ → List ℕ
two_fours front back = four front ++ four back

-- numbers below 256 as one, the first in the lowest byte
unfoldable pub word_of : List ℕ → ℕ
word_of [] = 0
word_of (first ∷ rest) = first + 256 * word_of rest

-- a word's first bytes, from the lowest on
unfoldable pub first_bytes : ℕ → ℕ → List ℕ
first_bytes zero word = []
first_bytes (suc count) word = word % 256 ∷ first_bytes count (word / 256)
