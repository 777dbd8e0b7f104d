-- Texts and numbers, byte for byte.
use Rattle.std.specs.Prelude.{ℕ, zero, suc, ◌+◌, ◌/◌, ◌%◌, cond, List, [], ◌∷◌, ◌++◌, eqb}
use Prim.Native.Char.{code}
use Prim.Native.String as string

-- a text's bytes: each of its characters is one, as in ASCII
unfoldable pub bytes : string.String → List ℕ
bytes string.[] = []
bytes (string.◌∷◌ character text) = code character ∷ bytes text

-- a number's last digit
unfoldable pub digit : ℕ → ℕ
digit n = 48 + n % 10

-- a number's digits, the first one first, and none for 0. No number has more digits than it counts, so that many are enough. (What is bound by
-- `let` is computed where it is asked for: behind 0 there are as many empty turns as the number counts.)
unfoldable pub digits_in : ℕ → ℕ → List ℕ
digits_in zero n = []
digits_in (suc most) n = let more = digits_in most (n / 10) ++ (digit n ∷ []) in cond (eqb n 0) [] more

-- a number in decimal: no 0 in front, and 0 itself has one digit
unfoldable pub decimal : ℕ → List ℕ
decimal n = digits_in n (n / 10) ++ (digit n ∷ [])
