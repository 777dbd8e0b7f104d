-- Numbers in bytes: all are little-endian. One definition each for reading and putting, over the width.
use Rattle.std.specs.Prelude.{ℕ, zero, suc, ◌+◌, ◌*◌, ◌/◌, ◌%◌, ◌^◌, ◌<◌, ◌≡◌, List, [], ◌∷◌, get_or, set}

-- the number of `width` bytes at a place: the byte there, and 256 times what the bytes after it say
unfoldable pub get_le : ℕ → List ℕ → ℕ → ℕ
get_le zero bytes place = 0
get_le (suc width) bytes place = get_or bytes place 0 + 256 * get_le width bytes (place + 1)

-- the bytes with a number put in `width` bytes at a place
unfoldable pub put_le : ℕ → List ℕ → ℕ → ℕ → List ℕ
put_le zero bytes place v = bytes
put_le (suc width) bytes place v = put_le width (set bytes place (v % 256)) (place + 1) (v / 256)

-- the `width` bytes of a number
unfoldable pub bytes_of : ℕ → ℕ → List ℕ
bytes_of zero v = []
bytes_of (suc width) v = v % 256 ∷ bytes_of width (v / 256)

-- what a reader answers: the number there, which its width holds
pub record Number (width : ℕ) (bytes : List ℕ) (place r : ℕ) : Type 0 where
  pub value : r ≡ get_le width bytes place
  pub range : r < 256 ^ width

-- each element is a byte
abbrev pub Bytes : List ℕ → Type 0
Bytes bytes = (i : ℕ) → get_or bytes i 0 < 256
