-- Numbers of several bytes by the numbers that their bytes are.
-- Assumes nothing.
use Rattle.std.proofs.Common.{◌≡◌, ℕ, ◌+◌, ◌*◌, ◌^◌, List, add_assoc, arith}
use Rattle.wire.specs.Number.{get_le}

pub head_word : (b : List ℕ) (q : ℕ) → get_le 8 b q ≡ get_le 3 b q + 2 ^ 24 * (get_le 4 b (q + 3) + 2 ^ 32 * get_le 1 b (q + 7))
unfolding get_le
head_word b q = simp add_assoc (omega arith)

pub four_word : (b : List ℕ) (q : ℕ) → get_le 4 b q ≡ get_le 2 b q + 65536 * get_le 2 b (q + 2)
unfolding get_le
four_word b q = simp add_assoc (omega arith)

-- three numbers of two bytes, and two of one
abbrev pub packed : (a b c d e : ℕ) → ℕ
packed a b c d e = a + 2 ^ 16 * b + 2 ^ 32 * c + 2 ^ 48 * d + 2 ^ 56 * e

pub packed_word :
    (b : List ℕ) (q : ℕ) → get_le 8 b q ≡ packed (get_le 2 b q) (get_le 2 b (q + 2)) (get_le 2 b (q + 4)) (get_le 1 b (q + 6)) (get_le 1 b (q + 7))
unfolding get_le
packed_word b q = simp add_assoc (omega arith)

-- four numbers of two bytes
abbrev pub lanes : (a b c d : ℕ) → ℕ
lanes a b c d = a + (2 ^ 16 * b + (2 ^ 32 * c + 2 ^ 48 * d))

pub lanes_word :
    (b : List ℕ) (q : ℕ) → get_le 8 b q ≡ lanes (get_le 2 b q) (get_le 2 b (q + 2)) (get_le 2 b (q + 4)) (get_le 2 b (q + 6))
unfolding get_le
lanes_word b q = simp add_assoc (omega arith)
