-- Bytes joined by "or", each shifted past those before it: their number.
-- Assumes nothing.
use Prim.Native.Nat.{ℕ, ◌+◌, ◌*◌, ◌<◌}
use native.Mathlib.Omega.{arith}
use mathlib.Core.Path.{◌≡◌}
use lib.Bits.{bit_or, or_shifted_r}

-- the eight bytes of `eight_at`
abbrev pub joined : (a b c d e f g h : ℕ) → ℕ
joined a b c d e f g h =
    bit_or (bit_or (bit_or (bit_or (bit_or (bit_or (bit_or a (b * 256)) (c * 65536)) (d * 16777216)) (e * 4294967296)) (f * 1099511627776)) (g * 281474976710656))
    (h * 72057594037927936)

module _ (a b c d e f g h : ℕ) (sa : a < 256) (sb : b < 256) (sc : c < 256) (sd : d < 256) (se : e < 256) (sf : f < 256) (sg : g < 256) where
  pub eight_joined : joined a b c d e f g h ≡ a + 256 * (b + 256 * (c + 256 * (d + 256 * (e + 256 * (f + 256 * (g + 256 * h))))))
  eight_joined =
      let two : bit_or a (b * 256) ≡ b * 256 + a = or_shifted_r b 8 a (omega arith) in
      let n = b * 256 + a in
      let three : bit_or n (c * 65536) ≡ c * 65536 + n = or_shifted_r c 16 n (omega arith) in
      let n3 = c * 65536 + n in
      let four : bit_or n3 (d * 16777216) ≡ d * 16777216 + n3 = or_shifted_r d 24 n3 (omega arith) in
      let n4 = d * 16777216 + n3 in
      let five : bit_or n4 (e * 4294967296) ≡ e * 4294967296 + n4 = or_shifted_r e 32 n4 (omega arith) in
      let n5 = e * 4294967296 + n4 in
      let six : bit_or n5 (f * 1099511627776) ≡ f * 1099511627776 + n5 = or_shifted_r f 40 n5 (omega arith) in
      let n6 = f * 1099511627776 + n5 in
      let seven : bit_or n6 (g * 281474976710656) ≡ g * 281474976710656 + n6 = or_shifted_r g 48 n6 (omega arith) in
      let n7 = g * 281474976710656 + n6 in
      let eight : bit_or n7 (h * 72057594037927936) ≡ h * 72057594037927936 + n7 = or_shifted_r h 56 n7 (omega arith) in
      rw (two, three, four, five, six, seven, eight) (omega arith)
