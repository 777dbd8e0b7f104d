-- Texts that were put one behind another, by ones, twos and threes, as a definition groups them.
-- Assumes nothing.
use Prim.Native.Nat.{ℕ}
use mathlib.Core.Path.{◌≡◌}
use mathlib.Core.List.{List, ◌++◌, append_assoc}

pub entry_groups : (a b c d e f g : List ℕ) → a ++ b ++ c ++ d ++ e ++ f ++ g ≡ a ++ (b ++ (c ++ (d ++ (e ++ (f ++ g)))))
entry_groups a b c d e f g = simp append_assoc

pub fault_groups : (a b c d e : List ℕ) → ((a ++ b) ++ (c ++ d)) ++ e ≡ a ++ b ++ c ++ d ++ e
fault_groups a b c d e = simp append_assoc

pub refused_groups : (a b c d : List ℕ) → (a ++ (b ++ c)) ++ d ≡ a ++ b ++ c ++ d
refused_groups a b c d = simp append_assoc

pub tail_groups : (a b c d e f g : List ℕ) → (((a ++ b) ++ (c ++ d)) ++ (e ++ f)) ++ g ≡ a ++ b ++ c ++ d ++ e ++ f ++ g
tail_groups a b c d e f g = simp append_assoc

-- a part's line in two halves, each number with what stands behind it
pub halves_groups :
    (a b c d e f blank end : List ℕ)
    → (((a ++ blank) ++ (b ++ blank)) ++ (c ++ blank)) ++ ((((d ++ blank) ++ e) ++ blank) ++ (f ++ end))
    ≡ a ++ ((blank ++ b) ++ ((blank ++ c) ++ ((blank ++ d) ++ ((blank ++ e) ++ ((blank ++ f) ++ end)))))
halves_groups a b c d e f blank end = simp append_assoc
