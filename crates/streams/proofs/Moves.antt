-- Bytes that are kept, read behind those, and used.
-- Assumes nothing.
use Prim.Native.Nat.{ℕ, ◌+◌, ◌-◌, ◌≤◌}
use native.Mathlib.Omega.{arith}
use mathlib.Core.Path.{◌≡◌, sym, ◌∙◌}
use mathlib.Core.List.{List, ◌++◌}
use lib.ListN.{length, take, drop, length-drop}
use lib.Seq.{take-add, length-take-le, drop_at, drop-drop}
use Rattle.streams.specs.Clauses.{Came, Kept}

-- ---- Bytes that are read behind those kept.

-- the kept bytes and those that came behind them
pub joined_up :
    (input moved after : List ℕ) (from to kept got : ℕ) → Kept input from to moved kept → Came moved kept after got
    → take (kept + got - 0) (drop 0 after) ≡ take (to - from) (drop from input) ++ take got (drop kept after)
joined_up input moved after from to kept got k c =
    let count : kept ≡ to - from = omega (arith, k.many) in
    let all : kept + got - 0 ≡ kept + got = omega arith in
    rw all (take-add kept got after ∙ rw (c.before_it, k.moved, count))

-- ---- Bytes that are used.

drop_take : (k n : ℕ) (l : List ℕ) → k ≤ length l → drop k (take (k + n) l) ≡ take n (drop k l)
drop_take k n l within = rw (take-add k n l) (drop_at (take k l) (take n (drop k l)) k (length-take-le k l within))

pub used_up :
    (input : List ℕ) (from to used : ℕ) → from + used ≤ to → to ≤ length input
    → take (to - (from + used)) (drop (from + used) input) ≡ drop used (take (to - from) (drop from input))
used_up input from to used fits inside =
    let parts : to - from ≡ used + (to - (from + used)) = omega arith in
    let within : used ≤ length (drop from input) = omega (arith, length-drop from input) in
    rw parts (rw (drop-drop used from input) at (sym (drop_take used (to - (from + used)) (drop from input) within)))
