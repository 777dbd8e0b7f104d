-- What is written ends within its room, and what is kept within the roll that is lent.
-- Assumes nothing.
use Prim.Native.Nat.{ℕ, ◌≤◌}
use mathlib.Core.Path.{◌≡◌, subst}
use mathlib.Core.List.{List}
use Rattle.std.specs.Prelude.{Option, None, Some}
use lib.ListN.{length}
use Rattle.salvage.specs.Clauses.{room_size, Done}

module _ (whole roll lines : List ℕ) (r : Option ℕ) (done : Done whole roll lines r) where
  pub too_long_end : r ≡ None → length lines ≤ room_size
  too_long_end is = (subst (λ (r : Option ℕ). Done whole roll lines r) is done).1.1.0

  pub kept_ends : {bytes : ℕ} → r ≡ Some bytes → (bytes ≤ length roll) × (length lines ≤ room_size)
  kept_ends is = let d = subst (λ (r : Option ℕ). Done whole roll lines r) is done in (d.1.0, d.1.1.0)
