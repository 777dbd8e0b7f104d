-- A ticket level is refused exactly above 5, whatever the amounts are.
-- Assumes nothing.
use Prim.Native.Nat.{ℕ, zero, suc, ◌<◌}
use native.Mathlib.Omega.{arith}
use mathlib.Core.Path.{◌≡◌, refl}
use mathlib.Core.Bool.{Bool, true, false}
use borrow.Author.Tests.{ne_eqb, lt-leb}
use lib.Dec.{leb}
use Rattle.units.specs.declared.Cents.{Cents}
use Rattle.units.specs.declared.levels.LevelCap.{LevelCap}
use Rattle.units.specs.declared.levels.LevelCap.TheVariants.{NoCap, UpTo, Refused}
use Rattle.units.specs.Levels.{level_cap}

-- whether a level has an answer, a cap or none
abbrev pub answered : LevelCap → Bool
answered NoCap = true
answered (UpTo amount) = true
answered Refused = false

module _ (k a b c d : Cents) where
  -- A level above 5 is refused.
  pub refused_above : (level : ℕ) → 5 < level → level_cap k a b c d level ≡ Refused
  unfolding level_cap
  refused_above level h =
      rw (
        ne_eqb level 0 (omega arith),
        ne_eqb level 1 (omega arith),
        ne_eqb level 2 (omega arith),
        ne_eqb level 3 (omega arith),
        ne_eqb level 4 (omega arith),
        ne_eqb level 5 (omega arith),
      )

  -- The levels that are answered are 0 to 5.
  pub answered_levels : (level : ℕ) → answered (level_cap k a b c d level) ≡ leb level 5
  unfolding level_cap
  answered_levels zero = refl
  answered_levels (suc zero) = refl
  answered_levels (suc (suc zero)) = refl
  answered_levels (suc (suc (suc zero))) = refl
  answered_levels (suc (suc (suc (suc zero)))) = refl
  answered_levels (suc (suc (suc (suc (suc zero))))) = refl
  answered_levels (suc (suc (suc (suc (suc (suc n)))))) =
      let level = suc (suc (suc (suc (suc (suc n))))) in
      rw (refused_above level (omega arith), lt-leb level 5 (omega arith))
