-- Rules, section 8, step 2: by level, 1 = K to 5 = D, and level 0 has none. A level above 5 is refused.
use Rattle.std.specs.Prelude.{ℕ, cond, eqb}
use Rattle.units.specs.declared.Cents.{Cents}
use Rattle.units.specs.declared.levels.LevelCap.{LevelCap}
use Rattle.units.specs.declared.levels.LevelCap.TheVariants.{NoCap, UpTo, Refused}

unfoldable pub level_cap : Cents → Cents → Cents → Cents → Cents → ℕ → LevelCap
level_cap k a b c d level =
    cond (eqb level 0) NoCap
    (cond (eqb level 1) (UpTo k)
    (cond (eqb level 2) (UpTo a)
    (cond (eqb level 3) (UpTo b)
    (cond (eqb level 4) (UpTo c)
    (cond (eqb level 5) (UpTo d) Refused)))))
