-- A cap on an amount of cents: none, or the largest amount that it lets pass.
use Rattle.std.specs.Prelude.{ℕ, ◌≤◌, min, ◌≡◌}
use Rattle.units.specs.declared.Cap.{Cap}
use Rattle.units.specs.declared.Cap.TheVariants.{NoCap, UpTo}

-- the smaller of an amount and a cap
abbrev pub capped_by : Cap → ℕ → ℕ
capped_by NoCap amount = amount
capped_by (UpTo most) amount = min amount most.0

pub record Capped (amount : ℕ) (cap : Cap) (r : ℕ) : Type 0 where
  pub value : r ≡ capped_by cap amount
  pub range : r ≤ amount
