-- What serves the contracts of factor_run.rt alone.
use Rattle.std.specs.Prelude.{◌≡◌, ℕ, Bool, true, List}
use Rattle.scan.specs.declared.area_run.Run.{Run}
use Rattle.layout.specs.declared.Entry.TheVariants.{Factor}
use Rattle.layout.specs.Rules.{factors_due}
use Rattle.layout.specs.Scan.{entry_at, FaultlessUntil}

-- every record before a place is faultless, and none is a stop
pub record FactorsPassed (b : List ℕ) (run : Run) : Type 0 where
  pub passed : FaultlessUntil b run.at run.so_far
  pub due : run.due ≡ factors_due b run.so_far
  pub no_stop : run.so_far.stops ≡ 0

-- every record before a place is faultless, and so is the factor record there
pub record FactorNext (b : List ℕ) (run : Run) : Type 0 where
  pub passed : FaultlessUntil b run.at run.so_far
  pub due : run.due ≡ factors_due b run.so_far
  pub here : entry_at b run.at run.so_far ≡ Factor

-- what a factor record that was found tells: a faultless one
pub record FactorFound (b : List ℕ) (run : Run) (r : Bool) : Type 0 where
  pub told : r ≡ true → entry_at b run.at run.so_far ≡ Factor
