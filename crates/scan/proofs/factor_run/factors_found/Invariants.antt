use Rattle.std.proofs.Common.{◌-◌, ◌≤◌, length}
use Rattle.scan.specs.FactorRuns.{FactorsPassed}
use Rattle.scan.proofs.factor_run.factors_found.Given as goal

abbrev pub invariant-loop-run : goal.invariant-loop-run
invariant-loop-run l = FactorsPassed l.b l.run × (l.initial.run.at ≤ l.run.at)

abbrev pub decreases-loop-run : goal.decreases-loop-run
decreases-loop-run l = length l.b - l.run.at
