use Rattle.std.proofs.Common.{◌-◌, ◌≤◌, length}
use Rattle.scan.specs.AreaRuns.{AreasPassed}
use Rattle.scan.proofs.area_run.areas_found.Given as goal

abbrev pub invariant-loop-run : goal.invariant-loop-run
invariant-loop-run l = AreasPassed l.b l.run × (l.initial.run.at ≤ l.run.at)

abbrev pub decreases-loop-run : goal.decreases-loop-run
decreases-loop-run l = length l.b - l.run.at
