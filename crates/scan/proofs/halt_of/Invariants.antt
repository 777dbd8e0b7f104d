use Rattle.std.proofs.Common.{◌≡◌, ◌-◌, length}
use Rattle.layout.specs.Rules.{factors_due}
use Rattle.layout.specs.Scan.{FaultlessUntil}
use Rattle.scan.proofs.halt_of.Given as goal

abbrev pub invariant-loop-number : goal.invariant-loop-number
invariant-loop-number l = FaultlessUntil l.tariff l.at l.so_far × (l.due ≡ factors_due l.tariff l.so_far)

abbrev pub decreases-loop-number : goal.decreases-loop-number
decreases-loop-number l = length l.tariff - l.at
