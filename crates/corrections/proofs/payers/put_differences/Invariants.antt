use Prim.Native.Nat.{◌-◌}
use Rattle.corrections.specs.Corrections.{payers}
use Rattle.corrections.proofs.Differences.{Put}
use Rattle.corrections.proofs.payers.put_differences.Given as goal

abbrev pub invariant-loop-payer : goal.invariant-loop-payer
invariant-loop-payer l = Put l.old l.new l.initial.differences l.payer l.differences

abbrev pub decreases-loop-payer : goal.decreases-loop-payer
decreases-loop-payer l = payers - l.payer
