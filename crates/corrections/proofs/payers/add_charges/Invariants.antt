use Prim.Native.Nat.{◌-◌, ◌^◌, ◌≤◌}
use Rattle.corrections.specs.Clauses.{Added, charges_to}
use Rattle.corrections.proofs.payers.add_charges.Given as goal

abbrev pub invariant-loop-k : goal.invariant-loop-k
invariant-loop-k l = (l.k ≤ l.count) × Added (charges_to l.statement l.place l.charge l.k l.payer) (2 ^ 32) l.initial.sums l.sums

abbrev pub decreases-loop-k : goal.decreases-loop-k
decreases-loop-k l = l.count - l.k
