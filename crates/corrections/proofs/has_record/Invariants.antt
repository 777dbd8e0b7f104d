use Prim.Native.Nat.{◌-◌, ◌≤◌}
use Rattle.roll.specs.Lines.{most_records}
use Rattle.corrections.proofs.Records.{Counted}
use Rattle.corrections.proofs.has_record.Given as goal

abbrev pub invariant-loop : goal.invariant-loop
invariant-loop l = (l.counter ≤ l.n) × Counted most_records l.roll l.next l.counter

abbrev pub decreases-loop : goal.decreases-loop
decreases-loop l = l.n - l.counter
