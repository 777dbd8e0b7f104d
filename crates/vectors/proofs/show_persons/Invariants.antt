-- `vectors::show_persons` is safe and ends: it passes each person of the record once.
use Prim.Native.Nat.{◌-◌, ◌≤◌}
use mathlib.Core.Path.{◌≡◌}
use Rattle.statement.specs.Reading.{persons_in}
use Rattle.vectors.proofs.show_persons.Given as goal

abbrev pub invariant-loop-i : goal.invariant-loop-i
invariant-loop-i g l = (l.i ≤ l.i-end) × (l.i-end ≡ persons_in l.statement l.place)

abbrev pub decreases-loop-i : goal.decreases-loop-i
decreases-loop-i g l = l.i-end - l.i
