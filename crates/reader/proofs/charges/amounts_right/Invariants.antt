use Prim.Native.Nat.{◌≤◌, ◌-◌}
use mathlib.Core.Path.{◌≡◌}
use mathlib.Core.Bool.{true}
use Rattle.reader.specs.Ranges.{amounts_right}
use Rattle.reader.specs.Reading.{fields_for}
use Rattle.reader.proofs.charges.amounts_right.Given as goal

abbrev pub invariant-loop-i : goal.invariant-loop-i
invariant-loop-i l = (l.i ≤ l.count) × (amounts_right (fields_for l.statement l.at l.whose) l.i ≡ true)

abbrev pub decreases-loop-i : goal.decreases-loop-i
decreases-loop-i l = l.count - l.i
