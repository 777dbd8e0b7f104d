use Prim.Native.Nat.{◌+◌, ◌*◌, ◌-◌, ◌≤◌}
use mathlib.Core.Path.{◌≡◌}
use lib.ListN.{length}
use Rattle.statement.specs.Clauses.{Wrote}
use Rattle.reader.specs.Reading.{fields_for}
use Rattle.reader.specs.Filling.{amount_bytes}
use Rattle.reader.proofs.fields.put_amounts.Given as goal

abbrev pub invariant-loop-i : goal.invariant-loop-i
invariant-loop-i l =
    (l.i ≤ l.count) × (length l.fields ≡ length l.initial.fields) × (l.next ≡ l.place + 10 * l.i) × Wrote (amount_bytes (fields_for l.statement l.at l.whose) l.i) l.initial.fields l.place l.fields l.next

abbrev pub decreases-loop-i : goal.decreases-loop-i
decreases-loop-i l = l.count - l.i
