use Prim.Native.Nat.{◌-◌, ◌*◌, ◌≤◌}
use mathlib.Core.Path.{◌≡◌}
use Rattle.reader.specs.Fields.{charges_of}
use Rattle.reader.specs.Reading.{fields_for}
use Rattle.text.specs.Clauses.{Put}
use Rattle.csv_table.specs.Text.{rows_text}
use Rattle.csv_table.specs.Clauses.{most_row}
use Rattle.csv_table.proofs.records.put_rows.Given as goal

abbrev pub invariant-loop-i : goal.invariant-loop-i
invariant-loop-i g l =
    (l.i ≤ l.i-end) × (l.i-end ≡ charges_of l.whose) × Put (rows_text l.number (fields_for l.whole 0 l.whose) l.i) (l.i * most_row) l.initial.out l.out

abbrev pub decreases-loop-i : goal.decreases-loop-i
decreases-loop-i g l = l.i-end - l.i
