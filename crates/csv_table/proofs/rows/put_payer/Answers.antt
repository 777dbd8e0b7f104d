-- `rows::put_payer` meets its contract, for either kind of record.
use native.Mathlib.Omega.{arith}
use mathlib.Core.Path.{sym, ap}
use mathlib.Core.List.{◌++◌}
use Rattle.reader.specs.declared.Whose.{Whose}
use Rattle.text.specs.Texts.{bytes}
use Rattle.csv_table.specs.Text.{payer_text}
use Rattle.text.proofs.Puts.{put_same}
use Rattle.csv_table.proofs.rows.put_payer.Goals as goal

pub returns-in-Unsaid : goal.returns-in-Unsaid
unfolding payer_text bytes
returns-in-Unsaid g c = put_same c.put_column.ensures (ap (λ (whose : Whose). bytes "," ++ payer_text whose c.args.i) (sym c.in-Unsaid.is)) (omega arith)

pub returns-in-Of : goal.returns-in-Of
unfolding payer_text bytes
returns-in-Of g c = put_same c.put_rider.ensures (ap (λ (whose : Whose). bytes "," ++ payer_text whose c.args.i) (sym c.in-Of.is)) (omega arith)
