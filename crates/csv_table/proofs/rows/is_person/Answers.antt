-- `rows::is_person` meets its contract, for either kind of record.
use mathlib.Core.Path.{sym, ap}
use Rattle.reader.specs.declared.Whose.{Whose}
use Rattle.csv_table.specs.Text.{is_person}
use Rattle.csv_table.proofs.rows.is_person.Goals as goal

pub returns-in-Unsaid : goal.returns-in-Unsaid
unfolding is_person
returns-in-Unsaid c = sym (ap (λ (whose : Whose). is_person whose c.args.i) c.in-Unsaid.is)

pub returns-in-Of : goal.returns-in-Of
unfolding is_person
returns-in-Of c = sym (ap (λ (whose : Whose). is_person whose c.args.i) c.in-Of.is)
