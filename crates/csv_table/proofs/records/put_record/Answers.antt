-- `records::put_record` meets its contract, for a refused record and for an accepted one.
use native.Mathlib.Omega.{arith}
use borrow.Author.Rules.{rules}
use mathlib.Core.Path.{sym, ◌∙◌}
use Rattle.reader.specs.Reading.{read_at}
use Rattle.text.proofs.Puts.{put_same}
use Rattle.csv_table.proofs.Readings.{refused_read, told_read, told_text}
use Rattle.csv_table.proofs.records.put_record.Goals as goal

pub put_rows-requires : goal.put_rows-requires
put_rows-requires g c = (search rules, (c.requires, told_read c.args.whole.now (sym c.in-Record.is ∙ c.read_record.ensures)))

pub returns-in-Refused : goal.returns-in-Refused
returns-in-Refused g c =
    let args = c.args in
    put_same c.put_refused.ensures
    (sym (refused_read args.number _ (read_at args.whole.now 0) (sym c.in-Refused.is ∙ c.read_record.ensures))) (omega arith)

pub returns-in-Record : goal.returns-in-Record
returns-in-Record g c =
    let args = c.args in
    put_same c.put_rows.ensures
    (told_text args.whole.now (sym c.in-Record.is ∙ c.read_record.ensures) args.number) (omega arith)
