-- `rows::put_row` meets its contract: the eleven columns stand one behind another.
use native.Mathlib.Omega.{arith}
use mathlib.Core.List.{◌++◌}
use Rattle.calendar.specs.Moments.{moment_of}
use Rattle.text.specs.Texts.{bytes, decimal}
use Rattle.csv_table.specs.Text.{columns, moment_text, payer_text, is_person, off_text, cap_text, row_text}
use Rattle.text.proofs.Puts.{put_join, put_same}
use Rattle.csv_table.proofs.Lines.{row_groups}
use Rattle.csv_table.proofs.rows.put_row.Goals as goal

pub returns : goal.returns
unfolding row_text columns bytes
returns g c =
    let args = c.args in
    let head = args.head in
    let cut = args.amount.cut in
    let person = is_person args.whose args.i in
    let cut-put = rw c.is_person.ensures at c.put_cut.ensures in
    let up-to-cents = put_join (put_join c.put_start.ensures c.put_payer.ensures) c.put_column.ensures in
    put_same (put_join (put_join up-to-cents cut-put) c.put_text.ensures)
    (row_groups (decimal args.number) (bytes "," ++ moment_text (moment_of head.opening.0)) (bytes "," ++ decimal head.area)
    (bytes "," ++ decimal head.km.0) (bytes "," ++ decimal head.minutes.0) (bytes "," ++ payer_text args.whose args.i)
    (bytes "," ++ decimal args.amount.charge.0) (bytes "," ++ off_text person cut) (bytes "," ++ cap_text person cut cut.area)
    (bytes "," ++ cap_text person cut cut.class) (bytes ",\n"))
    (omega arith)
