-- `rows::put_cut` meets its contract: of a bicycle or of kind 4, where nothing was taken off, and where something was.
use native.Mathlib.Omega.{arith}
use mathlib.Core.Path.{sym}
use Rattle.text.specs.Texts.{bytes}
use Rattle.text.proofs.Puts.{put_join, put_same}
use Rattle.csv_table.proofs.Lines.{untold, nothing_off, some_off}
use Rattle.csv_table.proofs.rows.put_cut.Goals as goal

pub returns-then-not-person : goal.returns-then-not-person
unfolding bytes
returns-then-not-person g c = put_same c.put_text.ensures (sym (untold c.args.person c.args.cut (c.if-not-person.true))) (omega arith)

pub returns-then-off-eq0 : goal.returns-then-off-eq0
unfolding bytes
returns-then-off-eq0 g c =
    let args = c.args in
    put_same (put_join c.put_column.ensures c.put_text-then-off-eq0.ensures)
    (sym (nothing_off args.person args.cut (c.if-not-person.false) c.if-off-eq0.true)) (omega arith)

pub returns : goal.returns
unfolding bytes
returns g c =
    let args = c.args in
    put_same (put_join (put_join c.put_column.ensures c.put_column-2.ensures) c.put_column-3.ensures)
    (sym (some_off args.person args.cut (c.if-not-person.false) c.if-off-eq0.false)) (omega arith)
