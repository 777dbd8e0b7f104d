-- `rows::put_refused` meets its contract: the three texts stand one behind another.
use native.Mathlib.Omega.{arith}
use Rattle.text.specs.Texts.{bytes}
use Rattle.text.proofs.Puts.{put_join, put_same}
use Rattle.csv_table.proofs.Lines.{refused_groups}
use Rattle.csv_table.proofs.rows.put_refused.Goals as goal

pub returns : goal.returns
unfolding bytes
returns g c =
    put_same (put_join (put_join c.put_number.ensures c.put_column.ensures) c.put_text.ensures)
    (refused_groups c.args.number c.args.refusal) (omega arith)
