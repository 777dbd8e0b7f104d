-- `rows::put_start` meets its contract: the five columns stand one behind another.
use native.Mathlib.Omega.{arith}
use mathlib.Core.Path.{refl}
use Rattle.text.specs.Texts.{bytes}
use Rattle.text.proofs.Puts.{put_join, put_same}
use Rattle.csv_table.proofs.rows.put_start.Goals as goal

pub returns : goal.returns
unfolding bytes
returns g c =
    let opening = put_join c.put_number.ensures c.put_opening.ensures in
    let km = put_join (put_join opening c.put_column.ensures) c.put_column-2.ensures in
    put_same (put_join km c.put_column-3.ensures) refl (omega arith)
