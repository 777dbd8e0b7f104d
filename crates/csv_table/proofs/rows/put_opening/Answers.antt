-- `rows::put_opening` meets its contract: the moment stands behind the comma.
use native.Mathlib.Omega.{arith}
use mathlib.Core.Path.{ap}
use mathlib.Core.List.{◌++◌}
use Rattle.calendar.specs.declared.Moment.{Moment}
use Rattle.text.specs.Texts.{bytes}
use Rattle.csv_table.specs.Text.{moment_text}
use Rattle.text.proofs.Puts.{put_join, put_same}
use Rattle.csv_table.proofs.rows.put_opening.Goals as goal

pub returns : goal.returns
unfolding bytes
returns g c =
    put_same (put_join c.put_text.ensures c.put_moment.ensures)
    (ap (λ (moment : Moment). bytes "," ++ moment_text moment) c.moment_of.ensures.value) (omega arith)
