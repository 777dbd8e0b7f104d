-- `columns::put_marked` meets its contract: the mark, the tens, the ones.
use Rattle.text.specs.Texts.{digit}
use Rattle.csv_table.specs.Text.{two_digits}
use Rattle.csv_table.proofs.columns.put_marked.Goals as goal

pub returns : goal.returns
unfolding two_digits digit
returns g c = c.put_text.ensures
