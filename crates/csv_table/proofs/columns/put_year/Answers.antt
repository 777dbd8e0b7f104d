-- `columns::put_year` meets its contract: four digits, each what a tenth more of the year leaves.
use Rattle.text.specs.Texts.{digit}
use Rattle.csv_table.specs.Text.{four_digits}
use Rattle.csv_table.proofs.columns.put_year.Goals as goal

pub returns : goal.returns
unfolding four_digits digit
returns g c = c.put_text.ensures
