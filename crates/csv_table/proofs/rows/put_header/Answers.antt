-- `rows::put_header` meets its contract: the bytes put are the header's.
use Rattle.text.specs.Texts.{bytes}
use Rattle.csv_table.specs.Text.{header}
use Rattle.csv_table.proofs.rows.put_header.Goals as goal

pub returns : goal.returns
unfolding header bytes
returns g c = c.put_text.ensures
