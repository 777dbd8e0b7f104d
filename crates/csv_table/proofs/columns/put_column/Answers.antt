-- `columns::put_column` meets its contract: the number stands behind the text.
use Rattle.text.proofs.Puts.{put_join}
use Rattle.csv_table.proofs.columns.put_column.Goals as goal

pub returns : goal.returns
returns g c = put_join c.put_text.ensures c.put_small.ensures
