-- `behind::put_named` meets its contract: the number stands behind the text.
use Rattle.text.proofs.Puts.{behind_join}
use Rattle.text.proofs.behind.put_named.Goals as goal

pub returns : goal.returns
returns c = behind_join c.put_text-start.ensures c.put_number.ensures
