-- `reader::charges::amount_right` meets its contract.
use Rattle.reader.proofs.charges.amount_right.Goals as goal

pub returns : goal.returns
returns c = rw c.cut_right.ensures
