-- `ledger::windows::too_early` meets its contract: the two words read are the definition's.
use Rattle.ledger.specs.Windows.{too_early}
use Rattle.ledger.proofs.windows.too_early.Goals as goal

pub returns : goal.returns
unfolding too_early
returns c = rw (c.get.ensures.value, c.get-2.ensures.value)
