-- `corrections::payers::put_eight` meets its contract: the lower four bytes are put first, and the upper four behind them.
use Rattle.corrections.proofs.Differences.{put_two}
use Rattle.corrections.proofs.payers.put_eight.Goals as goal

pub returns : goal.returns
returns c = put_two _ _ _ c.put_four.ensures c.put_four-2.ensures
