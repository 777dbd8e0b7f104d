-- `scan::blocks::stops_found` meets its contract: where the words of all are clear, all stand; else it looks for threes.
use Rattle.std.proofs.Common.{arith}
use Rattle.scan.proofs.blocks.stops_found.Goals as goal

pub returns-then-is_clear : goal.returns-then-is_clear
returns-then-is_clear c = (c.all_sums.ensures.told (c.is_clear.ensures.told c.if-is_clear.true), omega arith)
