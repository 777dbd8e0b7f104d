-- `scan::blocks::three_sums` meets its contract: it joins the words of three runs of stops, one after another.
use Rattle.std.proofs.Common.{arith}
use Rattle.scan.proofs.BlockLaws.{tells_three}
use Rattle.scan.proofs.blocks.three_sums.Goals as goal

pub returns : goal.returns
returns c =
    let a = c.args in
    tells_three a.b.now a.at _ _ a.areas 1 c.stop_sums-first.result c.stop_sums-second.result c.stop_sums.result
    c.joined.result c.joined-2.result (omega arith) (omega arith) c.stop_sums-first.ensures
    c.stop_sums-second.ensures c.stop_sums.ensures c.joined.ensures c.joined-2.ensures
