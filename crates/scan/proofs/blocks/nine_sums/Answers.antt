-- `scan::blocks::nine_sums` meets its contract: it joins the words of three runs of stops, one after another.
use Rattle.std.proofs.Common.{arith}
use Rattle.scan.proofs.BlockLaws.{tells_three}
use Rattle.scan.proofs.blocks.nine_sums.Goals as goal

pub returns : goal.returns
returns c =
    let a = c.args in
    tells_three a.b.now a.at _ _ a.areas 3 c.three_sums-first.result c.three_sums-second.result c.three_sums.result
    c.joined.result c.joined-2.result (omega arith) (omega arith) c.three_sums-first.ensures
    c.three_sums-second.ensures c.three_sums.ensures c.joined.ensures c.joined-2.ensures
