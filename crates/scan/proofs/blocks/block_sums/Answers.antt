-- `scan::blocks::block_sums` meets its contract: it joins the words of two runs of stops, one after another.
use Rattle.scan.proofs.BlockLaws.{tells_joined}
use Rattle.scan.proofs.blocks.block_sums.Goals as goal

pub returns : goal.returns
returns c =
    let a = c.args in
    rw c.joined.ensures
    (tells_joined a.b.now a.at a.areas 9 9 c.nine_sums-first.result c.nine_sums.result c.nine_sums-first.ensures
    c.nine_sums.ensures)
