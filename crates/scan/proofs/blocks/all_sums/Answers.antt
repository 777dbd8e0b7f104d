-- `scan::blocks::all_sums` meets its contract: the loop's invariant is that the words joined so far tell of the stops before its place.
-- The measure is the bytes up to where the last block begins.
use Rattle.std.proofs.Common.{◌≡◌, ◌+◌, ◌-◌, arith}
use Rattle.scan.proofs.BlockLaws.{joining_none, joining_told, joining_more}
use Rattle.scan.proofs.blocks.all_sums.Goals as goal

pub loop-next-init : goal.loop-next-init
loop-next-init c = joining_none _ _ _ _ _ (omega arith)

pub block_sums-block-requires : goal.block_sums-block-requires
block_sums-block-requires c = (omega arith, omega arith, omega arith)

pub loop-next-preserved-then-last-next : goal.loop-next-preserved-then-last-next
loop-next-preserved-then-last-next c =
    let a = c.args in
    joining_more a.b.now a.from a.areas a.most c.loop-next.at _ c.block_sums-block.result c.loop-next.invariant
    c.block_sums-block.ensures (a.most - 18) _ (omega arith) (omega arith) (omega arith)

pub loop-next-preserved : goal.loop-next-preserved
loop-next-preserved c =
    let a = c.args in
    let so_far = c.loop-next.invariant in
    joining_more a.b.now a.from a.areas a.most c.loop-next.at _ c.block_sums-block.result so_far c.block_sums-block.ensures
    (so_far.before + 18) _ (omega arith) (omega arith) (omega arith)

pub returns : goal.returns
returns c =
    let a = c.args in
    let so_far = c.loop-next.invariant in
    let all : so_far.before + 18 ≡ a.most = omega arith in
    rw all
    at (joining_told a.b.now a.from a.areas a.most c.loop-next.at _ c.block_sums-block.result so_far c.block_sums-block.ensures)
