-- `scan::blocks::stop_sums` meets its contract: its words are the stop's, and moved as `stop_tells` wants them.
use Rattle.scan.proofs.BlockLaws.{stop_tells}
use Rattle.scan.proofs.blocks.stop_sums.Goals as goal

pub returns : goal.returns
returns c =
    rw (c.wrapping_add_u64-2.ensures.value, c.wrapping_add_u64.ensures.value, c.eight_at-point.ensures.value, c.eight_at-head.ensures.value)
    (stop_tells c.args.b.now (λ i. (c.type_inv.b i).fits) c.args.at c.args.areas c.requires.0
    c.requires.2 c.head_move.result c.head_move.ensures)
