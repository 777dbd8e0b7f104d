-- `roll::next` meets its contract: its four returns are the four ways through `step_of`.
use native.Mathlib.Omega.{arith}
use mathlib.Core.Path.{sym, ◌∙◌}
use lib.Seq.{length-take-le}
use Rattle.wire.proofs.Frames.{WholeAt, whole}
use Rattle.roll.proofs.Starts.{more_stepped, end_stepped, broken_stepped, record_stepped}
use Rattle.roll.proofs.next.Goals as goal

pub returns-then-more-is_unfinished : goal.returns-then-more-is_unfinished
returns-then-more-is_unfinished c = more_stepped _ _ _ _ _ _ c.requires.0.sound_book c.is_unfinished.ensures c.if-more-is_unfinished.true

pub returns-then-piece-eq0 : goal.returns-then-piece-eq0
returns-then-piece-eq0 c = end_stepped _ _ _ _ _ _ c.requires.0.sound_book c.is_unfinished.ensures c.if-more-is_unfinished.false c.if-piece-eq0.true

pub overflow_add-used : goal.overflow_add-used
overflow_add-used c =
    let framed : WholeAt c.args.piece.now 0 c.in-Whole.kind c.in-Whole.body = whole _ _ _ _ (sym c.frame_at.ensures ∙ c.in-Whole.is) in
    let facts = framed in omega arith

pub slice_bounds-settle_line-end : goal.slice_bounds-settle_line-end
slice_bounds-settle_line-end c =
    let framed : WholeAt c.args.piece.now 0 c.in-Whole.kind c.in-Whole.body = whole _ _ _ _ (sym c.frame_at.ensures ∙ c.in-Whole.is) in
    let facts = framed in sym (length-take-le _ _ (omega arith))

pub returns-in-Broken : goal.returns-in-Broken
returns-in-Broken c =
    broken_stepped _ _ _ _ _ _ c.requires.0.sound_book c.is_unfinished.ensures c.if-more-is_unfinished.false
    c.if-piece-eq0.false (sym c.in-Broken.is ∙ c.frame_at.ensures)

pub returns-in-Whole : goal.returns-in-Whole
returns-in-Whole c =
    record_stepped _ _ _ _ _ _ c.requires.0.sound_book c.is_unfinished.ensures c.if-more-is_unfinished.false _ _ _ _
    (sym c.in-Whole.is ∙ c.frame_at.ensures) c.settle_line.ensures
