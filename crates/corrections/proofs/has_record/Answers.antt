-- `corrections::has_record` meets its contract: the loop has passed as many whole frames as it counted. The measure is the records that are left.
use native.Mathlib.Omega.{arith}
use native.Mathlib.Nat.{le_antisymm}
use mathlib.Core.Path.{sym, ◌∙◌}
use Rattle.wire.proofs.Frames.{WholeAt, whole}
use Rattle.roll.specs.Lines.{most_records}
use Rattle.corrections.proofs.Records.{counted_none, counted_more, none_such, in-range, broken_before, all_whole}
use Rattle.corrections.proofs.has_record.Goals as goal

pub returns-then-n : goal.returns-then-n
returns-then-n c = none_such _ _ c.if-n.true

pub loop-init : goal.loop-init
loop-init c = (omega arith, counted_none most_records _)

pub returns-in-Broken : goal.returns-in-Broken
returns-in-Broken c = broken_before _ c.loop.invariant.1 c.loop-test.true (sym c.frame_at.ensures ∙ c.in-Broken.is)

pub overflow_add-next : goal.overflow_add-next
overflow_add-next c =
    let framed : WholeAt c.args.roll.now c.loop.next c.in-Whole.kind c.in-Whole.body = whole _ _ _ _ (sym c.frame_at.ensures ∙ c.in-Whole.is) in
    let facts = framed in omega arith

pub overflow_add-next-in-Whole : goal.overflow_add-next-in-Whole
overflow_add-next-in-Whole c =
    let framed : WholeAt c.args.roll.now c.loop.next c.in-Whole.kind c.in-Whole.body = whole _ _ _ _ (sym c.frame_at.ensures ∙ c.in-Whole.is) in
    let facts = framed in omega arith

pub loop-preserved : goal.loop-preserved
loop-preserved c =
    let range = in-range c.args.n c.if-n.false in (
      omega arith,
      counted_more _ _ c.loop.invariant.1 (omega (arith, c.loop-test.true, range.1)) (sym c.frame_at.ensures ∙ c.in-Whole.is),
    )

pub returns : goal.returns
returns c =
    let so_far = c.loop.invariant in
    all_whole _ (rw (le_antisymm so_far.0 c.loop-test.false) at so_far.1) (in-range _ c.if-n.false).0
