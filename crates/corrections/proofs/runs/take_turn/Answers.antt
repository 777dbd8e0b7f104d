-- `corrections::runs::take_turn` meets its contract: the roll's end, or its next record, or the replacement in its place.
use Prim.Native.Nat.{◌≤◌}
use native.Mathlib.Omega.{arith}
use mathlib.Core.Path.{◌≡◌, refl, sym, ◌∙◌}
use Rattle.wire.specs.Frame.{frame_at}
use Rattle.wire.specs.declared.Frame.TheVariants.{Whole}
use Rattle.wire.proofs.Frames.{WholeAt, whole}
use Rattle.corrections.proofs.Rests.{all_taken, roll_ends, next_exchanged, next_own}
use Rattle.corrections.proofs.Turns.{turned}
use Rattle.corrections.proofs.runs.take_turn.Goals as goal

pub returns-then-cursor-eq0 : goal.returns-then-cursor-eq0
returns-then-cursor-eq0 c = (all_taken c.args.roll.now c.args.replacement.now c.args.cursor c.if-cursor-eq0.true, (refl, refl))

pub overflow_add-end : goal.overflow_add-end
overflow_add-end c =
    let framed : frame_at c.args.roll.now c.args.cursor.next ≡ Whole c.in-Whole.kind c.in-Whole.body = sym c.frame_at.ensures ∙ c.in-Whole.is in
    let inside : WholeAt c.args.roll.now c.args.cursor.next c.in-Whole.kind c.in-Whole.body = whole _ _ _ _ framed in
    let facts = inside in omega arith

pub overflow_add-end-in-Whole : goal.overflow_add-end-in-Whole
overflow_add-end-in-Whole c =
    let framed : frame_at c.args.roll.now c.args.cursor.next ≡ Whole c.in-Whole.kind c.in-Whole.body = sym c.frame_at.ensures ∙ c.in-Whole.is in
    let inside : WholeAt c.args.roll.now c.args.cursor.next c.in-Whole.kind c.in-Whole.body = whole _ _ _ _ framed in
    let facts = inside in omega arith

pub settle_sized-requires : goal.settle_sized-requires
settle_sized-requires c =
    let framed : frame_at c.args.roll.now c.args.cursor.next ≡ Whole c.in-Whole.kind c.in-Whole.body = sym c.frame_at.ensures ∙ c.in-Whole.is in
    let some_left : 1 ≤ c.args.cursor.left = let left = c.if-cursor-eq0.false in omega arith in
    (c.requires.0, c.requires.1.fits _ _ (next_exchanged c.args.roll.now c.args.replacement.now c.args.cursor (framed) (some_left) c.if-cursor-eq1.true))

pub returns-then-cursor-eq1 : goal.returns-then-cursor-eq1
returns-then-cursor-eq1 c =
    let framed : frame_at c.args.roll.now c.args.cursor.next ≡ Whole c.in-Whole.kind c.in-Whole.body = sym c.frame_at.ensures ∙ c.in-Whole.is in
    let some_left : 1 ≤ c.args.cursor.left = let left = c.if-cursor-eq0.false in omega arith in
    turned c.args.roll.now c.args.replacement.now c.args.cursor (some_left) c.behind-rest.ensures
    (next_exchanged c.args.roll.now c.args.replacement.now c.args.cursor (framed) (some_left) c.if-cursor-eq1.true)
    c.settle_sized.ensures

pub slice_bounds-settle_sized-end : goal.slice_bounds-settle_sized-end
slice_bounds-settle_sized-end c =
    let framed : frame_at c.args.roll.now c.args.cursor.next ≡ Whole c.in-Whole.kind c.in-Whole.body = sym c.frame_at.ensures ∙ c.in-Whole.is in
    let inside : WholeAt c.args.roll.now c.args.cursor.next c.in-Whole.kind c.in-Whole.body = whole _ _ _ _ framed in
    let facts = inside in omega arith

pub settle_sized-requires-in-Whole : goal.settle_sized-requires-in-Whole
settle_sized-requires-in-Whole c =
    let framed : frame_at c.args.roll.now c.args.cursor.next ≡ Whole c.in-Whole.kind c.in-Whole.body = sym c.frame_at.ensures ∙ c.in-Whole.is in
    let some_left : 1 ≤ c.args.cursor.left = let left = c.if-cursor-eq0.false in omega arith in
    (c.requires.0, c.requires.1.fits _ _ (next_own c.args.roll.now c.args.replacement.now c.args.cursor (framed) (some_left) c.if-cursor-eq1.false))

pub returns-in-Broken : goal.returns-in-Broken
returns-in-Broken c = (roll_ends c.args.roll.now c.args.replacement.now c.args.cursor (sym c.frame_at.ensures ∙ c.in-Broken.is), (refl, refl))

pub returns-else-cursor-eq1 : goal.returns-else-cursor-eq1
returns-else-cursor-eq1 c =
    let framed : frame_at c.args.roll.now c.args.cursor.next ≡ Whole c.in-Whole.kind c.in-Whole.body = sym c.frame_at.ensures ∙ c.in-Whole.is in
    let some_left : 1 ≤ c.args.cursor.left = let left = c.if-cursor-eq0.false in omega arith in
    turned c.args.roll.now c.args.replacement.now c.args.cursor (some_left) c.behind-rest.ensures
    (next_own c.args.roll.now c.args.replacement.now c.args.cursor (framed) (some_left) c.if-cursor-eq1.false)
    c.settle_sized-in-Whole.ensures
