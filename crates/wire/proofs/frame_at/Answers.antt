-- `wire::frame_at` meets its contract: each of its returns is a case of `broken`, and past all of them the record is whole.
use native.Mathlib.Omega.{arith}
use mathlib.Core.Path.{◌≡◌, sym, ◌∙◌}
use mathlib.Core.Bool.{false}
use Rattle.wire.specs.Frame.{broken}
use Rattle.wire.proofs.Frames.{cut_broken, tested, unbroken, unbroken_given, broken_back}
use Rattle.wire.proofs.frame_at.Goals as goal

pub returns-then-end-at : goal.returns-then-end-at
returns-then-end-at c = sym (broken_back _ _ (cut_broken _ _ (omega arith)))

pub returns-then-left-lt-HEAD : goal.returns-then-left-lt-HEAD
returns-then-left-lt-HEAD c = sym (broken_back _ _ (cut_broken _ _ (omega arith)))

pub returns-then-long-left : goal.returns-then-long-left
returns-then-long-left c = sym (broken_back _ _ (tested _ _ _ c.two_at-long.ensures.value (omega arith) ∙ c.if-long-left.true))

pub overflow_sub-result : goal.overflow_sub-result
overflow_sub-result c =
    let sound : broken c.args.b.now c.args.at ≡ false = tested _ _ _ c.two_at-long.ensures.value (omega arith) ∙ c.if-long-left.false in
    let facts = unbroken _ _ sound in
    omega arith

pub returns : goal.returns
returns c =
    let sound : broken c.args.b.now c.args.at ≡ false = tested _ _ _ c.two_at-long.ensures.value (omega arith) ∙ c.if-long-left.false in
    rw (c.two_at.ensures.value, c.two_at-long.ensures.value)
    (sym (unbroken_given _ _ sound))
