-- `salvage` meets its contract: from step to step a pass goes on, and at the roll's end what it has left is what comes of the whole roll.
use native.Mathlib.Omega.{arith}
use mathlib.Core.Path.{refl}
use Rattle.text.specs.Texts.{bytes}
use Rattle.salvage.specs.Salvage.{printed}
use Rattle.salvage.proofs.Passes.{begins, goes_on, steps_on, lines_fit, all_done, is_too_long}
use Rattle.salvage.proofs.salvage.Goals as goal

pub returns-then-size-gt-ROLL : goal.returns-then-size-gt-ROLL
unfolding printed bytes
returns-then-size-gt-ROLL c =
    let text = rw c.clear.ensures at c.put_text.ensures.put in
    (is_too_long c.args.roll.now (omega arith), (text, (rw text (omega arith), refl)))

pub loop-pass-init : goal.loop-pass-init
loop-pass-init c = rw c.clear.ensures (begins c.args.roll.now (omega arith))

pub take_step-pass-requires : goal.take_step-pass-requires
take_step-pass-requires c = goes_on c.loop-pass.invariant (omega (arith, c.loop-pass.invariant.same_length))

pub loop-pass-smaller : goal.loop-pass-smaller
loop-pass-smaller c =
    let r = c.loop-pass.invariant in
    let on = (steps_on r (omega (arith, r.same_length)) (omega arith) c.take_step-pass.ensures).1 in
    omega (arith, r.inside)

pub loop-pass-preserved : goal.loop-pass-preserved
loop-pass-preserved c =
    let r = c.loop-pass.invariant in
    (steps_on r (omega (arith, r.same_length)) (omega arith) c.take_step-pass.ensures).0

pub put_run-requires : goal.put_run-requires
put_run-requires c =
    let r = c.loop-pass.invariant in
    record { few = r.few; order = omega (arith, r.order, r.inside); short = r.short }

pub shape_of-roll : goal.shape_of-roll
shape_of-roll c = omega (arith, c.loop-pass.invariant.same_length)

pub returns : goal.returns
returns c =
    let r = c.loop-pass.invariant in
    let put = c.put_run.ensures in (
      all_done r (omega (arith, r.inside)) put,
      (
        omega (arith, r.kept_before, r.order, r.inside, r.same_length),
        (lines_fit _ _ _ _ (omega (arith, r.order, r.inside)) r.short r.few put.room, r.others),
      ),
    )
