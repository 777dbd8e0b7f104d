-- `digits::put_before` meets its contract. The loop's invariant: the digits that are left, in front of those that stand, are the number's, and
-- there is a place for each. The measure is the place.
use Prim.Native.Nat.{◌+◌, ◌/◌, ◌%◌, ◌<◌}
use native.Mathlib.Omega.{arith}
use mathlib.Core.Path.{refl, sym, ap, ◌∙◌}
use mathlib.Core.List.{◌++◌}
use lib.ListN.{length-set}
use Rattle.text.specs.Texts.{decimal}
use Rattle.text.proofs.Decimal.{set_behind, last_put, more_put, all_put, digit_put}
use Rattle.text.proofs.digits.put_before.Goals as goal

pub loop-rest-init : goal.loop-rest-init
loop-rest-init c =
    let fits = c.ranges.number.fits in
    let small : c.args.number / 10 < 1000000000 = omega arith in
    let stands = last_put c.args.text.now c.args.end c.args.number (omega arith) (omega arith) in
    let behind = set_behind c.args.text.now c.args.end (48 + c.args.number % 10) (omega arith) in (
      record { left = 9; small = small; room = omega arith },
      omega arith,
      simp length-set (omega arith),
      refl,
      stands ∙ ap (decimal c.args.number ++◌) (sym behind),
    )

pub overflow_sub-at-in-loop-rest : goal.overflow_sub-at-in-loop-rest
overflow_sub-at-in-loop-rest c = omega (arith, digit_put c.loop-rest.invariant.0 c.loop-rest-test.true)

pub loop-rest-smaller : goal.loop-rest-smaller
loop-rest-smaller c = omega (arith, digit_put c.loop-rest.invariant.0 c.loop-rest-test.true)

pub loop-rest-preserved : goal.loop-rest-preserved
loop-rest-preserved c =
    let s = c.loop-rest.invariant in
    let room = (digit_put s.0 c.loop-rest-test.true).1 in (
      (digit_put s.0 c.loop-rest-test.true).0,
      omega arith,
      s.2,
      length-set c.loop-rest.text _ _ ∙ s.3,
      more_put c.loop-rest.text c.loop-rest.at c.loop-rest.rest (omega arith) (omega arith) c.loop-rest-test.true ∙ s.4,
    )

pub shape_of-text : goal.shape_of-text
shape_of-text c = c.loop-rest.invariant.3 ∙ length-set c.args.text.now _ _

pub returns : goal.returns
returns c =
    let s = c.loop-rest.invariant in
    let args = c.args in
    let behind = set_behind args.text.now args.end (48 + args.number % 10) (omega arith) in
    record {
      put = sym (all_put c.loop-rest.rest _ (omega arith)) ∙ s.4 ∙ ap (decimal args.number ++◌) behind;
      order = omega arith;
      room = omega (arith, s.0.room);
    }
