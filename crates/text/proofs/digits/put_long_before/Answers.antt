-- `digits::put_long_before` is safe, and puts 21 digits at most. The loop's invariant: what is left has no more digits than there are places left
-- of twenty, and eleven places at most are taken, since what is put here does not fit 32 bits. The measure is the place.
use Prim.Native.Nat.{◌<◌}
use native.Mathlib.Omega.{arith}
use mathlib.Core.Path.{refl, ◌∙◌}
use lib.ListN.{length-set}
use Rattle.text.proofs.Decimal.{long_put, digit_put, long_left}
use Rattle.text.proofs.digits.put_long_before.Goals as goal

pub loop-rest-init : goal.loop-rest-init
loop-rest-init c =
    let fits = c.ranges.number.fits in
    let small : c.args.number < 100000000000000000000 = omega arith in
    (record { left = 20; small = small; room = omega arith }, omega arith, omega arith, refl, refl)

pub loop-rest-preserved : goal.loop-rest-preserved
loop-rest-preserved c =
    let s = c.loop-rest.invariant in (
      (digit_put s.0 (omega arith)).0,
      omega arith,
      omega (arith, long_left s.0 c.loop-rest-test.true),
      length-set c.loop-rest.text _ _ ∙ s.3,
      long_put c.loop-rest.text c.loop-rest.at c.loop-rest.rest (omega arith) (omega arith) (omega arith) ∙ s.4,
    )

pub returns : goal.returns
returns c =
    let done = c.put_before.ensures in
    let inv = c.loop-rest.invariant in
    record { put = done.put ∙ inv.4; order = omega arith; room = omega arith }
