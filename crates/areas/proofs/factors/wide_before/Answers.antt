-- `areas::factors::wide_before` meets its contract. The loop's invariant: it has counted the areas before `i`, and the place is that of area
-- `i`. The measure is the areas left.
use Prim.Native.Nat.{◌≤◌}
use native.Mathlib.Omega.{arith}
use mathlib.Core.Path.{◌≡◌, sym}
use lib.ListN.{length}
use Rattle.layout.specs.Layout.{area_end}
use Rattle.layout.specs.Rules.{level_of}
use Rattle.areas.proofs.Faultless.{area_there}
use Rattle.layout.proofs.Places.{place_none, place_next}
use Rattle.layout.proofs.Wide.{wide_none, wide_next, wide_most}
use Rattle.areas.proofs.factors.wide_before.Goals as goal

pub loop-i-init : goal.loop-i-init
loop-i-init c = (sym (wide_none _), sym (place_none _), omega arith)

pub level_at-requires : goal.level_at-requires
level_at-requires c =
    let ends : area_end c.args.tariff.now c.loop-i.at ≤ length c.args.tariff.now = let there =
    area_there c.args.tariff.now c.args.counts c.loop-i.i
    (c.requires.0, omega (arith, c.requires.1, c.loop-i-test.true))
    in
    rw c.loop-i.invariant.1 there.inside in
    omega (arith, ends)

pub wide_with-wide-requires : goal.wide_with-wide-requires
wide_with-wide-requires c =
    let there =
    area_there c.args.tariff.now c.args.counts c.loop-i.i
    (c.requires.0, omega (arith, c.requires.1, c.loop-i-test.true))
    in
    let most = wide_most (level_of c.args.tariff.now) c.loop-i.i in
    omega (arith, c.loop-i.invariant.0, most, there.few)

pub area_end-at-requires : goal.area_end-at-requires
area_end-at-requires c =
    let ends : area_end c.args.tariff.now c.loop-i.at ≤ length c.args.tariff.now = let there =
    area_there c.args.tariff.now c.args.counts c.loop-i.i
    (c.requires.0, omega (arith, c.requires.1, c.loop-i-test.true))
    in
    rw c.loop-i.invariant.1 there.inside in
    ends

pub loop-i-preserved : goal.loop-i-preserved
loop-i-preserved c =
    let loop = c.loop-i in (
      rw (c.wide_with-wide.ensures, c.level_at.ensures, loop.invariant.0, loop.invariant.1) (sym (wide_next _ loop.i)),
      rw (c.area_end-at.ensures, loop.invariant.1) (sym (place_next c.args.tariff.now loop.i)),
      omega arith,
    )

pub returns : goal.returns
returns c =
    let over : c.loop-i.i ≡ c.args.number = omega (arith, c.loop-i.invariant.2, c.loop-i-test.false) in
    rw over at c.loop-i.invariant.0
