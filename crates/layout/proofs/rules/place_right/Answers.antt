-- `layout::rules::place_right` meets its contract: each return is a case of the definition, with the parent's level, kind and flat as its
-- record has them: it is there, since it is earlier, and a region's is the state's, which is the first.
use Prim.Native.Nat.{◌+◌, ◌≤◌, ◌<◌}
use native.Mathlib.Omega.{arith}
use borrow.Author.Tests.{eq-eqb, ne_eqb, lt-ltb, le-ltb}
use lib.ListN.{length}
use Rattle.layout.specs.Layout.{area_size}
use Rattle.layout.specs.Rules.{place_right}
use Rattle.layout.specs.Clauses.{AreaThere}
use Rattle.layout.proofs.Places.{place_none, bits_cut, place_before}
use Rattle.layout.proofs.PlaceLaws.{place_of_region, place_of_none}
use Rattle.layout.proofs.rules.place_right.Goals as goal

pub returns-then-number-eq0 : goal.returns-then-number-eq0
unfolding place_right
returns-then-number-eq0 c = rw (eq-eqb _ 0 c.if-number-eq0.true)

-- the state's record is there
pub flat_at-requires : goal.flat_at-requires
flat_at-requires c =
    let b = c.args.b.now in
    omega (arith, c.requires.inside, place_before b 0 c.args.so_far.areas (omega arith), place_none b)

pub returns-then-level-eq1 : goal.returns-then-level-eq1
returns-then-level-eq1 c =
    let a = c.args in
    rw c.flat_at.ensures (place_of_region a.b.now a.so_far a.kind a.f (omega arith) c.if-level-eq1.true)

pub returns-then-level-ne2 : goal.returns-then-level-ne2
returns-then-level-ne2 c =
    let a = c.args in
    place_of_none a.b.now a.so_far a.kind a.f (omega arith) c.if-level-eq1.false c.if-level-ne2.true

pub returns-then-number-parent : goal.returns-then-number-parent
unfolding place_right
returns-then-number-parent c =
    let a = c.args in
    rw (ne_eqb a.so_far.areas 0 (omega arith), le-ltb a.f.parent a.so_far.areas (omega arith))

pub area_place-at-requires : goal.area_place-at-requires
area_place-at-requires c =
    let there : AreaThere c.args.b.now c.args.so_far
    c.args.f.parent = let parent = c.args.f.parent in
    let areas = c.args.so_far.areas in
    let earlier : parent < areas = omega arith in
    record {
      few = omega arith;
      inside = omega (arith, c.requires.inside, place_before c.args.b.now parent areas earlier);
      longs = rw c.requires.longs (bits_cut c.args.b.now parent areas (omega arith));
    } in
    there

pub level_at-requires : goal.level_at-requires
level_at-requires c =
    let there : AreaThere c.args.b.now c.args.so_far
    c.args.f.parent = let parent = c.args.f.parent in
    let areas = c.args.so_far.areas in
    let earlier : parent < areas = omega arith in
    record {
      few = omega arith;
      inside = omega (arith, c.requires.inside, place_before c.args.b.now parent areas earlier);
      longs = rw c.requires.longs (bits_cut c.args.b.now parent areas (omega arith));
    } in
    let parent-fits : c.area_place-at.result + area_size ≤ length c.args.b.now = omega (arith, c.area_place-at.ensures, there.inside) in
    parent-fits

pub kind_at-requires : goal.kind_at-requires
kind_at-requires c =
    let there : AreaThere c.args.b.now c.args.so_far
    c.args.f.parent = let parent = c.args.f.parent in
    let areas = c.args.so_far.areas in
    let earlier : parent < areas = omega arith in
    record {
      few = omega arith;
      inside = omega (arith, c.requires.inside, place_before c.args.b.now parent areas earlier);
      longs = rw c.requires.longs (bits_cut c.args.b.now parent areas (omega arith));
    } in
    let parent-fits : c.area_place-at.result + area_size ≤ length c.args.b.now = omega (arith, c.area_place-at.ensures, there.inside) in
    omega (arith, parent-fits)

pub flat_at-requires-2 : goal.flat_at-requires-2
flat_at-requires-2 c =
    let there : AreaThere c.args.b.now c.args.so_far
    c.args.f.parent = let parent = c.args.f.parent in
    let areas = c.args.so_far.areas in
    let earlier : parent < areas = omega arith in
    record {
      few = omega arith;
      inside = omega (arith, c.requires.inside, place_before c.args.b.now parent areas earlier);
      longs = rw c.requires.longs (bits_cut c.args.b.now parent areas (omega arith));
    } in
    let parent-fits : c.area_place-at.result + area_size ≤ length c.args.b.now = omega (arith, c.area_place-at.ensures, there.inside) in
    parent-fits

pub returns : goal.returns
unfolding place_right
returns c =
    let a = c.args in
    rw (
      ne_eqb a.so_far.areas 0 (omega arith),
      lt-ltb a.f.parent a.so_far.areas (omega arith),
      ne_eqb a.f.level 1 c.if-level-eq1.false,
      eq-eqb a.f.level 2 (omega arith),
      c.level_at.ensures,
      c.kind_at.ensures,
      c.flat_at-2.ensures,
      c.area_place-at.ensures,
    )
