-- `layout::starts::area_place` meets its contract: each area before it has 29 bytes, and 13 more where it is of kind 8.
use Prim.Native.Nat.{◌≤◌}
use native.Mathlib.Omega.{arith}
use native.Mathlib.Nat.{mod-eq_of_lt}
use mathlib.Core.Path.{◌≡◌, sym, ap, ◌∙◌}
use lib.Pow.{pow_pos}
use lib.Count.{ones}
use Rattle.layout.proofs.Places.{long_areas, place_is, place_plain, long_few}
use Rattle.layout.proofs.starts.area_place.Goals as goal

-- no area is of kind 8
pub returns-then-counts-eq0 : goal.returns-then-counts-eq0
returns-then-counts-eq0 c =
    let no_bits : c.args.counts.longs ≡ 0 = omega (arith, c.if-counts-eq0.true) in
    let none = sym (rw no_bits at c.requires.longs) ∙ mod-eq_of_lt (pow_pos c.args.number) in
    sym (place_plain c.args.b.now c.args.number none)

-- none before it is
pub returns-then-before-eq0 : goal.returns-then-before-eq0
returns-then-before-eq0 c =
    let none = sym c.requires.longs ∙ sym c.long_before-before.ensures ∙ c.if-before-eq0.true in
    sym (place_plain c.args.b.now c.args.number none)

pub overflow_cast-result : goal.overflow_cast-result
overflow_cast-result c =
    let counted : ones c.long_before-before.result ≡ long_areas c.args.b.now c.args.number = ap ones (c.long_before-before.ensures ∙ c.requires.longs) in
    let few : ones c.long_before-before.result ≤ c.args.number = omega (arith, counted, long_few c.args.b.now c.args.number) in
    omega (arith, few)

pub overflow_mul-result-3 : goal.overflow_mul-result-3
overflow_mul-result-3 c =
    let counted : ones c.long_before-before.result ≡ long_areas c.args.b.now c.args.number = ap ones (c.long_before-before.ensures ∙ c.requires.longs) in
    let few : ones c.long_before-before.result ≤ c.args.number = omega (arith, counted, long_few c.args.b.now c.args.number) in
    omega (arith, few)

pub overflow_add-result : goal.overflow_add-result
overflow_add-result c =
    let counted : ones c.long_before-before.result ≡ long_areas c.args.b.now c.args.number = ap ones (c.long_before-before.ensures ∙ c.requires.longs) in
    let few : ones c.long_before-before.result ≤ c.args.number = omega (arith, counted, long_few c.args.b.now c.args.number) in
    omega (arith, few)

pub returns : goal.returns
returns c =
    let counted : ones c.long_before-before.result ≡ long_areas c.args.b.now c.args.number = ap ones (c.long_before-before.ensures ∙ c.requires.longs) in
    omega (arith, counted, place_is c.args.b.now c.args.number)
