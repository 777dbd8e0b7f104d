-- `scan::area_run::after_area` meets its contract: it goes to where the area ends, counts it, with its bit if it is of kind 8, and counts the
-- factor record due for it.
use Rattle.std.proofs.Common.{◌≡◌, ◌+◌, ◌*◌, ◌%◌, ◌^◌, ◌<◌, refl, arith, pow_mono, shl_exact}
use Rattle.layout.specs.Layout.{long_of, most_areas, one_area}
use Rattle.layout.specs.Rules.{level_of}
use Rattle.layout.proofs.Places.{long_most, bits_below}
use Rattle.layout.proofs.Entries.{area-entry}
use Rattle.layout.proofs.FaultlessUntil.{passed_area}
use Rattle.layout.proofs.Wide.{wide_most}
use Rattle.scan.proofs.AreaRunLaws.{passed_on}
use Rattle.scan.proofs.area_run.after_area.Goals as goal

pub overflow_shl-result : goal.overflow_shl-result
overflow_shl-result c =
    let few : c.args.run.so_far.areas < most_areas = (area-entry _ _ _ _ c.requires.here).here.few in
    few

pub overflow_add-result-4 : goal.overflow_add-result-4
overflow_add-result-4 c =
    let few : c.args.run.so_far.areas < most_areas = (area-entry _ _ _ _ c.requires.here).here.few in
    let bit : c.long_of-long.result * 2 ^ c.args.run.so_far.areas % 2 ^ 32
    ≡ long_of c.args.kind * 2 ^ c.args.run.so_far.areas = let a = c.args in
    rw c.long_of-long.ensures.0
    (shl_exact {a = long_of a.kind} 1 a.run.so_far.areas 32 (omega (arith, long_most a.kind)) (omega (arith, few))) in
    let bits : (one_area c.args.run.so_far c.args.kind).longs < 2 ^ 32 = let a = c.args in
    let next = (passed_area a.b.now a.run.at a.run.so_far c.requires.passed a.kind c.requires.here).reached in
    omega (arith, next.longs, bits_below a.b.now (a.run.so_far.areas + 1), pow_mono {i = a.run.so_far.areas + 1} {j = 32} (omega (arith, few))) in
    rw bit (omega (arith, bits))

pub level_at-requires : goal.level_at-requires
level_at-requires c = omega (arith, (area-entry _ _ _ _ c.requires.here).fits)

pub wide_with-requires : goal.wide_with-requires
wide_with-requires c =
    let so_far = c.args.run.so_far in
    omega (arith, c.requires.due, wide_most (level_of c.args.b.now) so_far.areas, c.requires.passed.reached.few)

pub returns : goal.returns
returns c =
    let few : c.args.run.so_far.areas < most_areas = (area-entry _ _ _ _ c.requires.here).here.few in
    let bit : c.long_of-long.result * 2 ^ c.args.run.so_far.areas % 2 ^ 32
    ≡ long_of c.args.kind * 2 ^ c.args.run.so_far.areas = let a = c.args in
    rw c.long_of-long.ensures.0
    (shl_exact {a = long_of a.kind} 1 a.run.so_far.areas 32 (omega (arith, long_most a.kind)) (omega (arith, few))) in
    rw (bit, c.long_of-long.ensures.0)
    (passed_on c.args.b.now c.args.run c.args.kind c.requires _ _ refl (rw c.level_at.ensures at c.wide_with.ensures))
