-- What the caps of an area of a faultless tariff are made of is read at its record's place, which lies within the tariff.
use native.Mathlib.Omega.{arith}
use Rattle.layout.specs.Clauses.{AreaThere}
use Rattle.areas.specs.Areas.{area_of, area_at}
use Rattle.areas.proofs.Faultless.{area_there}
use Rattle.areas.proofs.limits.Goals as goal

pub area_place-at-requires : goal.area_place-at-requires
area_place-at-requires c =
    let there : AreaThere c.args.tariff.now c.args.counts c.args.number = area_there c.args.tariff.now c.args.counts c.args.number c.requires in
    there

pub day_cap_at-requires : goal.day_cap_at-requires
day_cap_at-requires c =
    let there : AreaThere c.args.tariff.now c.args.counts c.args.number = area_there c.args.tariff.now c.args.counts c.args.number c.requires in
    omega (arith, c.area_place-at.ensures, there.inside)

pub surcharge_at-requires : goal.surcharge_at-requires
surcharge_at-requires c =
    let there : AreaThere c.args.tariff.now c.args.counts c.args.number = area_there c.args.tariff.now c.args.counts c.args.number c.requires in
    omega (arith, c.area_place-at.ensures, there.inside)

pub reduction_at-requires : goal.reduction_at-requires
reduction_at-requires c =
    let there : AreaThere c.args.tariff.now c.args.counts c.args.number = area_there c.args.tariff.now c.args.counts c.args.number c.requires in
    omega (arith, c.area_place-at.ensures, there.inside)

pub returns : goal.returns
unfolding area_of area_at
returns c =
    rw (
      c.reduction_at.ensures,
      c.surcharge_at.ensures,
      c.day_cap_of.ensures,
      c.day_cap_at.ensures,
      c.area_place-at.ensures,
    )
