-- An area of a faultless tariff is read at its place, which lies within the tariff, and put in its units.
use native.Mathlib.Omega.{arith}
use Rattle.layout.specs.Clauses.{AreaThere}
use Rattle.areas.specs.Areas.{area_at}
use Rattle.areas.proofs.Faultless.{area_there}
use Rattle.areas.proofs.area.Goals as goal

pub area_place-at-requires : goal.area_place-at-requires
area_place-at-requires c =
    let there : AreaThere c.args.tariff.now c.args.counts c.args.number = area_there c.args.tariff.now c.args.counts c.args.number c.requires in
    there

pub area_fields-f-requires : goal.area_fields-f-requires
area_fields-f-requires c =
    let there : AreaThere c.args.tariff.now c.args.counts c.args.number = area_there c.args.tariff.now c.args.counts c.args.number c.requires in
    omega (arith, c.area_place-at.ensures, there.inside)

pub kind_with-requires : goal.kind_with-requires
kind_with-requires c =
    let there : AreaThere c.args.tariff.now c.args.counts c.args.number = area_there c.args.tariff.now c.args.counts c.args.number c.requires in
    rw c.area_place-at.ensures there.inside

pub returns : goal.returns
unfolding area_at
returns c =
    rw (
      c.area_of.ensures,
      c.kind_with.ensures,
      c.area_fields-f.ensures,
      c.area_place-at.ensures,
    )
