-- The record of an area of a faultless tariff is there, and its level is read in it.
use native.Mathlib.Omega.{arith}
use mathlib.Core.Path.{◌∙◌}
use Rattle.layout.specs.Clauses.{AreaThere}
use Rattle.areas.proofs.Faultless.{area_there}
use Rattle.areas.proofs.level.Goals as goal

pub area_place-requires : goal.area_place-requires
area_place-requires c =
    let there : AreaThere c.args.tariff.now c.args.counts c.args.number = area_there c.args.tariff.now c.args.counts c.args.number c.requires in
    there

pub level_at-requires : goal.level_at-requires
level_at-requires c =
    let there : AreaThere c.args.tariff.now c.args.counts c.args.number = area_there c.args.tariff.now c.args.counts c.args.number c.requires in
    omega (arith, c.area_place.ensures, there.inside)

pub returns : goal.returns
returns c = c.level_at.ensures ∙ rw c.area_place.ensures
