-- The record of an area of a faultless tariff is there, and its kind is read in it.
use native.Mathlib.Omega.{arith}
use Rattle.layout.specs.Clauses.{AreaThere}
use Rattle.areas.proofs.Faultless.{area_there}
use Rattle.areas.proofs.is_aachen.Goals as goal

pub area_place-requires : goal.area_place-requires
area_place-requires c =
    let there : AreaThere c.args.tariff.now c.args.counts c.args.number = area_there c.args.tariff.now c.args.counts c.args.number c.requires in
    there

pub kind_at-requires : goal.kind_at-requires
kind_at-requires c =
    let there : AreaThere c.args.tariff.now c.args.counts c.args.number = area_there c.args.tariff.now c.args.counts c.args.number c.requires in
    omega (arith, c.area_place.ensures, there.inside)

pub returns : goal.returns
returns c = rw (c.kind_at.ensures, c.area_place.ensures)
