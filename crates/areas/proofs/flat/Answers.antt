-- The record of an area of a faultless tariff is there, and its flat is in its range.
use native.Mathlib.Omega.{arith}
use mathlib.Core.Path.{◌≡◌, ◌∙◌}
use Rattle.layout.specs.Clauses.{AreaThere}
use Rattle.layout.specs.Rules.{flat_of}
use Rattle.areas.specs.Areas.{area_of, area_at}
use Rattle.areas.proofs.Faultless.{faultless, area_there}
use Rattle.areas.proofs.flat.Goals as goal

pub area_place-requires : goal.area_place-requires
area_place-requires c =
    let there : AreaThere c.args.tariff.now c.args.counts c.args.number = area_there c.args.tariff.now c.args.counts c.args.number c.requires in
    there

pub flat_at-requires : goal.flat_at-requires
flat_at-requires c =
    let there : AreaThere c.args.tariff.now c.args.counts c.args.number = area_there c.args.tariff.now c.args.counts c.args.number c.requires in
    omega (arith, c.area_place.ensures, there.inside)

pub returns : goal.returns
unfolding area_of area_at
returns c =
    let value : c.flat_at.result ≡ flat_of c.args.tariff.now c.args.number =
    c.flat_at.ensures ∙ rw c.area_place.ensures
    in
    record {
      value = value;
      range = rw value ((faultless c.args.tariff.now c.args.counts c.requires.0).area c.args.number c.requires.1).bicycle-flat;
    }
