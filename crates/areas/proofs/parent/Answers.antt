-- The record of an area of a faultless tariff is there, and its parent is the number of an area.
use native.Mathlib.Omega.{arith}
use mathlib.Core.Path.{◌≡◌, ◌∙◌}
use Rattle.layout.specs.Clauses.{AreaThere}
use Rattle.areas.specs.Areas.{parent_of}
use Rattle.areas.proofs.Faultless.{faultless, area_there}
use Rattle.areas.proofs.Within.{parent_there}
use Rattle.areas.proofs.parent.Goals as goal

pub area_place-requires : goal.area_place-requires
area_place-requires c =
    let there : AreaThere c.args.tariff.now c.args.counts c.args.number = area_there c.args.tariff.now c.args.counts c.args.number c.requires in
    there

pub parent_at-requires : goal.parent_at-requires
parent_at-requires c =
    let there : AreaThere c.args.tariff.now c.args.counts c.args.number = area_there c.args.tariff.now c.args.counts c.args.number c.requires in
    omega (arith, c.area_place.ensures, there.inside)

pub returns : goal.returns
returns c =
    let there : AreaThere c.args.tariff.now c.args.counts c.args.number = area_there c.args.tariff.now c.args.counts c.args.number c.requires in
    let value : c.parent_at.result ≡ parent_of c.args.tariff.now c.args.number =
    c.parent_at.ensures ∙ rw c.area_place.ensures
    in
    record {
      value = value;
      there =
          rw value (parent_there (faultless c.args.tariff.now c.args.counts c.requires.0) c.args.number c.requires.1);
    }
