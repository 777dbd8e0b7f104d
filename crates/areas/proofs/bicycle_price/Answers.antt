-- The record of an area of kind 8 of a faultless tariff is there, and its bicycle price is in its range.
use native.Mathlib.Omega.{arith}
use mathlib.Core.Path.{◌≡◌, ◌∙◌}
use borrow.Author.Tests.{eqb-true}
use Rattle.layout.specs.Clauses.{AreaThere}
use Rattle.layout.specs.Layout.{aachen_kind}
use Rattle.layout.specs.Rules.{kind_of}
use Rattle.areas.specs.Areas.{bicycle_price_of}
use Rattle.areas.proofs.Faultless.{area_there, bicycle_price_most}
use Rattle.layout.proofs.Places.{long_is}
use Rattle.areas.proofs.bicycle_price.Goals as goal

pub area_place-requires : goal.area_place-requires
area_place-requires c =
    let there : AreaThere c.args.tariff.now c.args.counts c.args.number = area_there c.args.tariff.now c.args.counts c.args.number (c.requires.0, c.requires.1) in
    there

pub bicycle_price_at-requires : goal.bicycle_price_at-requires
bicycle_price_at-requires c =
    let there : AreaThere c.args.tariff.now c.args.counts c.args.number = area_there c.args.tariff.now c.args.counts c.args.number (c.requires.0, c.requires.1) in
    let kind = kind_of c.args.tariff.now c.args.number in
    omega (arith, c.area_place.ensures, there.inside, long_is kind (eqb-true kind aachen_kind c.requires.2))

pub returns : goal.returns
returns c =
    let value : c.bicycle_price_at.result ≡ bicycle_price_of c.args.tariff.now c.args.number =
    c.bicycle_price_at.ensures ∙ rw c.area_place.ensures
    in
    record {
      value = value;
      range = rw value (bicycle_price_most c.args.tariff.now c.args.counts c.args.number c.requires);
    }
