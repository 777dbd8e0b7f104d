-- `areas::factors::factor_of` meets its contract: the region's factor record is there, and is read at its place before the stops.
use Prim.Native.Nat.{◌<◌}
use native.Mathlib.Omega.{arith}
use mathlib.Core.Path.{◌≡◌}
use Rattle.areas.specs.Areas.{factor_at, FaultlessTariff}
use Rattle.areas.specs.Factors.{factor_of}
use Rattle.areas.proofs.Faultless.{faultless, factor_inside}
use Rattle.areas.proofs.FactorLaws.{factor_there, factor-of}
use Rattle.areas.proofs.factors.factor_of.Goals as goal

pub factor_place-requires : goal.factor_place-requires
factor_place-requires c =
    let tariff : FaultlessTariff c.args.tariff.now c.args.counts = faultless c.args.tariff.now c.args.counts c.requires.0 in
    let there : c.wide_before-number.result < c.args.counts.factors = let region = c.region_of in
    omega (arith, c.wide_before-number.ensures, factor_there tariff region.result region.ensures.there region.ensures.wide) in
    (tariff.size, there)

pub factor_fields-requires : goal.factor_fields-requires
factor_fields-requires c =
    let tariff : FaultlessTariff c.args.tariff.now c.args.counts = faultless c.args.tariff.now c.args.counts c.requires.0 in
    let there : c.wide_before-number.result < c.args.counts.factors = let region = c.region_of in
    omega (arith, c.wide_before-number.ensures, factor_there tariff region.result region.ensures.there region.ensures.wide) in
    omega (arith, c.factor_place.ensures, factor_inside _ c.args.counts _ (c.requires.0, there))

pub returns : goal.returns
unfolding factor_of factor_at
returns c =
    let tariff : FaultlessTariff c.args.tariff.now c.args.counts = faultless c.args.tariff.now c.args.counts c.requires.0 in
    let region = c.region_of.ensures.value in
    let value : c.factor_fields.result ≡ factor_of c.args.tariff.now c.args.counts c.args.area =
    rw (c.factor_fields.ensures, c.factor_place.ensures, c.wide_before-number.ensures, region)
    in
    rw value (factor-of (tariff) c.args.area c.requires.1)
