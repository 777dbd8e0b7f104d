-- `areas::factors::region_of` meets its contract: a city's region is its parent, any other area is its own.
use mathlib.Core.Path.{sym, ◌∙◌}
use Rattle.areas.specs.Areas.{FaultlessTariff}
use Rattle.areas.proofs.Faultless.{faultless}
use Rattle.areas.proofs.FactorLaws.{region_parent, region_own}
use Rattle.areas.proofs.factors.region_of.Goals as goal

pub returns-then-is_city : goal.returns-then-is_city
returns-then-is_city c =
    let tariff : FaultlessTariff c.args.tariff.now c.args.counts = faultless c.args.tariff.now c.args.counts c.requires.0 in
    region_parent (tariff) c.args.area c.requires.1 c.parent.result c.parent.ensures.value
    (sym c.is_city.ensures ∙ c.if-is_city.true)

pub returns-else-is_city : goal.returns-else-is_city
returns-else-is_city c =
    let tariff : FaultlessTariff c.args.tariff.now c.args.counts = faultless c.args.tariff.now c.args.counts c.requires.0 in
    region_own (tariff) c.args.area c.requires.1 (sym c.is_city.ensures ∙ c.if-is_city.false)
