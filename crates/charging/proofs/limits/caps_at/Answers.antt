-- `charging::limits::caps_at` meets its contract: a day cap is at most 60,000, so both roundings are in their range, and each is made as the
-- definition says.
use native.Mathlib.Omega.{arith}
use mathlib.Core.Path.{◌≡◌, ap, sym, ◌∙◌}
use Rattle.units.specs.Rounding.{raised_by, reduced_by}
use Rattle.layout.specs.declared.Area.{Area}
use Rattle.areas.specs.Areas.{area_at, AreaRanges}
use Rattle.areas.proofs.Faultless.{faultless}
use Rattle.charging.proofs.CapLaws.{day_most, caps_none, caps_adult, caps_child}
use Rattle.charging.proofs.limits.caps_at.Goals as goal

pub raised-dear-requires : goal.raised-dear-requires
raised-dear-requires c =
    let area : Area = let a = c.args in area_at a.tariff.now a.at in
    let ranges : AreaRanges area = let p = c.requires in (faultless _ _ p.0).area _ p.1 in
    let day-cap : c.limits-of.result.day_cap ≡ area.day_cap = ap (λ l. l.day_cap) c.limits-of.ensures in
    let surcharge : c.limits-of.result.surcharge ≡ area.surcharge = ap (λ l. l.surcharge) c.limits-of.ensures in (
      omega (arith, day_most (area) _ (ranges) (sym (day-cap) ∙ c.in-UpTo.is)),
      omega (arith, surcharge, ranges.surcharge),
    )

pub reduced-requires : goal.reduced-requires
reduced-requires c =
    let area : Area = let a = c.args in area_at a.tariff.now a.at in
    let ranges : AreaRanges area = let p = c.requires in (faultless _ _ p.0).area _ p.1 in
    let day-cap : c.limits-of.result.day_cap ≡ area.day_cap = ap (λ l. l.day_cap) c.limits-of.ensures in
    let reduction : c.limits-of.result.reduction ≡ area.reduction = ap (λ l. l.reduction) c.limits-of.ensures in (
      omega (arith, day_most (area) _ (ranges) (sym (day-cap) ∙ c.in-UpTo.is)),
      omega (arith, reduction, ranges.reduction),
    )

pub reduced-requires-then-child : goal.reduced-requires-then-child
reduced-requires-then-child c =
    let area : Area = let a = c.args in area_at a.tariff.now a.at in
    let ranges : AreaRanges area = let p = c.requires in (faultless _ _ p.0).area _ p.1 in
    let day-cap : c.limits-of.result.day_cap ≡ area.day_cap = ap (λ l. l.day_cap) c.limits-of.ensures in
    let reduction : c.limits-of.result.reduction ≡ area.reduction = ap (λ l. l.reduction) c.limits-of.ensures in (
      omega (
        arith,
        c.raised-dear.ensures,
        day_most (area) _ (ranges) (sym (day-cap) ∙ c.in-UpTo.is),
      ),
      omega (arith, reduction, ranges.reduction),
    )

pub returns-in-NoCap : goal.returns-in-NoCap
returns-in-NoCap c =
    let area : Area = let a = c.args in area_at a.tariff.now a.at in
    let day-cap : c.limits-of.result.day_cap ≡ area.day_cap = ap (λ l. l.day_cap) c.limits-of.ensures in
    caps_none (area) _ (sym (day-cap) ∙ c.in-NoCap.is)

pub returns-then-child : goal.returns-then-child
returns-then-child c =
    let area : Area = let a = c.args in area_at a.tariff.now a.at in
    let day-cap : c.limits-of.result.day_cap ≡ area.day_cap = ap (λ l. l.day_cap) c.limits-of.ensures in
    let surcharge : c.limits-of.result.surcharge ≡ area.surcharge = ap (λ l. l.surcharge) c.limits-of.ensures in
    let reduction : c.limits-of.result.reduction ≡ area.reduction = ap (λ l. l.reduction) c.limits-of.ensures in
    rw c.if-child.true
    (caps_child (area) _ _ _ _ (sym (day-cap) ∙ c.in-UpTo.is)
    (c.raised-dear.ensures.value ∙ ap (λ percent. raised_by percent c.in-UpTo.day.0) (surcharge))
    (c.reduced.ensures.value ∙ ap (λ percent. reduced_by percent c.in-UpTo.day.0) (reduction))
    (c.reduced-then-child.ensures.value ∙ ap (λ percent. reduced_by percent c.raised-dear.result.0) (reduction)))

pub returns-else-child : goal.returns-else-child
returns-else-child c =
    let area : Area = let a = c.args in area_at a.tariff.now a.at in
    let day-cap : c.limits-of.result.day_cap ≡ area.day_cap = ap (λ l. l.day_cap) c.limits-of.ensures in
    let surcharge : c.limits-of.result.surcharge ≡ area.surcharge = ap (λ l. l.surcharge) c.limits-of.ensures in
    rw c.if-child.false
    (caps_adult (area) _ _ (sym (day-cap) ∙ c.in-UpTo.is)
    (c.raised-dear.ensures.value ∙ ap (λ percent. raised_by percent c.in-UpTo.day.0) (surcharge)))
