-- The walk up from the one area stops at the first within which the other lies: at the area itself, at its parent, or at the state.
use mathlib.Core.Path.{sym, ◌∙◌}
use Rattle.areas.specs.Areas.{FaultlessTariff}
use Rattle.areas.proofs.Faultless.{faultless}
use Rattle.areas.proofs.Within.{within_self, within_parent, within_state, smallest_own, meets_other, meets_parent, meets_state}
use Rattle.areas.proofs.smallest_containing.Goals as goal

pub returns-then-a-b : goal.returns-then-a-b
returns-then-a-b c =
    let tariff : FaultlessTariff c.args.tariff.now c.args.counts = faultless c.args.tariff.now c.args.counts c.requires.0 in
    smallest_own (tariff) c.args.a c.args.b c.requires.1.0
    (within_self c.args.tariff.now c.args.b c.args.a (sym c.if-a-b.true))

pub returns-then-a-eq-STATE : goal.returns-then-a-eq-STATE
returns-then-a-eq-STATE c =
    let tariff : FaultlessTariff c.args.tariff.now c.args.counts = faultless c.args.tariff.now c.args.counts c.requires.0 in
    smallest_own (tariff) c.args.a c.args.b c.requires.1.0
    (rw c.if-a-eq-STATE.true (within_state (tariff) c.args.b c.requires.1.1))

pub returns-then-near-a : goal.returns-then-near-a
returns-then-near-a c =
    let tariff : FaultlessTariff c.args.tariff.now c.args.counts = faultless c.args.tariff.now c.args.counts c.requires.0 in
    smallest_own (tariff) c.args.a c.args.b c.requires.1.0
    (within_parent c.args.tariff.now c.args.b c.args.a
    (sym c.parent-near.ensures.value ∙ c.if-near-a.true))

pub returns-then-above-b : goal.returns-then-above-b
returns-then-above-b c =
    let tariff : FaultlessTariff c.args.tariff.now c.args.counts = faultless c.args.tariff.now c.args.counts c.requires.0 in
    meets_other (tariff) c.args.a c.args.b c.requires.1.0 c.requires.1.1
    c.parent-near.result c.parent-above.result c.parent-near.ensures.value c.parent-above.ensures.value
    c.if-a-b.false c.if-a-eq-STATE.false c.if-near-a.false
    c.if-above-b.true

pub returns-then-above-near : goal.returns-then-above-near
returns-then-above-near c =
    let tariff : FaultlessTariff c.args.tariff.now c.args.counts = faultless c.args.tariff.now c.args.counts c.requires.0 in
    meets_parent (tariff) c.args.a c.args.b c.requires.1.0 c.requires.1.1
    c.parent-near.result c.parent-above.result c.parent-near.ensures.value c.parent-above.ensures.value
    c.if-a-b.false c.if-a-eq-STATE.false c.if-near-a.false
    c.if-above-near.true

pub returns : goal.returns
returns c =
    let tariff : FaultlessTariff c.args.tariff.now c.args.counts = faultless c.args.tariff.now c.args.counts c.requires.0 in
    meets_state (tariff) c.args.a c.args.b c.requires.1.0 c.requires.1.1
    c.parent-near.result c.parent-above.result c.parent-near.ensures.value c.parent-above.ensures.value
    c.if-a-b.false c.if-a-eq-STATE.false c.if-near-a.false
    c.if-above-b.false c.if-above-near.false
