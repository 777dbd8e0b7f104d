-- `scan::halt_of` meets its contract. The loop's invariant: every record before the place is faultless, so many areas, factor
-- records and stops reach it, and so many factor records are due; so a fault met there is the first, and at the end the counts are finished.
-- Areas, factor records and stops are passed with those that are found to stand after them. The measure is the bytes left.
use Rattle.std.proofs.Common.{◌≡◌, sym, ◌∙◌, arith}
use Rattle.layout.specs.Layout.{long_bits}
use Rattle.layout.specs.Scan.{entry_at}
use Rattle.layout.specs.declared.Entry.TheVariants.{Area, Factor, Stop}
use Rattle.layout.proofs.Entries.{stop-entry}
use Rattle.layout.proofs.FaultlessUntil.{passed_none, passed_stop, at_end}
use Rattle.scan.proofs.StopLaws.{passed_stops}
use Rattle.scan.proofs.Halts.{halt_end, halt_fault}
use Rattle.layout.proofs.Wide.{wide_none}
use Rattle.scan.proofs.halt_of.Goals as goal

pub loop-number-init : goal.loop-number-init
unfolding long_bits
loop-number-init c = (passed_none _, sym (wide_none _))

pub entry_at-requires : goal.entry_at-requires
entry_at-requires c = (c.loop-number.invariant.0.reached, c.loop-number.invariant.1)

pub after_area-requires : goal.after_area-requires
after_area-requires c =
    let area_there : entry_at c.args.tariff.now c.loop-number.at c.loop-number.so_far
    ≡ Area c.in-Area.kind = sym c.entry_at.ensures ∙ c.in-Area.is in
    let loop = c.loop-number in
    record { passed = loop.invariant.0; due = loop.invariant.1; here = area_there }

pub areas_found-run-requires : goal.areas_found-run-requires
areas_found-run-requires c = c.after_area.ensures.0

pub loop-number-smaller-in-Area : goal.loop-number-smaller-in-Area
loop-number-smaller-in-Area c =
    let found = c.areas_found-run in
    omega (arith, found.ensures.1, found.ensures.0.passed.reached.inside, c.after_area.ensures.1)

pub loop-number-preserved-in-Area : goal.loop-number-preserved-in-Area
loop-number-preserved-in-Area c = (c.areas_found-run.ensures.0.passed, c.areas_found-run.ensures.0.due)

pub after_factor-requires : goal.after_factor-requires
after_factor-requires c =
    let factor_there : entry_at c.args.tariff.now c.loop-number.at c.loop-number.so_far
    ≡ Factor = sym c.entry_at.ensures ∙ c.in-Factor.is in
    let loop = c.loop-number in
    record { passed = loop.invariant.0; due = loop.invariant.1; here = factor_there }

pub factors_found-run-requires : goal.factors_found-run-requires
factors_found-run-requires c = c.after_factor.ensures.0

pub loop-number-smaller-in-Factor : goal.loop-number-smaller-in-Factor
loop-number-smaller-in-Factor c =
    let found = c.factors_found-run in
    omega (arith, found.ensures.1, found.ensures.0.passed.reached.inside, c.after_factor.ensures.1)

pub loop-number-preserved-in-Factor : goal.loop-number-preserved-in-Factor
loop-number-preserved-in-Factor c = (c.factors_found-run.ensures.0.passed, c.factors_found-run.ensures.0.due)

pub overflow_add-at : goal.overflow_add-at
overflow_add-at c =
    let stop_there : entry_at c.args.tariff.now c.loop-number.at c.loop-number.so_far
    ≡ Stop = sym c.entry_at.ensures ∙ c.in-Stop.is in
    omega (arith, stop-entry _ _ _ stop_there)

pub overflow_add-so_far : goal.overflow_add-so_far
overflow_add-so_far c =
    let stop_there : entry_at c.args.tariff.now c.loop-number.at c.loop-number.so_far
    ≡ Stop = sym c.entry_at.ensures ∙ c.in-Stop.is in
    omega (arith, stop-entry _ _ _ stop_there)

pub overflow_sub-tariff : goal.overflow_sub-tariff
overflow_sub-tariff c =
    let stop_there : entry_at c.args.tariff.now c.loop-number.at c.loop-number.so_far
    ≡ Stop = sym c.entry_at.ensures ∙ c.in-Stop.is in
    omega (arith, stop-entry _ _ _ stop_there)

pub stops_due-requires : goal.stops_due-requires
stops_due-requires c =
    let stop_there : entry_at c.args.tariff.now c.loop-number.at c.loop-number.so_far
    ≡ Stop = sym c.entry_at.ensures ∙ c.in-Stop.is in
    omega (arith, stop-entry _ _ _ stop_there)

pub stops_standing-stops-requires : goal.stops_standing-stops-requires
stops_standing-stops-requires c =
    let stop_there : entry_at c.args.tariff.now c.loop-number.at c.loop-number.so_far
    ≡ Stop = sym c.entry_at.ensures ∙ c.in-Stop.is in
    omega (arith, stop-entry _ _ _ stop_there)

pub overflow_mul-at : goal.overflow_mul-at
overflow_mul-at c =
    let stop_there : entry_at c.args.tariff.now c.loop-number.at c.loop-number.so_far
    ≡ Stop = sym c.entry_at.ensures ∙ c.in-Stop.is in
    omega (arith, stop-entry _ _ _ stop_there)

pub overflow_add-at-in-Stop : goal.overflow_add-at-in-Stop
overflow_add-at-in-Stop c =
    let stop_there : entry_at c.args.tariff.now c.loop-number.at c.loop-number.so_far
    ≡ Stop = sym c.entry_at.ensures ∙ c.in-Stop.is in
    omega (arith, stop-entry _ _ _ stop_there)

pub overflow_cast-so_far-in-Stop : goal.overflow_cast-so_far-in-Stop
overflow_cast-so_far-in-Stop c =
    let stop_there : entry_at c.args.tariff.now c.loop-number.at c.loop-number.so_far
    ≡ Stop = sym c.entry_at.ensures ∙ c.in-Stop.is in
    omega (arith, stop-entry _ _ _ stop_there)

pub overflow_add-so_far-in-Stop : goal.overflow_add-so_far-in-Stop
overflow_add-so_far-in-Stop c =
    let stop_there : entry_at c.args.tariff.now c.loop-number.at c.loop-number.so_far
    ≡ Stop = sym c.entry_at.ensures ∙ c.in-Stop.is in
    omega (arith, stop-entry _ _ _ stop_there)

pub loop-number-smaller : goal.loop-number-smaller
loop-number-smaller c =
    let stop_there : entry_at c.args.tariff.now c.loop-number.at c.loop-number.so_far
    ≡ Stop = sym c.entry_at.ensures ∙ c.in-Stop.is in
    omega (arith, stop-entry _ _ _ stop_there)

pub loop-number-preserved : goal.loop-number-preserved
loop-number-preserved c =
    let stop_there : entry_at c.args.tariff.now c.loop-number.at c.loop-number.so_far
    ≡ Stop = sym c.entry_at.ensures ∙ c.in-Stop.is in
    let (p, due) = c.loop-number.invariant in
    let here = stop_there in
    let facts = stop-entry _ _ _ here in (
      passed_stops _ c.stops_standing-stops.result _ _ facts.some facts.all (omega arith) (omega arith) c.stops_standing-stops.ensures.0
          (passed_stop _ _ _ p here),
      due,
    )

pub returns-in-End : goal.returns-in-End
returns-in-End c =
    sym
    (halt_end _
    (at_end _ _ _ c.loop-number.invariant.0 (sym c.entry_at.ensures ∙ c.in-End.is)))

pub returns-in-Faulty : goal.returns-in-Faulty
returns-in-Faulty c =
    let loop = c.loop-number in
    let here = sym c.entry_at.ensures ∙ c.in-Faulty.is in
    c.fault_at.ensures ∙ halt_fault _ _ _ _ _ (record { passed = loop.invariant.0; faulty = here }) loop.invariant.1
