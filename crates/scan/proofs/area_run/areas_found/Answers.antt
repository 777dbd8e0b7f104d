-- `scan::area_run::areas_found` meets its contract: the loop's invariant is that every record before its place is a faultless area. The
-- measure is the bytes left.
use Rattle.std.proofs.Common.{arith}
use Rattle.scan.proofs.area_run.areas_found.Goals as goal

pub loop-run-init : goal.loop-run-init
loop-run-init c = (c.requires, omega arith)

pub kind_found-kind-requires : goal.kind_found-kind-requires
kind_found-kind-requires c = c.loop-run.invariant.0.passed.reached.inside

pub area_found-requires : goal.area_found-requires
area_found-requires c =
    let loop = c.loop-run in
    (loop.invariant.0, c.loop-run-test.true, c.kind_found-kind.ensures)

pub after_area-run-requires : goal.after_area-run-requires
after_area-run-requires c =
    let loop = c.loop-run in
    record { passed = loop.invariant.0.passed; due = loop.invariant.0.due; here = c.area_found.ensures.told (c.if-not-area_found.false) }

pub loop-run-smaller : goal.loop-run-smaller
loop-run-smaller c = omega (arith, c.after_area-run.ensures.1, c.after_area-run.ensures.0.passed.reached.inside)

pub loop-run-preserved : goal.loop-run-preserved
loop-run-preserved c =
    let after = c.after_area-run in
    (after.ensures.0, omega (arith, c.loop-run.invariant.1, after.ensures.1))

pub returns-after-loop-run : goal.returns-after-loop-run
returns-after-loop-run c = c.loop-run.invariant

pub returns-then-not-area_found : goal.returns-then-not-area_found
returns-then-not-area_found c = c.loop-run.invariant
