-- `scan::factor_run::factors_found` meets its contract: the loop's invariant is that every record before its place is faultless, and none a
-- stop. The measure is the bytes left.
use Rattle.std.proofs.Common.{arith}
use Rattle.scan.proofs.factor_run.factors_found.Goals as goal

pub loop-run-init : goal.loop-run-init
loop-run-init c = (c.requires, omega arith)

pub factor_found-requires : goal.factor_found-requires
factor_found-requires c = c.loop-run.invariant.0

pub after_factor-run-requires : goal.after_factor-run-requires
after_factor-run-requires c =
    let loop = c.loop-run in
    record { passed = loop.invariant.0.passed; due = loop.invariant.0.due; here = c.factor_found.ensures.told c.loop-run-test.true }

pub loop-run-smaller : goal.loop-run-smaller
loop-run-smaller c = omega (arith, c.after_factor-run.ensures.1, c.after_factor-run.ensures.0.passed.reached.inside)

pub loop-run-preserved : goal.loop-run-preserved
loop-run-preserved c = (c.after_factor-run.ensures.0, omega (arith, c.loop-run.invariant.1, c.after_factor-run.ensures.1))

pub returns : goal.returns
returns c = c.loop-run.invariant
