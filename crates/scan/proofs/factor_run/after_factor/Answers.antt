-- `scan::factor_run::after_factor` meets its contract: it goes to where the factor record ends, and counts it.
use Rattle.std.proofs.Common.{arith}
use Rattle.layout.specs.Rules.{level_of}
use Rattle.layout.proofs.Entries.{factor-entry}
use Rattle.layout.proofs.Wide.{wide_most}
use Rattle.scan.proofs.FactorRunLaws.{passed_on}
use Rattle.scan.proofs.factor_run.after_factor.Goals as goal

pub overflow_add-result-2 : goal.overflow_add-result-2
overflow_add-result-2 c =
    let so_far = c.args.run.so_far in
    let most = wide_most (level_of c.args.b.now) so_far.areas in
    omega (arith, (factor-entry _ _ _ c.requires.here).few, most, c.requires.passed.reached.few)

pub returns : goal.returns
returns c = passed_on c.args.b.now c.args.run c.requires
