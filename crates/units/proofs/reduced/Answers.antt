-- `units::reduced` meets its contract: rounding up is cited, with its range.
use native.Mathlib.Omega.{arith}
use Rattle.units.proofs.Rounding.{reduced_most}
use Rattle.units.proofs.reduced.Goals as goal

pub returns : goal.returns
returns c =
    let value = c.hundredths_of.ensures in
    record {
      value = value;
      range = omega (arith, reduced_most c.args.amount.0 c.args.percent);
    }
