-- `units::raised` meets its contract: rounding up is cited, with its range.
use native.Mathlib.Omega.{arith}
use Rattle.units.proofs.Rounding.{raised_most}
use Rattle.units.proofs.raised.Goals as goal

pub returns : goal.returns
returns c =
    let value = c.hundredths_of.ensures in
    record {
      value = value;
      range = omega (arith, raised_most c.args.amount.0 c.args.percent c.requires.1);
    }
