-- `prices::base_part` meets its contract: with at most 48 periods the product fits 32 bits.
use native.Mathlib.Omega.{arith}
use Rattle.prices.specs.Prices.{base_part}
use Rattle.prices.proofs.Steps.{base_most}
use Rattle.prices.proofs.base_part.Goals as goal

pub overflow_mul-result : goal.overflow_mul-result
unfolding base_part
overflow_mul-result c =
    let a = c.args in
    let most = base_most a.area a.minutes.0 c.requires.0 c.requires.1 in
    omega (arith, rw (← c.started_periods.ensures.value) at most)

pub returns : goal.returns
unfolding base_part
returns c =
    record {
      value = rw c.started_periods.ensures.value;
      range = rw c.started_periods.ensures.value (base_most c.args.area c.args.minutes.0 c.requires.0 c.requires.1);
    }
