-- Both gaps lie on the plane, so their squares do not pass twice the plane's.
use native.Mathlib.Omega.{arith}
use Rattle.fare.specs.Distance.{apart}
use Rattle.fare.proofs.Distance.{across}
use Rattle.fare.proofs.rides.squared_between.Goals as goal

pub overflow_mul-result : goal.overflow_mul-result
overflow_mul-result c = omega (arith, across c.gap_between-east.result c.gap_between-north.result (omega arith) (omega arith))

pub overflow_mul-result-2 : goal.overflow_mul-result-2
overflow_mul-result-2 c = omega (arith, across c.gap_between-east.result c.gap_between-north.result (omega arith) (omega arith))

pub overflow_add-result : goal.overflow_add-result
overflow_add-result c = omega (arith, across c.gap_between-east.result c.gap_between-north.result (omega arith) (omega arith))

pub returns : goal.returns
unfolding apart
returns c =
    record {
      value = rw (← c.gap_between-east.ensures, ← c.gap_between-north.ensures);
      range = across c.gap_between-east.result c.gap_between-north.result (omega arith) (omega arith);
    }
