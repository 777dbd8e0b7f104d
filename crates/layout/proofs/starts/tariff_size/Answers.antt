-- `layout::starts::tariff_size` meets its contract: at most 32 binary digits are ones, and the sum is the definition's.
use native.Mathlib.Omega.{arith}
use lib.Count.{ones-le}
use Rattle.layout.proofs.starts.tariff_size.Goals as goal

pub overflow_cast-result-2 : goal.overflow_cast-result-2
overflow_cast-result-2 c = omega (arith, ones-le 32 c.args.counts.longs (omega arith))

pub overflow_mul-result-2 : goal.overflow_mul-result-2
overflow_mul-result-2 c = omega (arith, ones-le 32 c.args.counts.longs (omega arith))

pub overflow_add-result : goal.overflow_add-result
overflow_add-result c = omega (arith, ones-le 32 c.args.counts.longs (omega arith))

pub overflow_add-result-2 : goal.overflow_add-result-2
overflow_add-result-2 c = omega (arith, ones-le 32 c.args.counts.longs (omega arith))

pub overflow_add-result-3 : goal.overflow_add-result-3
overflow_add-result-3 c = omega (arith, ones-le 32 c.args.counts.longs (omega arith))
