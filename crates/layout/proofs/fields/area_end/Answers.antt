-- `layout::fields::area_end` meets its contract: the record is as long as its kind says.
use native.Mathlib.Omega.{arith}
use mathlib.Core.Path.{ap}
use Rattle.layout.specs.Layout.{long_of}
use Rattle.layout.proofs.fields.area_end.Goals as goal

pub overflow_mul-result : goal.overflow_mul-result
overflow_mul-result c = omega (arith, c.long_of.ensures)

pub overflow_add-result-2 : goal.overflow_add-result-2
overflow_add-result-2 c = omega (arith, c.long_of.ensures, ap long_of c.kind_at.ensures)

pub returns : goal.returns
returns c = omega (arith, c.long_of.ensures, ap long_of c.kind_at.ensures)
