-- `layout::fields::long_of` meets its contract: its one test is the definition's.
use native.Mathlib.Omega.{arith}
use mathlib.Core.Path.{sym}
use Rattle.layout.proofs.Places.{long_is, long_not}
use Rattle.layout.proofs.fields.long_of.Goals as goal

pub returns-then-kind-eq-AACHEN_KIND : goal.returns-then-kind-eq-AACHEN_KIND
returns-then-kind-eq-AACHEN_KIND c = (sym (long_is _ c.if-kind-eq-AACHEN_KIND.true), omega arith)

pub returns-else-kind-eq-AACHEN_KIND : goal.returns-else-kind-eq-AACHEN_KIND
returns-else-kind-eq-AACHEN_KIND c = (sym (long_not _ c.if-kind-eq-AACHEN_KIND.false), omega arith)
