-- `layout::rules::rest_right` meets its contract: its one test is the definition's, and a record of kind 8 is there with all it has.
use native.Mathlib.Omega.{arith}
use borrow.Author.Tests.{eq-eqb, ne_eqb}
use Rattle.layout.proofs.Places.{long_is}
use Rattle.layout.proofs.rules.rest_right.Goals as goal

pub long_fields-requires : goal.long_fields-requires
long_fields-requires c = omega (arith, c.requires, long_is c.args.kind c.if-kind-eq-AACHEN_KIND.true)

pub returns-then-kind-eq-AACHEN_KIND : goal.returns-then-kind-eq-AACHEN_KIND
returns-then-kind-eq-AACHEN_KIND c = rw (eq-eqb _ 8 c.if-kind-eq-AACHEN_KIND.true, c.long_right.ensures, c.long_fields.ensures)

pub returns-else-kind-eq-AACHEN_KIND : goal.returns-else-kind-eq-AACHEN_KIND
returns-else-kind-eq-AACHEN_KIND c = rw (ne_eqb _ 8 c.if-kind-eq-AACHEN_KIND.false)
