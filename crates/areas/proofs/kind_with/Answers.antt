-- `areas::kind_with` meets its contract: its one test is the definition's, and a record of kind 8 is there with all it has.
use native.Mathlib.Omega.{arith}
use mathlib.Core.Path.{◌≡◌, sym, ◌∙◌}
use borrow.Author.Tests.{eq-eqb, ne_eqb}
use Rattle.layout.specs.Layout.{aachen_kind, kind_at}
use Rattle.areas.specs.Areas.{kind_with}
use Rattle.layout.proofs.Places.{long_is}
use Rattle.areas.proofs.kind_with.Goals as goal

pub long_fields-g-requires : goal.long_fields-g-requires
long_fields-g-requires c =
    let is : kind_at c.args.b.now c.args.at ≡ aachen_kind = sym c.kind_at.ensures ∙ c.if-kind_at-eq-AACHEN_KIND.true in
    omega (arith, c.requires, long_is (kind_at c.args.b.now c.args.at) is)

pub returns-then-kind_at-eq-AACHEN_KIND : goal.returns-then-kind_at-eq-AACHEN_KIND
unfolding kind_with
returns-then-kind_at-eq-AACHEN_KIND c =
    let is = sym c.kind_at.ensures ∙ c.if-kind_at-eq-AACHEN_KIND.true in
    rw (
      eq-eqb (kind_at c.args.b.now c.args.at) aachen_kind is,
      c.town_of.ensures,
      c.child_ticket_of.ensures,
      c.long_fields-g.ensures,
    )

pub returns-else-kind_at-eq-AACHEN_KIND : goal.returns-else-kind_at-eq-AACHEN_KIND
unfolding kind_with
returns-else-kind_at-eq-AACHEN_KIND c = rw (ne_eqb (kind_at c.args.b.now c.args.at) aachen_kind (λ e. c.if-kind_at-eq-AACHEN_KIND.false (c.kind_at.ensures ∙ e)))
