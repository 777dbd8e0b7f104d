-- The record of an area of a faultless tariff is there; where it is of kind 8, its town mark is.
use Prim.Native.Nat.{ℕ}
use native.Mathlib.Omega.{arith}
use mathlib.Core.Path.{◌≡◌, sym, ap, ◌∙◌}
use borrow.Author.Tests.{eq-eqb, ne_eqb}
use Rattle.layout.specs.Clauses.{AreaThere}
use Rattle.layout.specs.Layout.{aachen_kind, kind_at}
use Rattle.layout.specs.Rules.{kind_of}
use Rattle.areas.specs.Areas.{town_at}
use Rattle.areas.proofs.Faultless.{area_there}
use Rattle.layout.proofs.Places.{long_is}
use Rattle.areas.proofs.town.Goals as goal

pub area_place-at-requires : goal.area_place-at-requires
area_place-at-requires c =
    let there : AreaThere c.args.tariff.now c.args.counts c.args.number = area_there c.args.tariff.now c.args.counts c.args.number c.requires in
    there

pub kind_at-requires : goal.kind_at-requires
kind_at-requires c =
    let there : AreaThere c.args.tariff.now c.args.counts c.args.number = area_there c.args.tariff.now c.args.counts c.args.number c.requires in
    omega (arith, c.area_place-at.ensures, there.inside)

pub town_at-requires : goal.town_at-requires
town_at-requires c =
    let there : AreaThere c.args.tariff.now c.args.counts c.args.number = area_there c.args.tariff.now c.args.counts c.args.number c.requires in
    let own : ℕ = kind_of c.args.tariff.now c.args.number in
    let kind : c.kind_at.result ≡ own = c.kind_at.ensures ∙ ap (kind_at c.args.tariff.now) c.area_place-at.ensures in
    let long = long_is (own) (sym kind ∙ c.if-kind_at-eq-AACHEN_KIND.true) in
    omega (arith, c.area_place-at.ensures, there.inside, long)

pub returns-then-kind_at-eq-AACHEN_KIND : goal.returns-then-kind_at-eq-AACHEN_KIND
unfolding town_at
returns-then-kind_at-eq-AACHEN_KIND c =
    let own : ℕ = kind_of c.args.tariff.now c.args.number in
    let kind : c.kind_at.result ≡ own = c.kind_at.ensures ∙ ap (kind_at c.args.tariff.now) c.area_place-at.ensures in
    let is = sym kind ∙ c.if-kind_at-eq-AACHEN_KIND.true in
    rw (
      eq-eqb own aachen_kind is,
      c.town_of.ensures,
      c.town_at.ensures,
      c.area_place-at.ensures,
    )

pub returns-else-kind_at-eq-AACHEN_KIND : goal.returns-else-kind_at-eq-AACHEN_KIND
unfolding town_at
returns-else-kind_at-eq-AACHEN_KIND c =
    let own : ℕ = kind_of c.args.tariff.now c.args.number in
    let kind : c.kind_at.result ≡ own = c.kind_at.ensures ∙ ap (kind_at c.args.tariff.now) c.area_place-at.ensures in
    rw (ne_eqb own aachen_kind (λ e. c.if-kind_at-eq-AACHEN_KIND.false (kind ∙ e)))
