-- `editions::openings::opening_at` meets its contract: each way is one of the definition's.
use native.Mathlib.Omega.{arith}
use mathlib.Core.Path.{◌≡◌, sym, ◌∙◌}
use lib.Dec.{eqb}
use borrow.Author.Tests.{eqb-true}
use Rattle.wire.proofs.Frames.{whole}
use Rattle.wire.proofs.Tests.{both_right}
use Rattle.editions.specs.Openings.{edition_kind, opening_body}
use Rattle.editions.proofs.OpeningLaws.{opening_end, opening_broken, opening_whole}
use Rattle.editions.proofs.openings.opening_at.Goals as goal

pub returns-then-file-at : goal.returns-then-file-at
returns-then-file-at c = sym (opening_end _ _ _ c.if-file-at.true)

pub since_at-requires : goal.since_at-requires
since_at-requires c =
    let facts = whole _ _ _ _ (sym c.frame_at.ensures ∙ c.in-Whole.is) in
    let four : c.in-Whole.body ≡ opening_body = eqb-true _ _ (both_right (eqb c.in-Whole.kind edition_kind) _ c.if-kind-body.true) in
    omega arith

pub returns-in-Broken : goal.returns-in-Broken
returns-in-Broken c = sym (opening_broken _ _ _ (omega (arith, c.if-file-at.false)) (sym c.frame_at.ensures ∙ c.in-Broken.is))

pub returns-then-kind-body : goal.returns-then-kind-body
returns-then-kind-body c = c.since_at.ensures ∙ sym (opening_whole _ _ _ _ _ (sym c.frame_at.ensures ∙ c.in-Whole.is) c.if-kind-body.true)

pub returns-else-kind-body : goal.returns-else-kind-body
returns-else-kind-body c = sym (opening_whole _ _ _ _ _ (sym c.frame_at.ensures ∙ c.in-Whole.is) c.if-kind-body.false)
