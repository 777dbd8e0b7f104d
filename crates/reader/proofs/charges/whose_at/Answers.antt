-- `reader::charges::whose_at` meets its contract: the kind decides which length must fit.
use native.Mathlib.Omega.{arith}
use mathlib.Core.Path.{sym, ap, ◌∙◌}
use Rattle.wire.proofs.Frames.{whole}
use Rattle.reader.specs.Reading.{kind4_fit}
use Rattle.reader.proofs.Places.{kind4_is, kind6_is, other_is}
use Rattle.reader.proofs.charges.whose_at.Goals as goal

pub overflow_add-long : goal.overflow_add-long
overflow_add-long c = let frame = whole _ _ _ _ c.requires in omega arith

pub bare_fit-requires : goal.bare_fit-requires
bare_fit-requires c = let frame = whole _ _ _ _ c.requires in omega arith

pub party_fit-requires : goal.party_fit-requires
party_fit-requires c =
    let frame = whole _ _ _ _ c.requires in
    (sym frame.length_is, (omega arith, omega arith))

pub returns-then-kind-eq-BARE_KIND : goal.returns-then-kind-eq-BARE_KIND
returns-then-kind-eq-BARE_KIND c =
    let frame = whole _ _ _ _ c.requires in
    c.bare_fit.ensures ∙ sym (kind4_is _ _ (sym frame.kind_is ∙ c.if-kind-eq-BARE_KIND.true) ∙ ap kind4_fit frame.length_is)

pub returns-then-kind-eq-KIND : goal.returns-then-kind-eq-KIND
returns-then-kind-eq-KIND c =
    let frame = whole _ _ _ _ c.requires in
    c.party_fit.ensures ∙ sym (kind6_is _ _ (sym frame.kind_is ∙ c.if-kind-eq-KIND.true))

pub returns-else-kind-eq-KIND : goal.returns-else-kind-eq-KIND
returns-else-kind-eq-KIND c =
    let frame = whole _ _ _ _ c.requires in
    sym (other_is _ _ (λ e. c.if-kind-eq-BARE_KIND.false (frame.kind_is ∙ e)) (λ e. c.if-kind-eq-KIND.false (frame.kind_is ∙ e)))
