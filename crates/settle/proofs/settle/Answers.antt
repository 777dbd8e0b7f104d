-- `settle::settle` meets its contract: file and book are refused, or what comes on a book that is ready.
use mathlib.Core.Path.{sym, ◌∙◌}
use Rattle.settle.proofs.Ways.{faultless_way, refusal_told}
use Rattle.settle.proofs.Answers.{place-near, refused_settled}
use Rattle.deciding.proofs.Decisions.{ready_then}
use Rattle.settle.proofs.settle.Goals as goal

pub settle_next-requires : goal.settle_next-requires
settle_next-requires c = ready_then _ _ (sym c.readiness_of.ensures ∙ c.in-Ready.is)

pub returns-in-Refused : goal.returns-in-Refused
returns-in-Refused c =
    let is = sym c.readiness_of.ensures ∙ c.in-Refused.is in
    refusal_told _ _ _ _ _ (refused_settled _ _ is _ _) (place-near _ _ is)

pub returns-in-Ready : goal.returns-in-Ready
returns-in-Ready c =
    let ready = ready_then _ _ (sym c.readiness_of.ensures ∙ c.in-Ready.is) in
    rw (faultless_way _ _ _ _ _ ready.read) c.settle_next.ensures.told
