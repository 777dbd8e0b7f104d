-- `settle::quotes::post_quote` meets its contract: file and book are refused, or what comes on a book that is ready.
use mathlib.Core.Path.{sym, ◌∙◌}
use Rattle.settle.proofs.Postings.{faultless_posting, posting_refusal_told}
use Rattle.settle.proofs.Answers.{place-near, refused-posting}
use Rattle.deciding.proofs.Decisions.{ready_then}
use Rattle.settle.proofs.quotes.post_quote.Goals as goal

pub post_next-requires : goal.post_next-requires
post_next-requires c = ready_then _ _ (sym c.readiness_of.ensures ∙ c.in-Ready.is)

pub returns-in-Refused : goal.returns-in-Refused
returns-in-Refused c =
    let is = sym c.readiness_of.ensures ∙ c.in-Refused.is in
    posting_refusal_told _ _ _ _ (refused-posting _ _ is _ _) (place-near _ _ is)

pub returns-in-Ready : goal.returns-in-Ready
returns-in-Ready c =
    let ready = ready_then _ _ (sym c.readiness_of.ensures ∙ c.in-Ready.is) in
    rw (faultless_posting _ _ _ _ _ ready.read) c.post_next.ensures
