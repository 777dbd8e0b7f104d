-- `ceiling::settle_month` meets its contract: 24, the file's fault, or what comes under a faultless file.
use native.Mathlib.Omega.{arith}
use mathlib.Core.Path.{sym, ◌∙◌}
use lib.ListN.{length}
use Rattle.editions.proofs.Cases.{file_fault_most}
use Rattle.ceiling.proofs.Kept.{collectable}
use Rattle.ceiling.proofs.Outcomes.{wrong_way, fault_month, read_month, month_refused}
use Rattle.ceiling.proofs.settle_month.Goals as goal

pub returns-then-is_uncollectable : goal.returns-then-is_uncollectable
returns-then-is_uncollectable c =
    let a = c.args in
    month_refused (wrong_way a.ceiling a.kept.now a.file.now a.book.now a.trip.now (length a.statement.now) (length a.due.now) (sym c.is_uncollectable.ensures ∙ c.if-is_uncollectable.true)) (omega arith)

pub settle_within-requires : goal.settle_within-requires
settle_within-requires c = (
  collectable _ _ (sym c.is_uncollectable.ensures ∙ c.if-is_uncollectable.false),
  sym c.read_file.ensures ∙ c.in-Faultless.is,
)

pub returns-in-Fault : goal.returns-in-Fault
returns-in-Fault c =
    let a = c.args in
    let ok = sym c.is_uncollectable.ensures ∙ c.if-is_uncollectable.false in
    let fault = sym c.read_file.ensures ∙ c.in-Fault.is in
    month_refused (fault_month a.ceiling a.kept.now a.file.now a.book.now a.trip.now (length a.statement.now) (length a.due.now) ok fault) (omega (arith, (file_fault_most _ _ _ fault).1))

pub returns-in-Faultless : goal.returns-in-Faultless
returns-in-Faultless c =
    let a = c.args in
    let ok = sym c.is_uncollectable.ensures ∙ c.if-is_uncollectable.false in
    let read = sym c.read_file.ensures ∙ c.in-Faultless.is in
    rw (read_month a.ceiling a.kept.now a.file.now a.book.now a.trip.now (length a.statement.now) (length a.due.now) ok _ read) c.settle_within.ensures
