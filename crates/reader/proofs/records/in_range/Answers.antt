-- `reader::records::in_range` meets its contract: 16, by what stands before the charges or by one of them; or the record.
use native.Mathlib.Nat.{le_of_eq}
use mathlib.Core.Path.{sym, ◌∙◌}
use mathlib.Core.Bool.{true, false}
use Rattle.reader.proofs.Accepted.{fitted_head, fitted_readable, wrong_front, wrong_amounts, right_all, front_tested, whose_tested}
use Rattle.reader.proofs.records.in_range.Goals as goal

pub head_at-head-requires : goal.head_at-head-requires
head_at-head-requires c = fitted_head c.requires

pub returns-then-not-head_right-whose_right : goal.returns-then-not-head_right-whose_right
returns-then-not-head_right-whose_right c =
    wrong_front _ _ c.args.whose _
    (front_tested _ _ c.args.whose false c.head_at-head.ensures c.head_right.ensures c.whose_right.ensures
    (c.if-not-head_right-whose_right.true))

pub amounts_right-requires : goal.amounts_right-requires
amounts_right-requires c =
    let front =
    front_tested _ _ c.args.whose true c.head_at-head.ensures c.head_right.ensures c.whose_right.ensures
    (c.if-not-head_right-whose_right.false)
    in
    (fitted_readable c.requires (whose_tested _ _ c.args.whose front), le_of_eq c.charges_of.ensures)

pub returns-then-not-amounts_right : goal.returns-then-not-amounts_right
returns-then-not-amounts_right c =
    wrong_amounts _ _ c.args.whose _
    (front_tested _ _ c.args.whose true c.head_at-head.ensures c.head_right.ensures c.whose_right.ensures
    (c.if-not-head_right-whose_right.false))
    (rw (← c.charges_of.ensures) (sym c.amounts_right.ensures ∙ c.if-not-amounts_right.true))

pub returns : goal.returns
returns c =
    rw c.head_at-head.ensures
    (right_all _ _ c.args.whose _
    (front_tested _ _ c.args.whose true c.head_at-head.ensures c.head_right.ensures c.whose_right.ensures
    (c.if-not-head_right-whose_right.false))
    (rw (← c.charges_of.ensures) (sym c.amounts_right.ensures ∙ c.if-not-amounts_right.false)))
