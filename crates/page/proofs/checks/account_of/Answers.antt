-- `page::checks::account_of` meets its contract: 18, or by where the number is found.
use mathlib.Core.Path.{sym, ◌∙◌}
use Rattle.page.proofs.Conditions.{wrong_way, absent_way, present_way, right_looked}
use Rattle.page.proofs.checks.account_of.Goals as goal

pub returns-then-not-page_right : goal.returns-then-not-page_right
returns-then-not-page_right c =
    let a = c.args in
    sym (wrong_way a.first a.count a.page.now a.member (sym c.page_right.ensures ∙ c.if-not-page_right.true))

pub lowest_with-requires : goal.lowest_with-requires
lowest_with-requires c =
    let a = c.args in
    right_looked a.first a.count a.page.now a.member (sym c.page_right.ensures ∙ c.if-not-page_right.false) c.requires

pub returns-in-Nowhere : goal.returns-in-Nowhere
returns-in-Nowhere c =
    let a = c.args in
    sym
    (absent_way a.first a.count a.page.now a.member (sym c.page_right.ensures ∙ c.if-not-page_right.false)
    (sym c.lowest_with.ensures ∙ c.in-Nowhere.is))

pub returns-in-At : goal.returns-in-At
returns-in-At c =
    let a = c.args in
    sym
    (present_way a.first a.count a.page.now a.member (sym c.page_right.ensures ∙ c.if-not-page_right.false)
    (sym c.lowest_with.ensures ∙ c.in-At.is))
