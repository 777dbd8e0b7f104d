-- `accounts::add` meets its contract: what was found decides, and what is written is the new page.
use mathlib.Core.Path.{sym, ◌∙◌}
use Rattle.page.proofs.Conditions.{absent_looked, found_on_page}
use Rattle.accounts.proofs.Effects.{adds_wrong_page, adds_present, adds_nowhere, adds_there}
use Rattle.accounts.proofs.Placing.{refusal_told, written_told}
use Rattle.accounts.proofs.add.Goals as goal

pub lowest_with-requires : goal.lowest_with-requires
lowest_with-requires c =
    let a = c.args in
    absent_looked a.first a.count a.page.now a.member c.requires (sym c.account_of.ensures ∙ c.in-Absent.is)

pub fill_place-requires : goal.fill_place-requires
fill_place-requires c =
    let a = c.args in
    found_on_page 0 (absent_looked a.first a.count a.page.now a.member c.requires (sym c.account_of.ensures ∙ c.in-Absent.is))
    (sym c.lowest_with.ensures ∙ c.in-At.is)

pub returns-in-WrongPage : goal.returns-in-WrongPage
returns-in-WrongPage c =
    let a = c.args in
    refusal_told (adds_wrong_page a.first a.count a.page.now a.member (sym c.account_of.ensures ∙ c.in-WrongPage.is)) c.refuse.ensures

pub returns-in-Present : goal.returns-in-Present
returns-in-Present c =
    let a = c.args in
    refusal_told (adds_present a.first a.count a.page.now a.member (sym c.account_of.ensures ∙ c.in-Present.is)) c.refuse-in-Present.ensures

pub returns-in-Nowhere : goal.returns-in-Nowhere
returns-in-Nowhere c =
    let a = c.args in
    refusal_told
    (adds_nowhere a.first a.count a.page.now a.member (sym c.account_of.ensures ∙ c.in-Absent.is)
    (sym c.lowest_with.ensures ∙ c.in-Nowhere.is))
    c.refuse-in-Nowhere.ensures

pub returns-in-At : goal.returns-in-At
returns-in-At c =
    let a = c.args in
    written_told
    (adds_there a.first a.count a.page.now a.member _ (sym c.account_of.ensures ∙ c.in-Absent.is)
    (sym c.lowest_with.ensures ∙ c.in-At.is))
    c.fill_place.ensures
