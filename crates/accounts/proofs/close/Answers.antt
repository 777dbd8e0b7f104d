-- `accounts::close` meets its contract: what was found decides, and what is written is the new page.
use mathlib.Core.Path.{sym, ◌∙◌}
use Rattle.page.proofs.Conditions.{present_there}
use Rattle.accounts.proofs.Effects.{closes_wrong_page, closes_absent, closes_there}
use Rattle.accounts.proofs.Placing.{refusal_told, written_told}
use Rattle.accounts.proofs.close.Goals as goal

pub clear_place-requires : goal.clear_place-requires
clear_place-requires c =
    let a = c.args in
    present_there a.first a.count a.page.now a.member c.requires (sym c.account_of.ensures ∙ c.in-Present.is)

pub returns-in-WrongPage : goal.returns-in-WrongPage
returns-in-WrongPage c =
    let a = c.args in
    refusal_told (closes_wrong_page a.first a.count a.page.now a.member (sym c.account_of.ensures ∙ c.in-WrongPage.is)) c.refuse.ensures

pub returns-in-Absent : goal.returns-in-Absent
returns-in-Absent c =
    let a = c.args in
    refusal_told (closes_absent a.first a.count a.page.now a.member (sym c.account_of.ensures ∙ c.in-Absent.is)) c.refuse-in-Absent.ensures

pub returns-in-Present : goal.returns-in-Present
returns-in-Present c =
    let a = c.args in
    written_told (closes_there a.first a.count a.page.now a.member _ (sym c.account_of.ensures ∙ c.in-Present.is)) c.clear_place.ensures
