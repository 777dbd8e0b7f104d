-- `accounts::settle_found` meets its contract: 18, 19, or what comes on the place.
use native.Mathlib.Omega.{arith}
use mathlib.Core.Path.{sym, ◌∙◌}
use lib.ListN.{length}
use Rattle.settle.proofs.Ways.{refusal_told}
use Rattle.page.proofs.Conditions.{present_there}
use Rattle.accounts.proofs.Effects.{under_wrong_page, under_absent, under_present}
use Rattle.accounts.proofs.settle_found.Goals as goal

pub account_of-requires : goal.account_of-requires
account_of-requires c = c.requires.1

pub settle_at-requires : goal.settle_at-requires
settle_at-requires c =
    let a = c.args in
    (c.requires.0, present_there a.first a.count a.page.now a.member c.requires.1 (sym c.account_of.ensures ∙ c.in-Present.is))

pub returns-in-WrongPage : goal.returns-in-WrongPage
returns-in-WrongPage c =
    let a = c.args in
    rw c.refuse.ensures
    (refusal_told _ _ _ _ 0 (under_wrong_page a.first a.count a.page.now a.member a.file.now a.trip.now (length a.statement.now) a.editions (sym c.account_of.ensures ∙ c.in-WrongPage.is)) (omega arith))

pub returns-in-Absent : goal.returns-in-Absent
returns-in-Absent c =
    let a = c.args in
    rw c.refuse-in-Absent.ensures
    (refusal_told _ _ _ _ 0 (under_absent a.first a.count a.page.now a.member a.file.now a.trip.now (length a.statement.now) a.editions (sym c.account_of.ensures ∙ c.in-Absent.is)) (omega arith))

pub returns-in-Present : goal.returns-in-Present
returns-in-Present c =
    let a = c.args in
    rw (under_present a.first a.count a.page.now a.member a.file.now a.trip.now (length a.statement.now) a.editions _ (sym c.account_of.ensures ∙ c.in-Present.is)) c.settle_at.ensures
