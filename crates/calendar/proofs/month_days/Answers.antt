-- `calendar::month_days` meets its contract: each arm of the match is a case of the definition.
use mathlib.Core.Logic.{inl, inr, ⊎_elim}
use borrow.Author.Tests.{ne_eqb}
use Rattle.calendar.specs.Days.{month_days}
use Rattle.calendar.proofs.month_days.Goals as goal

pub returns-then-leap_year : goal.returns-then-leap_year
unfolding month_days
returns-then-leap_year c = rw (c.in-2.is, c.if-leap_year.true)

pub returns-else-leap_year : goal.returns-else-leap_year
unfolding month_days
returns-else-leap_year c = rw (c.in-2.is, c.if-leap_year.false)

pub returns-in-4 : goal.returns-in-4
unfolding month_days
returns-in-4 c = ⊎_elim (λ e. rw e) (⊎_elim (λ e. rw e) (⊎_elim (λ e. rw e) (λ e. rw e))) c.in-4.is

pub returns-in_default : goal.returns-in_default
unfolding month_days
returns-in_default c =
    let month = c.args.month in
    let none = c.in_default.in_default-own.rest in
    let not-thirty = none.1 in
    rw (
      ne_eqb month 2 none.0.1,
      ne_eqb month 4 (λ e. not-thirty (inl e)),
      ne_eqb month 6 (λ e. not-thirty (inr (inl e))),
      ne_eqb month 9 (λ e. not-thirty (inr (inr (inl e)))),
      ne_eqb month 11 (λ e. not-thirty (inr (inr (inr e)))),
    )
