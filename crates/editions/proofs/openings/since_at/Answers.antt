-- `editions::openings::since_at` meets its contract: both tests are the definition's, on the date's fields as they stand.
use native.Mathlib.Omega.{arith}
use mathlib.Core.Path.{sym, ◌∙◌}
use Rattle.editions.proofs.OpeningLaws.{since_no_date, since_early, since_late}
use Rattle.editions.proofs.openings.since_at.Goals as goal

pub returns-then-not-is_date : goal.returns-then-not-is_date
returns-then-not-is_date c = sym (since_no_date _ _ _ _ _ _ c.two_at-year.ensures.value c.one_at-month.ensures.value c.one_at-day.ensures.value (sym c.is_date.ensures ∙ c.if-not-is_date.true))

pub first_minute-since-requires : goal.first_minute-since-requires
first_minute-since-requires c = sym c.is_date.ensures ∙ c.if-not-is_date.false

pub returns-then-since-least : goal.returns-then-since-least
returns-then-since-least c = sym (since_early _ _ _ _ _ _ c.two_at-year.ensures.value c.one_at-month.ensures.value c.one_at-day.ensures.value (sym c.is_date.ensures ∙ c.if-not-is_date.false) _ c.first_minute-since.ensures.0 c.if-since-least.true)

pub returns : goal.returns
returns c = sym (since_late _ _ _ _ _ _ c.two_at-year.ensures.value c.one_at-month.ensures.value c.one_at-day.ensures.value (sym c.is_date.ensures ∙ c.if-not-is_date.false) _ c.first_minute-since.ensures.0 (omega (arith, c.if-since-least.false)))
