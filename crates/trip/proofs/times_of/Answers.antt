-- `trip::times_of` meets its contract: on one date by `times_on_date`, and else each way through its two moments is a way through `timesOf`.
use mathlib.Core.Path.{sym, ◌∙◌}
use Rattle.trip.proofs.Stamps.{no_checkin, no_checkout, two_moments}
use Rattle.trip.proofs.times_of.Goals as goal

pub times_on_date-requires : goal.times_on_date-requires
times_on_date-requires c = (c.requires, sym c.is_one_date.ensures ∙ c.if-is_one_date.true)

pub returns-then-is_one_date : goal.returns-then-is_one_date
returns-then-is_one_date c = c.times_on_date.ensures

pub returns-in_default : goal.returns-in_default
returns-in_default c = sym (no_checkin _ (sym c.moment_at.ensures ∙ c.in_default.is))

pub returns-in_default-moment_at : goal.returns-in_default-moment_at
returns-in_default-moment_at c = sym (no_checkout _ (sym c.moment_at-2.ensures ∙ c.in_default-moment_at.is))

pub returns : goal.returns
returns c =
    sym
    (two_moments _ _ _ (sym c.moment_at.ensures ∙ c.in-At.is)
    (sym c.moment_at-2.ensures ∙ c.in-At-moment_at.is))
