-- `ceiling::month_of` meets its contract: the check-in's stamp is right, and its minute tells the month.
use native.Mathlib.Omega.{arith}
use mathlib.Core.Path.{sym, ◌∙◌}
use Rattle.ceiling.proofs.Months.{moment_most, month_right, has_moment}
use Rattle.ceiling.proofs.month_of.Goals as goal

pub moment_at-requires : goal.moment_at-requires
moment_at-requires c = omega (arith, c.requires.long)

pub returns-in_default : goal.returns-in_default
returns-in_default c =
    absurd
    (has_moment _ c.requires.stamps (sym c.moment_at.ensures ∙ c.in_default.is))

pub month_at-requires : goal.month_at-requires
month_at-requires c = moment_most _ _ (sym c.moment_at.ensures ∙ c.in-At.is)

pub returns : goal.returns
returns c =
    month_right c.args.trip.now
    (sym c.moment_at.ensures ∙ c.in-At.is) c.month_at.ensures
