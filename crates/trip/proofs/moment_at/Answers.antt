-- `trip::moment_at` meets its contract: a stamp's minute is the calendar's.
use mathlib.Core.Path.{sym, ap, ◌∙◌}
use Rattle.trip.specs.declared.Moment.TheVariants.{At}
use Rattle.trip.proofs.Stamps.{made_good, made_refused, moment_is, no_moment}
use Rattle.trip.proofs.moment_at.Goals as goal

pub minutes-requires : goal.minutes-requires
minutes-requires c = let (is, same) = made_good _ _ _ (sym c.stamp_at.ensures ∙ c.in-Good.is) in rw (← same) is

pub returns-in-Good : goal.returns-in-Good
returns-in-Good c =
    let (is, same) = made_good _ _ _ (sym c.stamp_at.ensures ∙ c.in-Good.is) in
    ap (λ x. At (record { 0 = x })) (c.minutes.ensures.value ∙ rw (← same)) ∙ sym (moment_is _ _ is)

pub returns-in-Refused : goal.returns-in-Refused
returns-in-Refused c = sym (no_moment _ _ (made_refused _ _ (sym c.stamp_at.ensures ∙ c.in-Refused.is)))
