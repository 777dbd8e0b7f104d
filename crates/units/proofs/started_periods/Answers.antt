-- `units::started_periods` meets its contract: 1 within the validity, and beyond it the rounded quotient.
use mathlib.Core.Path.{◌∙◌}
use Rattle.units.proofs.Rounding.{started, one_period_within, periods_beyond}
use Rattle.units.proofs.started_periods.Goals as goal

pub returns-then-duration-validity : goal.returns-then-duration-validity
returns-then-duration-validity c =
    let valid = c.requires in
    started _ _ 1 valid (one_period_within _ _ valid c.if-duration-validity.true)

pub returns : goal.returns
returns c =
    let valid = c.requires in
    started _ _ _ valid (c.divided_up.ensures ∙ periods_beyond _ _ valid c.if-duration-validity.false)
