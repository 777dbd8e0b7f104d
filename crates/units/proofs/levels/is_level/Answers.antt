-- `units::levels::is_level` meets its contract: the levels that `level_cap` answers are 0 to 5.
use mathlib.Core.Path.{sym, ap, ◌∙◌}
use Rattle.units.proofs.LevelCaps.{answered, answered_levels}
use Rattle.units.proofs.levels.is_level.Goals as goal

pub returns-in-Refused : goal.returns-in-Refused
returns-in-Refused c = ap answered (sym c.in-Refused.is ∙ c.level_cap.ensures) ∙ answered_levels _ _ _ _ _ _

pub returns-in-NoCap : goal.returns-in-NoCap
returns-in-NoCap c = ap answered (sym c.in-NoCap.is ∙ c.level_cap.ensures) ∙ answered_levels _ _ _ _ _ _

pub returns-in-UpTo : goal.returns-in-UpTo
returns-in-UpTo c = ap answered (sym c.in-UpTo.is ∙ c.level_cap.ensures) ∙ answered_levels _ _ _ _ _ _
