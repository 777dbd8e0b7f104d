-- `editions::openings::opens_at` meets its contract: the kind of a whole frame is compared.
use mathlib.Core.Path.{sym, ◌∙◌}
use Rattle.editions.proofs.OpeningLaws.{opens_broken, opens_whole}
use Rattle.editions.proofs.openings.opens_at.Goals as goal

pub returns-in-Broken : goal.returns-in-Broken
returns-in-Broken c = sym (opens_broken _ _ (sym c.frame_at.ensures ∙ c.in-Broken.is))

pub returns-in-Whole : goal.returns-in-Whole
returns-in-Whole c = sym (opens_whole _ _ _ _ (sym c.frame_at.ensures ∙ c.in-Whole.is))
