-- The parent and the level as the tariff has them. A parent's level is one less, and the parent's parent is the state, so the areas are different
-- ones.
use Rattle.areas.proofs.Faultless.{faultless}
use Rattle.posting.proofs.PostTurns.{way_found}
use Rattle.posting.proofs.way_of.Goals as goal

pub returns : goal.returns
returns c =
    let p = c.requires in
    way_found (faultless _ _ p.0) p.1 c.parent.ensures.value c.level.ensures
