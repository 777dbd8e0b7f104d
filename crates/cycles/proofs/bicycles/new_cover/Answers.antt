-- `cycles::bicycles::new_cover` meets its contract: an unused bicycle is covered by the ride's area, any other by the smallest area
-- that contains that and the old covering area.
use Rattle.cycles.proofs.BicycleLaws.{cover_first, cover_own, cover_more}
use Rattle.cycles.proofs.bicycles.new_cover.Goals as goal

pub returns-then-old-eq0 : goal.returns-then-old-eq0
returns-then-old-eq0 c = let p = c.requires in cover_first _ _ _ p.0 p.1.0 _ c.if-old-eq0.true

pub returns-then-old-at : goal.returns-then-old-at
returns-then-old-at c = let p = c.requires in cover_own _ _ _ p.0 p.1.0 _ c.if-old-eq0.false c.if-old-at.true

pub returns-else-old-at : goal.returns-else-old-at
returns-else-old-at c = let p = c.requires in cover_more _ _ _ p.0 p.1.0 _ _ c.if-old-eq0.false c.smallest_containing.ensures
