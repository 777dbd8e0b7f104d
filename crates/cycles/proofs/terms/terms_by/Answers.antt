-- `cycles::terms::terms_by` meets its contract: the known ones are those of the area, or it is read.
use Rattle.cycles.proofs.terms.terms_by.Goals as goal

pub terms_of-requires : goal.terms_of-requires
terms_of-requires c = let p = c.requires in (p.0, p.1.1)

pub returns-then-area-at : goal.returns-then-area-at
returns-then-area-at c = rw c.if-area-at.true c.requires.1.0

pub returns-else-area-at : goal.returns-else-area-at
returns-else-area-at c = c.terms_of.ensures
