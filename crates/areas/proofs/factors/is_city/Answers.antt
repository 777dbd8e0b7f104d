-- `areas::factors::is_city` meets its contract: it compares the level, as the definition does.
use Rattle.areas.proofs.factors.is_city.Goals as goal

pub returns : goal.returns
returns c = rw c.level.ensures
