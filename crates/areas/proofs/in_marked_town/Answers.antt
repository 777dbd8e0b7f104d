-- `areas::in_marked_town` meets its contract: the mark is that of the area's town.
use Rattle.areas.specs.Areas.{in_marked_town}
use Rattle.areas.proofs.in_marked_town.Goals as goal

pub returns : goal.returns
unfolding in_marked_town
returns c = rw (c.marked.ensures, c.town.ensures)
