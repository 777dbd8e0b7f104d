-- `fare::towns::between_in_town` meets its contract: the mark is that of the area of these stops.
use Rattle.fare.proofs.towns.between_in_town.Goals as goal

pub returns : goal.returns
returns c = rw (c.in_marked_town.ensures, c.area_of_stops-area.ensures.value)
