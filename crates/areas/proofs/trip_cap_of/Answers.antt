-- `areas::trip_cap_of` meets its contract: it hands on what the definition does.
use Rattle.areas.specs.Areas.{trip_cap_of}
use Rattle.areas.proofs.trip_cap_of.Goals as goal

pub returns : goal.returns
unfolding trip_cap_of
returns c = c.cap_of.ensures
