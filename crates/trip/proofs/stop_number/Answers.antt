-- `trip::stop_number` meets its contract: the two bytes of a stop stand behind the fixed part and the stops before it.
use Rattle.trip.specs.Record.{stop_number}
use Rattle.trip.proofs.stop_number.Goals as goal

pub returns : goal.returns
unfolding stop_number
returns c = record { value = c.two_at.ensures.value; range = c.two_at.ensures.range }
