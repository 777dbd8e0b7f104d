-- The kilometres between the stops as they were found.
use Rattle.fare.proofs.rides.km_between.Goals as goal

pub returns : goal.returns
returns c = rw (← c.stop_of-from.ensures.value, ← c.stop_of-to.ensures.value) c.kilometres.ensures
