-- The ride to the change, in the trip's duration.
use Rattle.fare.specs.Parts.{first_part}
use Rattle.fare.proofs.parts.first_part.Goals as goal

pub returns : goal.returns
unfolding first_part
returns c = rw (← c.duration.ensures.value) c.ride_between.ensures
