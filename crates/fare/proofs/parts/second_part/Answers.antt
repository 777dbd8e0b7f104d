-- The ride from the change on, in 0 minutes.
use Rattle.fare.specs.Parts.{second_part}
use Rattle.fare.proofs.parts.second_part.Goals as goal

pub returns : goal.returns
unfolding second_part
returns c = c.ride_between.ensures
