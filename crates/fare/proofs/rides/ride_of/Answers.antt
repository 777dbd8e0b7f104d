-- The ride between the first stop and the last, in the trip's duration.
use Rattle.fare.specs.Rides.{ride_of}
use Rattle.fare.proofs.rides.ride_of.Goals as goal

pub returns : goal.returns
unfolding ride_of
returns c = rw (← c.duration.ensures.value) c.ride_between.ensures
