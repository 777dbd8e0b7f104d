-- The trip's stop has a number that the tariff has, so the stop found there has its ranges.
use Rattle.fare.specs.Rides.{stop_of}
use Rattle.fare.proofs.Stops.{stop_known, stop_there}
use Rattle.fare.proofs.rides.stop_of.Goals as goal

pub stop-requires : goal.stop-requires
stop-requires c = (c.requires.0.read, rw c.stop_number.ensures.value (stop_known c.requires.0 _ c.requires.1))

pub returns : goal.returns
unfolding stop_of
returns c = rw (c.stop.ensures, c.stop_number.ensures.value) (stop_there c.requires.0 c.args.i c.requires.1)
