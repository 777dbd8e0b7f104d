-- The smallest area of the stops from the one to the other, and the kilometres between the two.
use Rattle.fare.proofs.Stops.{ride}
use Rattle.fare.proofs.rides.ride_between.Goals as goal

pub returns : goal.returns
returns c =
    rw c.ride_on.ensures
    (ride _ _ _ c.args.trip _ _ _ _ _ c.requires.1.1.1 c.area_between-area.ensures c.km_between-km.ensures)
