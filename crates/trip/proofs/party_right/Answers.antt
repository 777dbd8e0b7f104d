-- `trip::party_right` meets its contract: its tests are the definition's, in its order.
use Rattle.trip.specs.Trips.{party_right}
use Rattle.trip.proofs.party_right.Goals as goal

pub returns : goal.returns
unfolding party_right
returns c = rw (← c.is_level.ensures)
