-- `reader::fields::put_ride` meets its contract: four numbers of 1, 2, 2 and 4 bytes.
use Rattle.reader.proofs.Filled.{ride_put}
use Rattle.reader.proofs.fields.put_ride.Goals as goal

pub returns : goal.returns
returns c = rw (c.put_four.ensures, c.put_two-2.ensures, c.put_two.ensures, c.put_one.ensures) (ride_put _ _)
