-- `statement::writing::write_ride` meets its contract: the length that the party says and the ride's fields are the head of its record.
use native.Mathlib.Omega.{arith}
use Prim.Native.Nat.{◌-◌}
use mathlib.Core.Path.{◌≡◌}
use Rattle.statement.specs.Record.{long_with, persons_of, head_of}
use Rattle.statement.proofs.writing.write_ride.Goals as goal

pub returns : goal.returns
unfolding head_of
returns c =
    let party = c.args.ride.party in
    let size = c.record_size-long in
    let long : size.result - 2 ≡ long_with (persons_of party) party.bicycles = omega (arith, size.ensures) in
    rw long at c.put_head.ensures
