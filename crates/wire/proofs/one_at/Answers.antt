-- `wire::one_at` meets its contract: the byte at the place is the number of one byte there.
use native.Mathlib.Omega.{arith}
use Rattle.wire.specs.Number.{get_le}
use Rattle.wire.proofs.one_at.Goals as goal

pub returns : goal.returns
unfolding get_le
returns c =
    let byte = c.type_inv.b c.args.at in
    record { value = omega arith; range = omega arith }
