-- `wire::two_at` meets its contract: each byte is below 256, so the sum of the two has their number's value and range.
use native.Mathlib.Omega.{arith}
use Rattle.wire.specs.Number.{get_le}
use Rattle.wire.proofs.two_at.Goals as goal

pub returns : goal.returns
unfolding get_le
returns c = record { value = omega arith; range = omega arith }
