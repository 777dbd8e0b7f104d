-- `wire::put_one` meets its contract: a byte is its own rest by 256.
use Prim.Native.Nat.{◌%◌}
use native.Mathlib.Omega.{arith}
use mathlib.Core.Path.{◌≡◌}
use Rattle.wire.specs.Number.{put_le}
use Rattle.wire.proofs.put_one.Goals as goal

pub returns : goal.returns
unfolding put_le
returns c =
    let byte : c.args.v % 256 ≡ c.args.v = omega arith in
    rw byte
