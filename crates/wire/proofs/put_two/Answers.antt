-- `wire::put_two` meets its contract: it stores as the definition does, one byte after the other, and a store keeps the length.
use native.Mathlib.Omega.{arith}
use mathlib.Core.Path.{refl}
use lib.ListN.{length-set}
use Rattle.wire.specs.Number.{put_le}
use Rattle.wire.proofs.put_two.Goals as goal

pub bounds-b-at1 : goal.bounds-b-at1
bounds-b-at1 c = simp length-set (omega arith)

pub returns : goal.returns
unfolding put_le
returns c = refl
