-- `vectors::read_input` is safe and ends: the room keeps its length, and the measure is the bytes that are left to fill.
use Prim.Native.Nat.{◌≤◌, ◌-◌}
use mathlib.Core.Path.{◌≡◌}
use lib.ListN.{length}
use Rattle.vectors.proofs.read_input.Given as goal

abbrev pub invariant-loop-end : goal.invariant-loop-end
invariant-loop-end g l = (l.end ≤ length l.room) × (length l.room ≡ length l.initial.room)

abbrev pub decreases-loop-end : goal.decreases-loop-end
decreases-loop-end g l = length l.room - l.end
