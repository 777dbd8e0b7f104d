use Prim.Native.Nat.{◌-◌, ◌≤◌}
use mathlib.Core.Path.{◌≡◌}
use lib.ListN.{length}
use Rattle.wire.specs.Each.{each}
use Rattle.settle.proofs.Postings.{byte_same}
use Rattle.settle.proofs.quotes.same_bytes.Given as goal

abbrev pub invariant-loop-i : goal.invariant-loop-i
invariant-loop-i l = (l.i ≤ l.i-end) × ((l.i-end ≡ length l.other) × ((length l.bytes ≡ length l.other) × (l.same ≡ each l.i (byte_same l.bytes l.other))))

abbrev pub decreases-loop-i : goal.decreases-loop-i
decreases-loop-i l = l.i-end - l.i
