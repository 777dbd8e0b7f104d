use Rattle.std.proofs.Common.{◌≡◌, ◌-◌, ◌≤◌}
use Rattle.wire.specs.Each.{each}
use Rattle.ledger.proofs.SoundLaws.{cover_right}
use Rattle.ledger.proofs.sound.covers_within.Given as goal

abbrev pub invariant-loop-i : goal.invariant-loop-i
invariant-loop-i l = (l.i ≤ 10) × (l.right ≡ each l.i (cover_right l.book l.areas))

abbrev pub decreases-loop-i : goal.decreases-loop-i
decreases-loop-i l = 10 - l.i
