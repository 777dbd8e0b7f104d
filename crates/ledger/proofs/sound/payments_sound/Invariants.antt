use Rattle.std.proofs.Common.{◌≡◌, ◌-◌, ◌≤◌}
use Rattle.wire.specs.Each.{each}
use Rattle.ledger.proofs.SoundLaws.{paid_right}
use Rattle.ledger.proofs.sound.payments_sound.Given as goal

abbrev pub invariant-loop-i : goal.invariant-loop-i
invariant-loop-i l = (l.i ≤ 10) × (l.right ≡ each l.i (paid_right l.book))

abbrev pub decreases-loop-i : goal.decreases-loop-i
decreases-loop-i l = 10 - l.i
