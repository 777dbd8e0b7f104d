use Rattle.std.proofs.Common.{◌≡◌, ◌-◌, ◌≤◌}
use Rattle.wire.specs.Each.{each}
use Rattle.ledger.specs.Words.{pairs}
use Rattle.ledger.proofs.SoundLaws.{pair_right}
use Rattle.ledger.proofs.sound.pairs_sound.Given as goal

abbrev pub invariant-loop-i : goal.invariant-loop-i
invariant-loop-i l = (l.i ≤ pairs) × (l.right ≡ each l.i (pair_right l.book l.most))

abbrev pub decreases-loop-i : goal.decreases-loop-i
decreases-loop-i l = pairs - l.i
