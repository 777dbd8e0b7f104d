use Rattle.std.proofs.Common.{◌-◌}
use Rattle.ledger.specs.Words.{pairs}
use Rattle.ledger.proofs.GapLaws.{GapsSeen}
use Rattle.ledger.proofs.gaps.pairs_clear.Given as goal

abbrev pub invariant-loop-i : goal.invariant-loop-i
invariant-loop-i l = GapsSeen l.book l.seconds l.gaps l.i

abbrev pub decreases-loop-i : goal.decreases-loop-i
decreases-loop-i l = pairs - l.i
