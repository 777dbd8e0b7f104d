use Rattle.std.proofs.Common.{◌-◌}
use Rattle.scan.proofs.BlockLaws.{Joining}
use Rattle.scan.proofs.blocks.all_sums.Given as goal

abbrev pub invariant-loop-next : goal.invariant-loop-next
invariant-loop-next l =
    Joining l.b l.from l.areas l.most l.at (record { head = l.head; point = l.point; head_moved = l.head_moved; point_moved = l.point_moved })

abbrev pub decreases-loop-next : goal.decreases-loop-next
decreases-loop-next l = l.last - l.at
