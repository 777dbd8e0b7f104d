use Rattle.std.proofs.Common.{◌≡◌, ◌+◌, ◌-◌, ◌*◌, ◌≤◌}
use Rattle.layout.specs.Layout.{stop_size}
use Rattle.scan.specs.Clauses.{StopsStand}
use Rattle.scan.proofs.blocks.threes_standing.Given as goal

abbrev pub invariant-loop-stops : goal.invariant-loop-stops
invariant-loop-stops l = (l.at ≡ l.from + stop_size * l.stops) × (l.stops ≤ l.most) × StopsStand l.b l.from l.areas l.stops

abbrev pub decreases-loop-stops : goal.decreases-loop-stops
decreases-loop-stops l = l.most - l.stops
