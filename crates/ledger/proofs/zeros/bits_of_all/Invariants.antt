use Rattle.std.proofs.Common.{◌-◌, ◌*◌, ◌≤◌}
use Rattle.ledger.specs.Clauses.{BitsOf}
use Rattle.ledger.proofs.zeros.bits_of_all.Given as goal

abbrev pub invariant-loop-i : goal.invariant-loop-i
invariant-loop-i l = (l.i ≤ 14) × BitsOf l.book 0 (96 * l.i) l.bits

abbrev pub decreases-loop-i : goal.decreases-loop-i
decreases-loop-i l = 14 - l.i
