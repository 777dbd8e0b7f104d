use Prim.Native.Nat.{◌+◌, ◌-◌, ◌≤◌}
use Rattle.ledger.specs.Windows.{in_window}
use Rattle.charging.specs.Alike.{LastRight}
use Rattle.charging.proofs.Stating.{TurnsWrote, turn_by}
use Rattle.charging.proofs.state.state_riders.Given as goal

abbrev pub invariant-loop-i : goal.invariant-loop-i
invariant-loop-i l =
    (l.i ≤ l.count)
    × TurnsWrote (λ k. (turn_by l.chain (in_window l.current l.book) l.first l.class l.earlier l.initial.statement l.place l.size l.fare.0 k).amount.0)
    (λ k. (turn_by l.chain (in_window l.current l.book) l.first l.class l.earlier l.initial.statement l.place l.size l.fare.0 k).cut) l.i l.initial.statement l.place l.statement l.next
    × LastRight l.chain (in_window l.current l.book) (l.first + l.i) l.class l.fare.0 l.last

abbrev pub decreases-loop-i : goal.decreases-loop-i
decreases-loop-i l = l.count - l.i
