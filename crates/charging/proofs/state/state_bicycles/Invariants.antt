use Prim.Native.Nat.{◌-◌, ◌≤◌}
use Rattle.ledger.specs.Words.{cover_word, paid_word}
use Rattle.ledger.specs.Windows.{in_window}
use Rattle.cycles.specs.Bicycles.{bicycle_charge}
use Rattle.cycles.specs.Clauses.{FoundRight}
use Rattle.charging.specs.After.{words_after}
use Rattle.charging.proofs.Stating.{BicyclesWrote}
use Rattle.charging.proofs.state.state_bicycles.Given as goal

abbrev pub invariant-loop-i : goal.invariant-loop-i
invariant-loop-i l =
    let after = words_after l.tariff l.counts (in_window l.current l.book) l.earlier in
    (l.i ≤ l.count)
    × BicyclesWrote (λ k. bicycle_charge l.tariff l.counts l.at (cover_word after k) (paid_word after k)) l.i l.initial.statement l.place l.statement l.next
    × FoundRight l.tariff l.counts l.earlier l.at l.last

abbrev pub decreases-loop-i : goal.decreases-loop-i
decreases-loop-i l = l.count - l.i
