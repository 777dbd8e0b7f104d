use Prim.Native.Nat.{◌-◌, ◌≤◌}
use mathlib.Core.Path.{◌≡◌}
use Rattle.ledger.specs.Windows.{in_window}
use Rattle.charging.specs.Charging.{rider_charge}
use Rattle.charging.specs.Cuts.{rider_cut}
use Rattle.charging.specs.After.{words_after}
use Rattle.charging.proofs.Stating.{group_of, GroupsWrote}
use Rattle.charging.proofs.state.state_ride.Given as goal

abbrev pub invariant-loop : goal.invariant-loop
invariant-loop l =
    let words = words_after l.tariff-2 l.counts (in_window l.current l.book-2) l.earlier in
    (l.counter ≤ 2)
    × (l.riders ≡ group_of l.ride l.counter)
    × GroupsWrote l.ride (rider_charge l.tariff-2 l.counts words l.ride) (rider_cut l.tariff-2 l.counts words l.ride) l.counter l.initial.statement l.initial.next l.statement l.next

abbrev pub decreases-loop : goal.decreases-loop
decreases-loop l = 2 - l.counter
