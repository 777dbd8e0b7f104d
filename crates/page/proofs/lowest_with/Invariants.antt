use Prim.Native.Nat.{◌+◌, ◌-◌, ◌≤◌}
use mathlib.Core.Path.{◌≡◌}
use Rattle.page.specs.Pages.{lowest_with}
use Rattle.page.proofs.lowest_with.Given as goal

abbrev pub invariant-loop-place : goal.invariant-loop-place
invariant-loop-place l =
    (l.place ≤ l.place-end) × ((l.place-end ≡ l.first + l.count) × (lowest_with l.page l.first l.count l.number ≡ lowest_with l.page l.place (l.place-end - l.place) l.number))

abbrev pub decreases-loop-place : goal.decreases-loop-place
decreases-loop-place l = l.place-end - l.place
