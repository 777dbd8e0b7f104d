use Prim.Native.Nat.{ℕ, ◌+◌, ◌-◌, ◌≤◌}
use mathlib.Core.Path.{◌≡◌}
use mathlib.Core.Bool.{Bool}
use mathlib.Core.List.{List}
use lib.Dec.{leb}
use Rattle.wire.specs.Each.{each}
use Rattle.page.specs.Pages.{most_number, number_at}
use Rattle.page.proofs.checks.numbers_right.Given as goal

abbrev test : List ℕ → ℕ → ℕ → Bool
test page first k = leb (number_at page (first + k)) most_number

abbrev pub invariant-loop-k : goal.invariant-loop-k
invariant-loop-k l = (l.k ≤ l.count) × (l.right ≡ each l.k (test l.page l.first))

abbrev pub decreases-loop-k : goal.decreases-loop-k
decreases-loop-k l = l.count - l.k
