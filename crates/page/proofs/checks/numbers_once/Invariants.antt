use Prim.Native.Nat.{ℕ, ◌+◌, ◌-◌, ◌≤◌}
use mathlib.Core.Path.{◌≡◌}
use mathlib.Core.Bool.{Bool}
use mathlib.Core.List.{List}
use Rattle.wire.specs.Each.{each}
use Rattle.page.specs.Pages.{only_here}
use Rattle.page.proofs.checks.numbers_once.Given as goal

abbrev test : List ℕ → ℕ → ℕ → ℕ → Bool
test page first count k = only_here page (first + count) (first + k)

abbrev pub invariant-loop-k : goal.invariant-loop-k
invariant-loop-k l = (l.k ≤ l.count) × (l.once ≡ each l.k (test l.page l.first l.count))

abbrev pub decreases-loop-k : goal.decreases-loop-k
decreases-loop-k l = l.count - l.k
