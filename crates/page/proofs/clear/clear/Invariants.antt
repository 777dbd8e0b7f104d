use Prim.Native.Nat.{◌≤◌, ◌-◌}
use mathlib.Core.Path.{◌≡◌}
use mathlib.Core.List.{◌++◌}
use lib.ListN.{length, drop, replicate}
use Rattle.page.specs.Pages.{place_size}
use Rattle.page.proofs.clear.clear.Given as goal

abbrev pub invariant-loop-i : goal.invariant-loop-i
invariant-loop-i l = (l.place ≡ replicate l.i 0 ++ drop l.i l.initial.place) × ((length l.place ≡ place_size) × (l.i ≤ place_size))

abbrev pub decreases-loop-i : goal.decreases-loop-i
decreases-loop-i l = place_size - l.i
