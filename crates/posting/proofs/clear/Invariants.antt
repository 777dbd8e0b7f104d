use Prim.Native.Nat.{◌≤◌, ◌-◌}
use mathlib.Core.Path.{◌≡◌}
use mathlib.Core.List.{◌++◌}
use lib.ListN.{length, drop, replicate}
use Rattle.ledger.specs.Words.{book_size}
use Rattle.posting.proofs.clear.Given as goal

abbrev pub invariant-loop-i : goal.invariant-loop-i
invariant-loop-i l = (l.book ≡ replicate l.i 0 ++ drop l.i l.initial.book) × ((length l.book ≡ book_size) × (l.i ≤ book_size))

abbrev pub decreases-loop-i : goal.decreases-loop-i
decreases-loop-i l = book_size - l.i
