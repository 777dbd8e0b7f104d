use Prim.Native.Nat.{◌-◌, ◌≤◌}
use mathlib.Core.Path.{◌≡◌}
use Rattle.fare.specs.Parts.{away, FarthestChange}
use Rattle.fare.proofs.parts.farthest_change.Given as goal

abbrev pub invariant-loop-i : goal.invariant-loop-i
invariant-loop-i l =
    (2 ≤ l.i) × ((l.i ≤ l.stops - 1) × (FarthestChange l.tariff l.counts l.bytes l.i l.change × (l.far ≡ away l.tariff l.counts l.bytes l.change)))

abbrev pub decreases-loop-i : goal.decreases-loop-i
decreases-loop-i l = l.stops - 1 - l.i
