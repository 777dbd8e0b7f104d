use Prim.Native.Nat.{◌-◌, ◌≤◌}
use mathlib.Core.Path.{◌≡◌}
use Rattle.layout.specs.Layout.{area_place}
use Rattle.layout.specs.Fields.{area_fields}
use Rattle.layout.specs.Rules.{wide_among}
use Rattle.areas.proofs.factors.wide_before.Given as goal

abbrev pub invariant-loop-i : goal.invariant-loop-i
invariant-loop-i l =
    (l.wide ≡ wide_among (λ n. (area_fields l.tariff (area_place l.tariff n)).level) l.i) × (l.at ≡ area_place l.tariff l.i) × (l.i ≤ l.number)

abbrev pub decreases-loop-i : goal.decreases-loop-i
decreases-loop-i l = l.number - l.i
