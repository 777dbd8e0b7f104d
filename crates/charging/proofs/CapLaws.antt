-- An area's caps, from the roundings that make them.
-- Assumes nothing.
use Prim.Native.Nat.{ℕ, ◌≤◌}
use mathlib.Core.Path.{◌≡◌}
use mathlib.Core.Bool.{Bool, true, false}
use Rattle.units.specs.declared.Cents.{Cents}
use Rattle.units.specs.declared.Cap.TheVariants.{NoCap, UpTo}
use Rattle.units.specs.Rounding.{raised_by, reduced_by}
use Rattle.layout.specs.declared.Area.{Area}
use Rattle.areas.specs.Areas.{AreaRanges}
use Rattle.prices.specs.Prices.{step4}
use Rattle.charging.specs.Caps.{second_cap, all_cap, caps_here}

-- A day cap is at most 60,000 cents.
pub day_most : (area : Area) (day : Cents) → AreaRanges area → area.day_cap ≡ UpTo day → day.0 ≤ 60000
day_most area day ranges e = rw e at ranges.day-cap

-- No day cap, no caps.
pub caps_none : (area : Area) (child : Bool) → area.day_cap ≡ NoCap → record { second = NoCap; all = NoCap } ≡ caps_here area child
unfolding second_cap all_cap
caps_none area child e = rw e

-- An adult's caps: the day cap, and that raised.
pub caps_adult : (area : Area) (day : Cents) (dear : ℕ) → area.day_cap ≡ UpTo day → dear ≡ raised_by area.surcharge day.0
    → record { second = UpTo day; all = UpTo (record { 0 = dear }) } ≡ caps_here area false
unfolding second_cap all_cap step4
caps_adult area day dear e raised = rw (e, raised)

-- A child's caps: each of an adult's reduced, so that the all-classes one is rounded twice.
pub caps_child : (area : Area) (day : Cents) (dear second all : ℕ) → area.day_cap ≡ UpTo day → dear ≡ raised_by area.surcharge day.0
    → second ≡ reduced_by area.reduction day.0 → all ≡ reduced_by area.reduction dear
    → record { second = UpTo (record { 0 = second }); all = UpTo (record { 0 = all }) } ≡ caps_here area true
unfolding second_cap all_cap step4
caps_child area day dear second all e raised less less-dear = rw (e, less, less-dear, raised)
