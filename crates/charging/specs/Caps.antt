-- Rules, section 10: an area's caps, and the tree of areas that they hold in.
use Rattle.std.specs.Prelude.{ℕ, List, Bool}
use Rattle.units.specs.declared.Cap.{Cap}
use Rattle.units.specs.declared.Cap.TheVariants.{NoCap, UpTo}
use Rattle.units.specs.Rounding.{raised_by}
use Rattle.caps.specs.declared.Caps.{Caps}
use Rattle.caps.specs.Tree.{Tree}
use Rattle.layout.specs.declared.Area.{Area}
use Rattle.layout.specs.declared.Counts.{Counts}
use Rattle.layout.specs.Rules.{level_of}
use Rattle.areas.specs.Areas.{area_at, parent_of}
use Rattle.prices.specs.Prices.{step4}

-- an area's second-class cap is its day cap; for children reduced and rounded up as in step 4
unfoldable pub second_cap : Area → Bool → Cap
second_cap area child = elim area.day_cap [ NoCap ↦ NoCap | UpTo day ↦ UpTo (record { 0 = step4 area child day.0 }) ]

-- its all-classes cap is that × (100 + surcharge) ÷ 100, rounded up; for children then reduced and rounded up as in step 4.
-- An area without a day cap has neither
unfoldable pub all_cap : Area → Bool → Cap
all_cap area child =
    elim area.day_cap [
      | NoCap ↦ NoCap
      | UpTo day ↦ UpTo (record { 0 = step4 area child (raised_by area.surcharge day.0) })
    ]

abbrev pub caps_here : Area → Bool → Caps
caps_here area child = record { second = second_cap area child; all = all_cap area child }

-- the tariff's areas as far as caps see them, with an adult's or a child's caps
abbrev pub tree_of : List ℕ → Counts → Bool → Tree
tree_of tariff counts child =
    record {
      size = counts.areas;
      parent = parent_of tariff;
      level = level_of tariff;
      caps = λ area. caps_here (area_at tariff area) child;
    }
