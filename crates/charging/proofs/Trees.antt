-- The areas of a faultless tariff, with an adult's or a child's caps, are a tree: each below its parent up to the state, and each
-- second-class cap no larger than the all-classes one, since raising never lowers an amount and reducing keeps the order.
-- Assumes nothing.
use Prim.Native.Nat.{ℕ, ◌+◌, ◌≤◌, ◌<◌}
use native.Mathlib.Nat.{le_trans, mul-le-mul_right}
use native.Mathlib.Omega.{arith}
use mathlib.Core.Path.{◌≡◌, refl}
use mathlib.Core.Bool.{Bool, true, false}
use mathlib.Core.List.{List}
use Rattle.units.specs.declared.Cap.{Cap}
use Rattle.units.specs.declared.Cap.TheVariants.{NoCap, UpTo}
use Rattle.units.specs.Rounding.{hundredths_of, raised_by}
use Rattle.units.proofs.Rounding.{hundredths_least, hundredths_not_below}
use Rattle.caps.specs.Limits.{CapOrder, neither, both}
use Rattle.caps.specs.Tree.{IsTree, within}
use Rattle.caps.proofs.Climb.{within_past}
use Rattle.layout.specs.declared.Area.{Area}
use Rattle.layout.specs.declared.Counts.{Counts}
use Rattle.areas.specs.Areas.{area_at, lies_within, FaultlessTariff}
use Rattle.areas.proofs.Within.{above_of, parent_there}
use Rattle.prices.specs.Prices.{step4}
use Rattle.charging.specs.Caps.{second_cap, all_cap, tree_of}

-- hundredths keep the order of amounts
hundredths_mono : (hundredths : ℕ) {m n : ℕ} → m ≤ n → hundredths_of hundredths m ≤ hundredths_of hundredths n
hundredths_mono h {m} {n} le = hundredths_least h m (hundredths_of h n) (le_trans (mul-le-mul_right h le) (hundredths_not_below h n))

-- a raised amount is no smaller
raised_least : (percent amount : ℕ) → amount ≤ raised_by percent amount
raised_least p a = omega (arith, hundredths_not_below (100 + p) a)

-- a child's reduction keeps the order of amounts
step4_mono : (area : Area) (child : Bool) {m n : ℕ} → m ≤ n → step4 area child m ≤ step4 area child n
unfolding step4
step4_mono area true le = hundredths_mono _ le
step4_mono area false le = le

-- An area's second-class cap is no larger than its all-classes one, for adults and for children.
pub caps_in_order : (area : Area) (child : Bool) → CapOrder (second_cap area child) (all_cap area child)
unfolding second_cap all_cap
caps_in_order area child = go area.day_cap
  where
    go :
        (daily : Cap)
        → CapOrder (elim daily [ NoCap ↦ NoCap | UpTo day ↦ UpTo (record { 0 = step4 area child day.0 }) ])
        (elim daily [ NoCap ↦ NoCap | UpTo day ↦ UpTo (record { 0 = step4 area child (raised_by area.surcharge day.0) }) ])
    go NoCap = neither
    go (UpTo day) = both (step4_mono area child (raised_least area.surcharge day.0))

module _ {tariff : List ℕ} {counts : Counts} (t : FaultlessTariff tariff counts) (child : Bool) where
  pub is_tree : IsTree (tree_of tariff counts child)
  is_tree =
      record {
        state = t.some;
        state_parent = (above_of t 0 t.some).state_parent refl;
        few_levels = λ a h. (above_of t a h).level;
        parent_there = parent_there t;
        parent_level = λ a h low. omega (arith, (above_of t a h).level_up);
        top_level = λ a h. (above_of t a h).state_only;
        caps_order = λ a h. caps_in_order (area_at tariff a) _;
      }

  -- An area lies within what it lies within in the tree: three areas are enough for all levels.
  pub lies-within : (a x : ℕ) → a < counts.areas → lies_within tariff a x ≡ within (tree_of tariff counts child) a x
  unfolding lies_within
  lies-within a x h = within_past is_tree a x 2 h (is_tree.few_levels a h)
