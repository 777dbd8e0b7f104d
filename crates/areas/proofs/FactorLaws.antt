-- The factor record that holds for an area of a faultless tariff: the area has a region, or the state, whose factor record is there and in
-- its ranges.
-- Assumes nothing.
use Prim.Native.Nat.{ℕ, ◌<◌}
use native.Mathlib.Omega.{arith}
use mathlib.Core.Path.{◌≡◌, refl, ap, subst, ◌∙◌}
use mathlib.Core.Bool.{Bool, true, false}
use mathlib.Core.List.{List}
use borrow.Author.Tests.{eqb-true, eqb-false}
use Rattle.layout.specs.declared.Counts.{Counts}
use Rattle.layout.specs.Rules.{level_of, wide_areas}
use Rattle.areas.specs.Areas.{parent_of, FaultlessTariff}
use Rattle.areas.specs.Factors.{is_city, region_of, factor_of}
use Rattle.areas.specs.Clauses.{RegionOf, FactorOf}
use Rattle.layout.proofs.Wide.{wide_none, wide_before}
use Rattle.areas.proofs.Within.{above_of, parent_there}

module _ {b : List ℕ} {counts : Counts} (t : FaultlessTariff b counts) where
  -- The state and each region have a factor record.
  pub factor_there : (r : ℕ) → r < counts.areas → level_of b r < 2 → wide_areas b r < counts.factors
  factor_there r h wide = omega (arith, t.factors, wide_before (level_of b) r counts.areas h wide)

  module _ (area : ℕ) (h : area < counts.areas) where
    -- A city's region is its parent, which is no city; any other area is its own.
    pub region_parent : (r : ℕ) → r ≡ parent_of b area → is_city b area ≡ true → RegionOf b counts area r
    unfolding region_of
    region_parent r up city =
        record {
          value = up ∙ rw city;
          there = rw up (parent_there t area h);
          wide = omega (arith, ap (level_of b) up, above_of t area h, eqb-true (level_of b area) 2 city);
        }

    pub region_own : is_city b area ≡ false → RegionOf b counts area area
    unfolding region_of
    region_own other =
        let level = eqb-false (level_of b area) 2 other in
        record { value = rw other; there = h; wide = omega (arith, above_of t area h) }

    pub region : RegionOf b counts area (region_of b area)
    region = by_city (is_city b area) refl
      where
        given : (r : ℕ) → RegionOf b counts area r → RegionOf b counts area (region_of b area)
        given r is = subst (RegionOf b counts area) is.value is

        by_city : (t : Bool) → is_city b area ≡ t → RegionOf b counts area (region_of b area)
        by_city true city = given _ (region_parent _ refl city)
        by_city false other = given _ (region_own other)

    -- Its factor record is in its ranges.
    pub factor-of : FactorOf b counts area (factor_of b counts area)
    unfolding factor_of
    factor-of =
        let r = region_of b area in
        let ranges = t.factor (wide_areas b r) (factor_there r region.there region.wide) in
        record {
          value = refl;
          least = ranges.least;
          most = ranges.most;
          mark = ranges.mark;
          state_mark = λ state. ranges.state_mark (rw state (wide_none (level_of b)));
        }
