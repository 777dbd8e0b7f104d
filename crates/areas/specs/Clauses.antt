-- What serves contracts alone: records that requires and ensures speak of.
use Rattle.std.specs.Prelude.{ℕ, ◌≤◌, ◌<◌, ◌≡◌, List}
use Rattle.layout.specs.declared.Area.{Area}
use Rattle.layout.specs.declared.Limits.{Limits}
use Rattle.layout.specs.declared.Counts.{Counts}
use Rattle.layout.specs.declared.Factor.{Factor}
use Rattle.layout.specs.Rules.{most_money, most_factor, level_of, flat_of}
use Rattle.areas.specs.Areas.{parent_of, bicycle_price_of}
use Rattle.areas.specs.Factors.{region_of, factor_of}

-- what an area's caps are made of
abbrev pub limits_of : Area → Limits
limits_of area = record { day_cap = area.day_cap; surcharge = area.surcharge; reduction = area.reduction }

pub record ParentOf (b : List ℕ) (counts : Counts) (number r : ℕ) : Type 0 where
  pub value : r ≡ parent_of b number
  pub there : r < counts.areas

pub record FlatOf (b : List ℕ) (number r : ℕ) : Type 0 where
  pub value : r ≡ flat_of b number
  pub range : r ≤ most_money

pub record BicyclePriceOf (b : List ℕ) (number r : ℕ) : Type 0 where
  pub value : r ≡ bicycle_price_of b number
  pub range : r ≤ most_money

-- the region of an area, which is no city
pub record RegionOf (b : List ℕ) (counts : Counts) (area r : ℕ) : Type 0 where
  pub value : r ≡ region_of b area
  pub there : r < counts.areas
  pub wide : level_of b r < 2

-- the factor record of an area, in its ranges; the state's mark is 0
pub record FactorOf (b : List ℕ) (counts : Counts) (area : ℕ) (r : Factor) : Type 0 where
  pub value : r ≡ factor_of b counts area
  pub least : 1 ≤ r.factor
  pub most : r.factor ≤ most_factor
  pub mark : r.mark ≤ 1
  pub state_mark : region_of b area ≡ 0 → r.mark ≡ 0
