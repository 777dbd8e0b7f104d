-- Rules, section 4: the factor record that holds for an area: its region's, or the state's where it lies in no region.
use Rattle.std.specs.Prelude.{ℕ, List, Bool, cond, eqb}
use Rattle.layout.specs.declared.Counts.{Counts}
use Rattle.layout.specs.declared.Factor.{Factor}
use Rattle.layout.specs.Rules.{level_of, wide_areas}
use Rattle.areas.specs.Areas.{parent_of, factor_at}

-- an area is a city: what lies in it lies in one city
abbrev pub is_city : List ℕ → ℕ → Bool
is_city b area = eqb (level_of b area) 2

-- the region that contains an area, else the state: a city's is its parent, a region's and the state's is itself
unfoldable pub region_of : List ℕ → ℕ → ℕ
region_of b area = cond (is_city b area) (parent_of b area) area

-- factor records stand in the order of the areas: before a region's stand those of the state and of the regions before it
unfoldable pub factor_of : List ℕ → Counts → ℕ → Factor
factor_of b counts area = factor_at b counts (wide_areas b (region_of b area))
