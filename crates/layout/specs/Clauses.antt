-- What serves contracts alone: which areas' records are there, also while the tariff is still being read.
use Rattle.std.specs.Prelude.{ℕ, ◌%◌, ◌^◌, ◌≤◌, ◌<◌, ◌≡◌, List, length}
use Rattle.layout.specs.declared.Counts.{Counts}
use Rattle.layout.specs.Layout.{most_areas, area_end, area_place, long_bits}

-- an area's record is there, whatever follows it, and it is known which areas before it are of kind 8: so it is while the tariff is still
-- being read
pub record AreaThere (b : List ℕ) (counts : Counts) (number : ℕ) : Type 0 where
  pub few : number < most_areas
  pub inside : area_end b (area_place b number) ≤ length b
  pub longs : counts.longs % 2 ^ number ≡ long_bits b number

-- the records of the areas so far are there
pub record AreasThere (b : List ℕ) (so_far : Counts) : Type 0 where
  pub few : so_far.areas ≤ most_areas
  pub inside : area_place b so_far.areas ≤ length b
  pub longs : so_far.longs ≡ long_bits b so_far.areas
