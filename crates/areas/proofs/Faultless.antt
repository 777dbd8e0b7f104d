-- What every faultless tariff has: at its end every record before is faultless, each within its count and with its values right.
-- Assumes nothing.
use Prim.Native.Nat.{ℕ, ◌+◌, ◌≤◌, ◌<◌}
use native.Mathlib.Omega.{arith}
use mathlib.Core.Path.{◌≡◌, ap}
use mathlib.Core.Bool.{true}
use mathlib.Core.List.{List}
use lib.ListN.{length}
use lib.Count.{ones}
use Rattle.layout.specs.declared.Counts.{Counts}
use Rattle.layout.specs.Layout.{factor_size, stop_size, area_place, factor_place, stop_place, areas_before, factors_before, stops_before}
use Rattle.layout.specs.Rules.{most_money, level_of, kind_of}
use Rattle.areas.specs.Areas.{area_at, factor_at, is_aachen, bicycle_price_of, FaultlessTariff}
use Rattle.layout.specs.Scan.{Read}
use Rattle.layout.specs.Clauses.{AreaThere}
use Rattle.layout.proofs.Entries.{AreaEntry, FactorEntry, StopEntry, area-entry, factor-entry, stop-entry}
use Rattle.layout.proofs.Places.{bits_cut, place_is, place_before}
use Rattle.layout.proofs.FaultlessUntil.{finished, few_long, few_factors, few_stops}
use Rattle.layout.proofs.PlaceLaws.{state_level}
use Rattle.areas.proofs.Values.{area_ranges, area_rank, factor_ranges, stop_ranges}
use Rattle.areas.proofs.Within.{area_aachen}
use Rattle.layout.proofs.Wide.{wide_before}

pub faultless : (b : List ℕ) (counts : Counts) → Read b counts → FaultlessTariff b counts
unfolding area_at factor_at
faultless b counts e =
    let (p, some, factors) = finished b counts e in
    let area : (i : ℕ) → i < counts.areas → AreaEntry b (area_place b i) (areas_before b i) (kind_of b i) =
    λ i h. area-entry b (area_place b i) (areas_before b i) (kind_of b i) (p.area i h)
    in
    let factor : (k : ℕ) → k < counts.factors → FactorEntry b (factor_place counts k) (factors_before counts k) =
    λ k h. factor-entry b (factor_place counts k) (factors_before counts k) (p.factor k h)
    in
    let state = state_level b counts (area 0 some).right in
    let stop : (j : ℕ) → j < counts.stops → StopEntry b (stop_place counts j) (stops_before counts j) =
    λ j h. stop-entry b (stop_place counts j) (stops_before counts j) (p.stop j h)
    in
    record {
      some = some;
      few_areas = p.reached.few;
      longs = p.reached.longs;
      few_long = few_long b (length b) counts p some;
      factors = factors;
      some_factor = omega (arith, wide_before (level_of b) 0 counts.areas some (omega arith));
      few_factors = omega (arith, few_factors b (length b) counts p, p.reached.few);
      few_stops = few_stops b (length b) counts p;
      size = p.reached.place;
      kind = λ i h. (area i h).here.kinds;
      area = λ i h. area_ranges b (areas_before b i) _ _ _ (area i h).right;
      rank = λ i h. area_rank b i state (area i h).right;
      factor = λ k h. factor_ranges _ k (factor k h).right;
      stop = λ j h. stop_ranges b counts j (stop j h).right;
    }

-- The bicycle price of an area of kind 8 is in its range.
pub bicycle_price_most :
    (b : List ℕ) (counts : Counts) (i : ℕ) → Read b counts × (i < counts.areas) × (is_aachen b i ≡ true) → bicycle_price_of b i ≤ most_money
bicycle_price_most b counts i h =
    let ranges = rw (area_aachen b i h.2) at ((faultless b counts h.0).area i h.1).kind in
    ranges.1

-- A tariff has its counts once.
pub read_one : (b : List ℕ) (c c' : Counts) → Read b c → Read b c' → c ≡ c'
read_one b c c' e e' = cc

-- An area's record, a factor record and a stop's stand within the tariff.
pub area_there : (b : List ℕ) (counts : Counts) (i : ℕ) → Read b counts × (i < counts.areas) → AreaThere b counts i
area_there b counts i h =
    let t = faultless b counts h.0 in
    record {
      few = omega arith;
      inside = omega (arith, place_before b i counts.areas h.1, place_is b counts.areas, ap ones t.longs);
      longs = rw t.longs (bits_cut b i counts.areas (omega arith));
    }

pub factor_inside : (b : List ℕ) (counts : Counts) (k : ℕ) → Read b counts × (k < counts.factors) → factor_place counts k + factor_size ≤ length b
factor_inside b counts k h = let t = faultless b counts h.0 in omega arith

pub stop_inside : (b : List ℕ) (counts : Counts) (j : ℕ) → Read b counts × (j < counts.stops) → stop_place counts j + stop_size ≤ length b
stop_inside b counts j h = let t = faultless b counts h.0 in omega arith
