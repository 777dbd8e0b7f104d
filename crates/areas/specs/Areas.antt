-- Areas, factor records and stops by number, of a faultless tariff; what every faultless tariff has; the areas above an area.
use Rattle.std.specs.Prelude.{ℕ, ◌≤◌, ◌<◌, ◌≡◌, ◌⊎◌, List, Bool, true, cond, false, length, eqb}
use Rattle.std.specs.Int.Count.{ones}
use Rattle.units.specs.declared.Cap.{Cap}
use Rattle.units.specs.declared.Cap.TheVariants as day
use Rattle.caps.specs.Tree.{among}
use Rattle.layout.specs.declared.fields.AreaFields.{AreaFields}
use Rattle.layout.specs.declared.fields.LongFields.{LongFields}
use Rattle.layout.specs.declared.TripCap.{TripCap}
use Rattle.layout.specs.declared.TripCap.TheVariants as trip
use Rattle.layout.specs.declared.Town.{Town}
use Rattle.layout.specs.declared.Town.TheVariants.{Unmarked, BaseDropped, KmDropped}
use Rattle.layout.specs.declared.Kind.{Kind}
use Rattle.layout.specs.declared.Kind.TheVariants.{Common, Aachen}
use Rattle.layout.specs.declared.Area.{Area}
use Rattle.layout.specs.declared.Factor.{Factor}
use Rattle.layout.specs.declared.Stop.{Stop}
use Rattle.layout.specs.declared.Counts.{Counts}
use Rattle.layout.specs.Layout.{common_kind, aachen_kind, most_areas, most_stops, kind_at, area_place, long_bits, factor_place, stop_place}
use Rattle.layout.specs.Fields.{area_fields, long_fields, factor_fields, stop_fields}
use Rattle.layout.specs.Rules.{
  most_base_price,
  most_price_per_km,
  least_minutes,
  most_minutes,
  most_percent,
  most_money,
  no_day_cap,
  most_factor,
  most_metres,
  kind_of,
  factors_due,
}

-- the sort of trip cap, with that sort's own numbers: an amount up to some minutes, or an amount for each level
unfoldable pub cap_of : ℕ → ℕ → ℕ → ℕ → ℕ → ℕ → ℕ → TripCap
cap_of sort minutes k a b c d =
    cond (eqb sort 1) (trip.Flat (record { 0 = k }) (record { 0 = minutes }))
    (cond (eqb sort 2)
    (trip.ByLevel (record { 0 = k }) (record { 0 = a }) (record { 0 = b }) (record { 0 = c }) (record { 0 = d }))
    trip.NoCap)

-- an adult's; under sort 1 the second field is the minutes
unfoldable pub trip_cap_of : AreaFields → TripCap
trip_cap_of f = cap_of f.sort f.cap2 f.cap1 f.cap2 f.cap3 f.cap4 f.cap5

-- a child's ticket in kind 8: the adult's sort and, under sort 1, the adult's minutes
unfoldable pub child_ticket_of : AreaFields → LongFields → TripCap
child_ticket_of f g = cap_of f.sort f.cap2 g.child1 g.child2 g.child3 g.child4 g.child5

-- what a town mark says: 1 the base price is dropped, 2 the km price
unfoldable pub town_of : ℕ → Town
town_of mark = cond (eqb mark 1) BaseDropped (cond (eqb mark 2) KmDropped Unmarked)

-- an area's kind; kind 8 with what its record has besides
unfoldable pub kind_with : ℕ → AreaFields → LongFields → Kind
kind_with kind f g =
    cond (eqb kind aachen_kind) (Aachen (child_ticket_of f g) (record { 0 = g.bicycle_price }) (town_of g.town)) Common

-- the day cap, where there is one
unfoldable pub day_cap_of : ℕ → Cap
day_cap_of amount = cond (eqb amount no_day_cap) day.NoCap (day.UpTo (record { 0 = amount }))

-- an area in its units
unfoldable pub area_of : AreaFields → Kind → Area
area_of f kind =
    record {
      level = f.level;
      parent = f.parent;
      base_price = record { 0 = f.base_price };
      price_per_km = record { 0 = f.price_per_km };
      validity = record { 0 = f.validity };
      surcharge = f.surcharge;
      reduction = f.reduction;
      trip_cap = trip_cap_of f;
      day_cap = day_cap_of f.day_cap;
      bicycle_flat = record { 0 = f.bicycle_flat };
      kind = kind;
    }

-- the area of a number
unfoldable pub area_at : List ℕ → ℕ → Area
area_at b number =
    let at = area_place b number in
    area_of (area_fields b at) (kind_with (kind_at b at) (area_fields b at) (long_fields b at))

-- the factor record of a number
unfoldable pub factor_at : List ℕ → Counts → ℕ → Factor
factor_at b counts number = factor_fields b (factor_place counts number)

-- the stop of a number
unfoldable pub stop_at : List ℕ → Counts → ℕ → Stop
stop_at b counts number =
    let f = stop_fields b (stop_place counts number) in
    record { area = f.area; x = record { 0 = f.x }; y = record { 0 = f.y } }

-- the area above an area; the state is its own
abbrev pub parent_of : List ℕ → ℕ → ℕ
parent_of b number = (area_fields b (area_place b number)).parent

-- whether an area is of kind 8; such an area's bicycle price per trip; an area's town mark
abbrev pub is_aachen : List ℕ → ℕ → Bool
is_aachen b number = eqb (kind_of b number) aachen_kind

abbrev pub bicycle_price_of : List ℕ → ℕ → ℕ
bicycle_price_of b number = (long_fields b (area_place b number)).bicycle_price

unfoldable pub town_at : List ℕ → ℕ → Town
town_at b number = cond (is_aachen b number) (town_of (long_fields b (area_place b number)).town) Unmarked

-- a town is marked where it drops the base price or the km price
unfoldable pub is_marked : Town → Bool
is_marked (Unmarked) = false
is_marked (BaseDropped) = true
is_marked (KmDropped) = true

-- an area of the tariff is a marked town
unfoldable pub in_marked_town : List ℕ → ℕ → Bool
in_marked_town tariff area = is_marked (town_at tariff area)

-- an area lies within itself, within the area above it, and within the area above that: there are three levels
unfoldable pub lies_within : List ℕ → ℕ → ℕ → Bool
lies_within b inner outer = among (parent_of b) 2 inner outer

-- of two areas: the first of the one, the area above it and the area above that within which the other lies too
unfoldable pub smallest_of : List ℕ → ℕ → ℕ → ℕ
smallest_of b a c =
    cond (lies_within b c a) a
    (cond (lies_within b c (parent_of b a)) (parent_of b a) (parent_of b (parent_of b a)))

-- the smallest area that contains two: it contains both, and lies within every area that contains both
pub record Smallest (b : List ℕ) (counts : Counts) (a c r : ℕ) : Type 0 where
  pub value : r ≡ smallest_of b a c
  pub there : r < counts.areas
  pub one : lies_within b a r ≡ true
  pub other : lies_within b c r ≡ true
  pub least : (d : ℕ) → lies_within b a d ≡ true → lies_within b c d ≡ true → lies_within b r d ≡ true

-- the numbers of a trip cap are in their ranges
abbrev pub TripCapRange : TripCap → Type 0
TripCapRange (trip.NoCap) = Unit
TripCapRange (trip.Flat amount minutes) = (amount.0 ≤ most_money) × (least_minutes ≤ minutes.0) × (minutes.0 ≤ most_minutes)
TripCapRange (trip.ByLevel k a b c d) = (k.0 ≤ most_money) × (a.0 ≤ most_money) × (b.0 ≤ most_money) × (c.0 ≤ most_money) × (d.0 ≤ most_money)

abbrev pub DayCapRange : Cap → Type 0
DayCapRange (day.NoCap) = Unit
DayCapRange (day.UpTo amount) = amount.0 ≤ most_money

-- only a city is a marked town
abbrev pub TownRange : ℕ → Town → Type 0
TownRange level (Unmarked) = Unit
TownRange level (BaseDropped) = level ≡ 2
TownRange level (KmDropped) = level ≡ 2

abbrev pub KindRange : ℕ → Kind → Type 0
KindRange level (Common) = Unit
KindRange level (Aachen ticket price town) = TripCapRange ticket × (price.0 ≤ most_money) × TownRange level town

-- what each area of a faultless tariff has: every field in its range
pub record AreaRanges (area : Area) : Type 0 where
  pub base-price : area.base_price.0 ≤ most_base_price
  pub price-per-km : area.price_per_km.0 ≤ most_price_per_km
  pub valid_least : least_minutes ≤ area.validity.0
  pub valid_most : area.validity.0 ≤ most_minutes
  pub surcharge : area.surcharge ≤ most_percent
  pub reduction : area.reduction ≤ most_percent
  pub trip-cap : TripCapRange area.trip_cap
  pub day-cap : DayCapRange area.day_cap
  pub bicycle-flat : area.bicycle_flat.0 ≤ most_money
  pub kind : KindRange area.level area.kind

-- area 0 alone is the state, its own parent, and of kind 1; a region's parent is the state, a city's an earlier region of its own kind; no
-- flat exceeds the parent's, but that of a region of kind 8 may
pub data AreaRank (b : List ℕ) (number : ℕ) : Type 0 where
  state : number ≡ 0 → (area_at b number).level ≡ 0 → (area_at b number).parent ≡ 0 → kind_of b number ≡ common_kind
      → AreaRank b number
  region : 0 < number → (area_at b number).level ≡ 1 → (area_at b number).parent ≡ 0
      → (kind_of b number ≡ common_kind → (area_at b number).bicycle_flat.0 ≤ (area_at b 0).bicycle_flat.0)
      → AreaRank b number
  city : (r : ℕ) → 0 < r → r < number → (area_at b number).level ≡ 2 → (area_at b number).parent ≡ r → (area_at b r).level ≡ 1
      → kind_of b r ≡ kind_of b number → (area_at b number).bicycle_flat.0 ≤ (area_at b r).bicycle_flat.0
      → AreaRank b number

-- what each factor record has; the state's, which is the first, has the mark 0
pub record FactorRanges (number : ℕ) (f : Factor) : Type 0 where
  pub least : 1 ≤ f.factor
  pub most : f.factor ≤ most_factor
  pub mark : f.mark ≤ 1
  pub state_mark : number ≡ 0 → f.mark ≡ 0

pub record StopRanges (areas : ℕ) (stop : Stop) : Type 0 where
  pub area : stop.area < areas
  pub x : stop.x.0 ≤ most_metres
  pub y : stop.y.0 ≤ most_metres

-- what every faultless tariff has
pub record FaultlessTariff (b : List ℕ) (counts : Counts) : Type 0 where
  pub some : 1 ≤ counts.areas
  pub few_areas : counts.areas ≤ most_areas
  pub longs : counts.longs ≡ long_bits b counts.areas
  pub few_long : ones counts.longs < counts.areas
  pub factors : counts.factors ≡ factors_due b counts
  pub some_factor : 1 ≤ counts.factors
  pub few_factors : counts.factors ≤ most_areas
  pub few_stops : counts.stops ≤ most_stops
  pub size : length b ≡ stop_place counts counts.stops
  pub kind : (i : ℕ) → i < counts.areas → (kind_of b i ≡ common_kind) ⊎ (kind_of b i ≡ aachen_kind)
  pub area : (i : ℕ) → i < counts.areas → AreaRanges (area_at b i)
  pub rank : (i : ℕ) → i < counts.areas → AreaRank b i
  pub factor : (k : ℕ) → k < counts.factors → FactorRanges k (factor_at b counts k)
  pub stop : (j : ℕ) → j < counts.stops → StopRanges counts.areas (stop_at b counts j)
