-- Rules, section 4: the ranges, and what one record's values have to do with another's.
use Rattle.std.specs.Prelude.{ℕ, zero, suc, ◌+◌, List, Bool, true, cond, ◌&&◌, ◌||◌, leb, ltb, eqb}
use Rattle.units.specs.Day.{day_minutes}
use Rattle.layout.specs.declared.Counts.{Counts}
use Rattle.layout.specs.declared.Factor.{Factor}
use Rattle.layout.specs.declared.fields.AreaFields.{AreaFields}
use Rattle.layout.specs.declared.fields.LongFields.{LongFields}
use Rattle.layout.specs.declared.fields.StopFields.{StopFields}
use Rattle.layout.specs.Layout.{common_kind, aachen_kind, kind_at, area_place}
use Rattle.layout.specs.Fields.{area_fields}

-- base 0..10,000; km price 0..1,000; validity and flat-cap minutes 30..1,440; percentages 0..100; all other money 0..60,000; day cap
-- 65,535 means none; factor 1..9; x and y 0..1,000,000
abbrev pub most_base_price : ℕ
most_base_price = 10000

abbrev pub most_price_per_km : ℕ
most_price_per_km = 1000

abbrev pub least_minutes : ℕ
least_minutes = 30

abbrev pub most_minutes : ℕ
most_minutes = day_minutes

abbrev pub most_percent : ℕ
most_percent = 100

abbrev pub most_money : ℕ
most_money = 60000

abbrev pub no_day_cap : ℕ
no_day_cap = 65535

abbrev pub most_factor : ℕ
most_factor = 9

abbrev pub most_metres : ℕ
most_metres = 1000000

-- base, km price, validity and the percentages
abbrev pub prices_right : AreaFields → Bool
prices_right f =
    leb f.base_price most_base_price && leb f.price_per_km most_price_per_km && leb least_minutes f.validity && leb f.validity most_minutes
    && leb f.surcharge most_percent && leb f.reduction most_percent

-- all other money
abbrev pub money : ℕ → Bool
money n = leb n most_money

-- the last three trip-cap fields are zeros
abbrev pub unused : AreaFields → Bool
unused f = eqb f.cap3 0 && eqb f.cap4 0 && eqb f.cap5 0

-- sort 0: five zeros. Sort 1: amount, minutes, three zeros. Sort 2: amounts for levels K, A, B, C, D
abbrev pub trip_cap_right : AreaFields → Bool
trip_cap_right f =
    eqb f.sort 0 && eqb f.cap1 0 && eqb f.cap2 0 && unused f
    || eqb f.sort 1 && money f.cap1 && leb least_minutes f.cap2 && leb f.cap2 most_minutes && unused f
    || eqb f.sort 2 && money f.cap1 && money f.cap2 && money f.cap3 && money f.cap4 && money f.cap5

-- the trip cap; the day cap, if any; the bicycle flat
unfoldable pub caps_right : AreaFields → Bool
caps_right f = trip_cap_right f && (money f.day_cap || eqb f.day_cap no_day_cap) && money f.bicycle_flat

-- the last four child tickets are zeros
abbrev pub tickets_unused : LongFields → Bool
tickets_unused g = eqb g.child2 0 && eqb g.child3 0 && eqb g.child4 0 && eqb g.child5 0

-- the child tickets go by the adult's sort. Sort 0: five zeros. Sort 1: amount, four zeros. Sort 2: amounts for levels K, A, B, C, D
abbrev pub tickets_right : AreaFields → LongFields → Bool
tickets_right f g =
    eqb f.sort 0 && eqb g.child1 0 && tickets_unused g
    || eqb f.sort 1 && money g.child1 && tickets_unused g
    || eqb f.sort 2 && money g.child1 && money g.child2 && money g.child3 && money g.child4 && money g.child5

-- what kind 8 has besides: the child tickets; the bicycle price; the town mark 0, or 1 or 2 in a city
unfoldable pub long_right : AreaFields → LongFields → Bool
long_right f g = tickets_right f g && money g.bicycle_price && (eqb g.town 0 || leb g.town 2 && eqb f.level 2)

-- the level, the flat and the kind of an area by number
abbrev pub level_of : List ℕ → ℕ → ℕ
level_of b number = (area_fields b (area_place b number)).level

abbrev pub flat_of : List ℕ → ℕ → ℕ
flat_of b number = (area_fields b (area_place b number)).bicycle_flat

abbrev pub kind_of : List ℕ → ℕ → ℕ
kind_of b number = kind_at b (area_place b number)

-- the next area after those so far: area 0 alone has level 0, parent 0, and it is of kind 1; a region's parent is 0; a city's is an earlier
-- region of its own kind; no flat exceeds its parent's, but that of a region of kind 8 is not compared with the state's
unfoldable pub place_right : List ℕ → Counts → ℕ → AreaFields → Bool
place_right b so_far kind f =
    cond (eqb so_far.areas 0) (eqb f.level 0 && eqb f.parent 0 && eqb kind common_kind)
    (ltb f.parent so_far.areas
    && (eqb f.level 1 && eqb f.parent 0
    || eqb f.level 2 && eqb (level_of b f.parent) 1 && eqb (kind_of b f.parent) kind)
    && (eqb f.level 1 && eqb kind aachen_kind || leb f.bicycle_flat (flat_of b f.parent)))

-- every rule about an area's values
abbrev pub area_right : List ℕ → Counts → ℕ → AreaFields → LongFields → Bool
area_right b so_far kind f g =
    prices_right f && caps_right f && place_right b so_far kind f && cond (eqb kind aachen_kind) (long_right f g) true

-- how many of the first n areas are the state or a region, by their levels
unfoldable pub wide_among : (ℕ → ℕ) → ℕ → ℕ
wide_among level zero = 0
wide_among level (suc n) = wide_among level n + cond (ltb (level n) 2) 1 0

abbrev pub wide_areas : List ℕ → ℕ → ℕ
wide_areas b n = wide_among (level_of b) n

-- the state and each region have a factor record: so many are due for the areas so far
abbrev pub factors_due : List ℕ → Counts → ℕ
factors_due b so_far = wide_areas b so_far.areas

-- the next factor record after so many: the factor; the mark is 0, or 1 where it is not the state's, which is the first
abbrev pub factor_right : Factor → ℕ → Bool
factor_right f before = leb 1 f.factor && leb f.factor most_factor && (eqb f.mark 0 || eqb f.mark 1 && ltb 0 before)

-- a stop's area exists; x and y lie on the plane
abbrev pub stop_right : StopFields → ℕ → Bool
stop_right f areas = ltb f.area areas && leb f.x most_metres && leb f.y most_metres
