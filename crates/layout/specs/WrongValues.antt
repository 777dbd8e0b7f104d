-- Rules, section 4: the ways in which a record's value is outside its range or breaks a rule, each in the rules' words.
use Rattle.std.specs.Prelude.{ℕ, ◌≤◌, ◌<◌, ◌≡◌, List, [], ◌∷◌}
use Rattle.layout.specs.declared.Counts.{Counts}
use Rattle.layout.specs.declared.Factor.{Factor}
use Rattle.layout.specs.declared.fields.AreaFields.{AreaFields}
use Rattle.layout.specs.declared.fields.LongFields.{LongFields}
use Rattle.layout.specs.declared.fields.StopFields.{StopFields}
use Rattle.layout.specs.Layout.{common_kind, aachen_kind}
use Rattle.layout.specs.Rules.{
  most_base_price,
  most_price_per_km,
  least_minutes,
  most_minutes,
  most_percent,
  most_money,
  no_day_cap,
  most_factor,
  most_metres,
  level_of,
  flat_of,
  kind_of,
}

-- one of some numbers is such
pub data OneOf (Such : ℕ → Type 0) : List ℕ → Type 0 where
  here : {n : ℕ} {more : List ℕ} → Such n → OneOf Such (n ∷ more)
  later : {n : ℕ} {more : List ℕ} → OneOf Such more → OneOf Such (n ∷ more)

abbrev pub NotZero : ℕ → Type 0
NotZero n = n ≡ 0 → ⊥

-- money is 0..60,000
abbrev pub TooMuch : ℕ → Type 0
TooMuch n = most_money < n

-- trip-cap sort 0..2. Sort 0: five zeros. Sort 1: amount, minutes 30..1,440, three zeros. Sort 2: amounts for levels K, A, B, C, D
pub data WrongTripCap (f : AreaFields) : Type 0 where
  no_sort : 2 < f.sort → WrongTripCap f
  no_cap_zeros : f.sort ≡ 0 → OneOf NotZero (f.cap1 ∷ f.cap2 ∷ f.cap3 ∷ f.cap4 ∷ f.cap5 ∷ []) → WrongTripCap f
  flat_amount : f.sort ≡ 1 → TooMuch f.cap1 → WrongTripCap f
  flat_short : f.sort ≡ 1 → f.cap2 < least_minutes → WrongTripCap f
  flat_long : f.sort ≡ 1 → most_minutes < f.cap2 → WrongTripCap f
  flat_zeros : f.sort ≡ 1 → OneOf NotZero (f.cap3 ∷ f.cap4 ∷ f.cap5 ∷ []) → WrongTripCap f
  level_amount : f.sort ≡ 2 → OneOf TooMuch (f.cap1 ∷ f.cap2 ∷ f.cap3 ∷ f.cap4 ∷ f.cap5 ∷ []) → WrongTripCap f

-- the child tickets of a record of kind 8 go by that sort. Sort 0: five zeros. Sort 1: amount, four zeros. Sort 2: five amounts
pub data WrongTickets (f : AreaFields) (g : LongFields) : Type 0 where
  no_ticket_zeros :
      f.sort ≡ 0 → OneOf NotZero (g.child1 ∷ g.child2 ∷ g.child3 ∷ g.child4 ∷ g.child5 ∷ []) → WrongTickets f g
  flat_ticket : f.sort ≡ 1 → TooMuch g.child1 → WrongTickets f g
  flat_ticket_zeros : f.sort ≡ 1 → OneOf NotZero (g.child2 ∷ g.child3 ∷ g.child4 ∷ g.child5 ∷ []) → WrongTickets f g
  level_ticket : f.sort ≡ 2 → OneOf TooMuch (g.child1 ∷ g.child2 ∷ g.child3 ∷ g.child4 ∷ g.child5 ∷ []) → WrongTickets f g

-- the next area after those so far. Area 0 alone has level 0, parent 0, and is of kind 1; level 0..2; a region's parent is 0; a city's is an
-- earlier region, whose kind it has; no area's bicycle flat exceeds its parent's, unless it is a region of kind 8
pub data WrongPlace (b : List ℕ) (so_far : Counts) (kind : ℕ) (f : AreaFields) : Type 0 where
  state_level : so_far.areas ≡ 0 → (f.level ≡ 0 → ⊥) → WrongPlace b so_far kind f
  state_parent : so_far.areas ≡ 0 → (f.parent ≡ 0 → ⊥) → WrongPlace b so_far kind f
  state_kind : so_far.areas ≡ 0 → (kind ≡ common_kind → ⊥) → WrongPlace b so_far kind f
  second_state : 0 < so_far.areas → f.level ≡ 0 → WrongPlace b so_far kind f
  high_level : 2 < f.level → WrongPlace b so_far kind f
  region_parent : 0 < so_far.areas → f.level ≡ 1 → (f.parent ≡ 0 → ⊥) → WrongPlace b so_far kind f
  city_parent :
      0 < so_far.areas → f.level ≡ 2 → (f.parent < so_far.areas → level_of b f.parent ≡ 1 → ⊥) → WrongPlace b so_far kind f
  city_kind :
      0 < so_far.areas → f.level ≡ 2 → f.parent < so_far.areas → (kind_of b f.parent ≡ kind → ⊥) → WrongPlace b so_far kind f
  flat_above :
      0 < so_far.areas → f.parent < so_far.areas → (f.level ≡ 1 → kind ≡ aachen_kind → ⊥) → flat_of b f.parent < f.bicycle_flat
      → WrongPlace b so_far kind f

-- an area: base 0..10,000; km price 0..1,000; validity 30..1,440; percentages 0..100; its trip cap; day cap 0..60,000, or 65,535, which
-- means none; bicycle flat 0..60,000; its place among the areas; and of kind 8 its child tickets; bicycle price 0..60,000; town mark 0..2, and
-- 0 unless it is a city
pub data WrongArea (b : List ℕ) (so_far : Counts) (kind : ℕ) (f : AreaFields) (g : LongFields) : Type 0 where
  high_base : most_base_price < f.base_price → WrongArea b so_far kind f g
  high_rate : most_price_per_km < f.price_per_km → WrongArea b so_far kind f g
  short_validity : f.validity < least_minutes → WrongArea b so_far kind f g
  long_validity : most_minutes < f.validity → WrongArea b so_far kind f g
  high_surcharge : most_percent < f.surcharge → WrongArea b so_far kind f g
  high_reduction : most_percent < f.reduction → WrongArea b so_far kind f g
  wrong_trip_cap : WrongTripCap f → WrongArea b so_far kind f g
  high_day_cap : TooMuch f.day_cap → (f.day_cap ≡ no_day_cap → ⊥) → WrongArea b so_far kind f g
  high_flat : TooMuch f.bicycle_flat → WrongArea b so_far kind f g
  wrong_place : WrongPlace b so_far kind f → WrongArea b so_far kind f g
  wrong_tickets : kind ≡ aachen_kind → WrongTickets f g → WrongArea b so_far kind f g
  high_bicycle_price : kind ≡ aachen_kind → TooMuch g.bicycle_price → WrongArea b so_far kind f g
  high_town : kind ≡ aachen_kind → 2 < g.town → WrongArea b so_far kind f g
  town_marked : kind ≡ aachen_kind → NotZero g.town → (f.level ≡ 2 → ⊥) → WrongArea b so_far kind f g

-- a factor record after so many: factor 1..9; mark 0 or 1; the state's, which is the first, 0
pub data WrongFactor (f : Factor) (before : ℕ) : Type 0 where
  low_factor : f.factor < 1 → WrongFactor f before
  high_factor : most_factor < f.factor → WrongFactor f before
  high_mark : 1 < f.mark → WrongFactor f before
  state_marked : before ≡ 0 → NotZero f.mark → WrongFactor f before

-- a stop's area exists; x and y are 0..1,000,000
pub data WrongStop (f : StopFields) (areas : ℕ) : Type 0 where
  lacking_area : areas ≤ f.area → WrongStop f areas
  far_x : most_metres < f.x → WrongStop f areas
  far_y : most_metres < f.y → WrongStop f areas
