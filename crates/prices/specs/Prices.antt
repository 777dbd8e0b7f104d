-- Rules, section 8: the price of a ride. In an area of kind 1 it has four steps; in one of kind 8 an adult's and a child's have their own.
use Rattle.std.specs.Prelude.{ℕ, ◌+◌, ◌*◌, Bool, cond, leb, eqb}
use Rattle.units.specs.Rounding.{periods, raised_by, reduced_by}
use Rattle.units.specs.Caps.{capped_by}
use Rattle.units.specs.declared.Cap.{Cap}
use Rattle.units.specs.declared.Cap.TheVariants as limit
use Rattle.units.specs.declared.levels.LevelCap.TheVariants as picked
use Rattle.units.specs.Levels.{level_cap}
use Rattle.layout.specs.declared.TripCap.{TripCap}
use Rattle.layout.specs.declared.TripCap.TheVariants as sort
use Rattle.layout.specs.declared.Town.{Town}
use Rattle.layout.specs.declared.Town.TheVariants.{Unmarked, BaseDropped, KmDropped}
use Rattle.layout.specs.declared.Kind.TheVariants.{Common, Aachen}
use Rattle.layout.specs.declared.Area.{Area}
use Rattle.areas.specs.Areas.{is_marked}
use Rattle.trip.specs.declared.Ride.{Ride}

-- the most that step 1 comes to, with 48 periods of 10,000 cents and 1,415 kilometres of 1,000; no price is above twice that (units/Price)
abbrev pub most_base_part : ℕ
most_base_part = 480000

abbrev pub most_km_part : ℕ
most_km_part = 1415000

abbrev pub most_far : ℕ
most_far = most_base_part + most_km_part

-- ---- In an area of kind 1.

-- 1. Base price × periods + km price × km
unfoldable pub base_part : Area → ℕ → ℕ
base_part area minutes = area.base_price.0 * periods minutes area.validity.0

unfoldable pub km_part : Area → ℕ → ℕ
km_part area km = area.price_per_km.0 * km

unfoldable pub step1 : Area → ℕ → ℕ → ℕ
step1 area minutes km = base_part area minutes + km_part area km

-- the trip cap: sort 1 applies up to its minutes; sort 2 by level, and level 0 has none; sorts 0 and 1 ignore the level. The last case is
-- never met: a level above 5 is refused with 6 before anything is priced (fare/GoodTrips: level-answered)
unfoldable pub trip_cap : TripCap → ℕ → ℕ → Cap
trip_cap (sort.NoCap) minutes level = limit.NoCap
trip_cap (sort.Flat amount most) minutes level = cond (leb minutes most.0) (limit.UpTo amount) limit.NoCap
trip_cap (sort.ByLevel k a b c d) minutes level =
    elim (level_cap k a b c d level) [
      | picked.UpTo amount ↦ limit.UpTo amount
      | picked.NoCap ↦ limit.NoCap
      | picked.Refused ↦ limit.NoCap
    ]

-- 2. The smaller of that and the trip cap
unfoldable pub step2 : Area → ℕ → ℕ → ℕ → ℕ
step2 area minutes level amount = capped_by (trip_cap area.trip_cap minutes level) amount

-- 3. Class 1: × (100 + surcharge) ÷ 100, rounded up. Class 2: unchanged
unfoldable pub step3 : Area → ℕ → ℕ → ℕ
step3 area class amount = cond (eqb class 1) (raised_by area.surcharge amount) amount

-- 4. Child: step 3 × (100 − reduction) ÷ 100, rounded up
unfoldable pub step4 : Area → Bool → ℕ → ℕ
step4 area child amount = cond child (reduced_by area.reduction amount) amount

-- the four steps in their order
unfoldable pub common_price : Area → Ride → Bool → ℕ
common_price area ride child =
    step4 area child
    (step3 area ride.class
    (step2 area ride.minutes.0 ride.level (step1 area ride.minutes.0 ride.km.0)))

-- ---- In an area of kind 8.

-- step 1, without what the town drops
unfoldable pub town_step1 : Area → Town → Ride → ℕ
town_step1 area (Unmarked) ride = step1 area ride.minutes.0 ride.km.0
town_step1 area (BaseDropped) ride = km_part area ride.km.0
town_step1 area (KmDropped) ride = base_part area ride.minutes.0

-- the adult's trip cap, or the child's ticket, applies as the trip cap of kind 1 does; in a marked town none applies
unfoldable pub ticket_in : Town → TripCap → Ride → Cap
ticket_in town sort ride = cond (is_marked town) limit.NoCap (trip_cap sort ride.minutes.0 ride.level)

-- Class 1: × (100 + surcharge) ÷ 100, rounded up, not compared. Class 2: the smaller of the amount and the ticket
unfoldable pub raised_or_compared : Area → ℕ → Cap → ℕ → ℕ
raised_or_compared area class ticket amount = cond (eqb class 1) (raised_by area.surcharge amount) (capped_by ticket amount)

-- an adult: step 1; then by the class, compared with the trip cap
unfoldable pub aachen_adult : Area → Town → Ride → ℕ
aachen_adult area town ride =
    let most = ticket_in town area.trip_cap ride in
    raised_or_compared area ride.class most (town_step1 area town ride)

-- a child: step 1 × (100 − reduction) ÷ 100, rounded up; then by the class, compared with the child ticket
unfoldable pub aachen_child : Area → TripCap → Town → Ride → ℕ
aachen_child area sort town ride =
    let ticket = ticket_in town sort ride in
    raised_or_compared area ride.class ticket (reduced_by area.reduction (town_step1 area town ride))

-- ---- In either.

-- the price of a ride in its own area, for an adult or a child
unfoldable pub price_of : Area → Ride → Bool → ℕ
price_of area ride child =
    elim area.kind [
      | Common ↦ common_price area ride child
      | Aachen ticket price town ↦ cond child (aachen_child area ticket town ride) (aachen_adult area town ride)
    ]
