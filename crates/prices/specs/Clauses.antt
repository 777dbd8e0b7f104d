-- What serves contracts alone: what a price asks, and each answer with its range.
use Rattle.std.specs.Prelude.{ℕ, ◌≤◌, ◌≡◌}
use Rattle.units.specs.Day.{day_minutes}
use Rattle.units.specs.Plane.{most_km}
use Rattle.layout.specs.declared.Area.{Area}
use Rattle.areas.specs.Areas.{AreaRanges}
use Rattle.trip.specs.declared.Ride.{Ride}

-- an amount by its definition, and no more than so much
pub record Amount (most expected r : ℕ) : Type 0 where
  pub value : r ≡ expected
  pub range : r ≤ most

-- an area of a faultless tariff, and a ride of at most a day across the plane
pub record Priceable (area : Area) (ride : Ride) : Type 0 where
  pub ranges : AreaRanges area
  pub minutes : ride.minutes.0 ≤ day_minutes
  pub km : ride.km.0 ≤ most_km
