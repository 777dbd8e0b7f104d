-- A ride under a faultless tariff has what its price asks.
-- Assumes nothing.
use Prim.Native.Nat.{ℕ}
use mathlib.Core.Path.{◌≡◌}
use mathlib.Core.List.{List}
use Rattle.layout.specs.declared.Area.{Area}
use Rattle.layout.specs.declared.Counts.{Counts}
use Rattle.layout.specs.Scan.{Read}
use Rattle.areas.specs.Areas.{area_at}
use Rattle.areas.proofs.Faultless.{faultless}
use Rattle.trip.specs.declared.Ride.{Ride}
use Rattle.fare.specs.Clauses.{RideIs}
use Rattle.prices.specs.Clauses.{Priceable}

pub priceable :
    (tariff : List ℕ) (counts : Counts) (ride : Ride) (area : Area) → Read tariff counts → RideIs counts ride ride
    → area ≡ area_at tariff ride.area → Priceable area ride
priceable tariff counts ride area read is here =
    record { ranges = rw here ((faultless tariff counts read).area ride.area is.there); minutes = is.minutes; km = is.km }
