-- A trip that meets none of 5 to 9 is a ride, or two: the tariff has its stops, it goes from its first to its last in at most a day, and
-- its ticket level is one.
-- Assumes nothing.
use Prim.Native.Nat.{ℕ}
use native.Mathlib.Nat.{le_of_eq}
use mathlib.Core.Path.{◌≡◌, ◌∙◌}
use mathlib.Core.Bool.{true}
use mathlib.Core.List.{List}
use borrow.Author.Tests.{le-leb}
use Rattle.units.specs.declared.Cents.{Cents}
use Rattle.layout.specs.declared.Counts.{Counts}
use Rattle.layout.specs.Scan.{Read}
use Rattle.units.specs.Levels.{level_cap}
use Rattle.units.proofs.LevelCaps.{answered, answered_levels}
use Rattle.trip.specs.Record.{count_at}
use Rattle.trip.specs.Trips.{trip_of}
use Rattle.trip.specs.Clauses.{GoodTrip}
use Rattle.trip.proofs.Clear.{good_fields}
use Rattle.fare.specs.Clauses.{Riding, InOrder}

pub riding :
    {tariff : List ℕ} {counts : Counts} {bytes : List ℕ} → Read tariff counts → GoodTrip bytes counts.stops
    → Riding tariff counts bytes (count_at bytes 0)
riding read good = record { read = read; known = good.stops; fits = le_of_eq (good_fields good).size }

pub in-order : {bytes : List ℕ} {known : ℕ} → GoodTrip bytes known → InOrder (trip_of bytes)
in-order good =
    record { two = (good_fields good).ranges.least; most = (good_fields good).ranges.most; times = good.order }

-- Whatever an area's five amounts are, the trip's level picks one of them or none: no price is made with a level that is refused.
pub level_answered :
    {bytes : List ℕ} {known : ℕ} → GoodTrip bytes known → (k a b c d : Cents) → answered (level_cap k a b c d (trip_of bytes).level) ≡ true
level_answered {bytes} good k a b c d =
    answered_levels k a b c d (trip_of bytes).level ∙ le-leb _ _ (good_fields good).ranges.level_most
