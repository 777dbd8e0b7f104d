-- `trip::whole_trip` meets its contract: each way through its tests is a way through `wholeTrip`, and a trip record's length is at most
-- that of its bytes.
use native.Mathlib.Omega.{arith}
use mathlib.Core.Path.{◌≡◌, sym, ◌∙◌}
use Rattle.trip.specs.Record.{shape_at}
use Rattle.trip.specs.declared.Shape.TheVariants.{Stops}
use Rattle.trip.proofs.Shapes.{trip_at, no_whole, whole_longer, whole_given}
use Rattle.trip.proofs.whole_trip.Goals as goal

pub returns-in_default : goal.returns-in_default
returns-in_default c = sym (no_whole _ (sym c.shape_at.ensures ∙ c.in_default.is))

pub overflow_mul-stops : goal.overflow_mul-stops
overflow_mul-stops c =
    let shape : shape_at c.args.trip.now 0 ≡ Stops c.in-Stops.stops = sym c.shape_at.ensures ∙ c.in-Stops.is in
    omega (arith, trip_at _ _ _ shape)

pub overflow_add-stops : goal.overflow_add-stops
overflow_add-stops c =
    let shape : shape_at c.args.trip.now 0 ≡ Stops c.in-Stops.stops = sym c.shape_at.ensures ∙ c.in-Stops.is in
    omega (arith, trip_at _ _ _ shape)

pub returns-then-stops-trip : goal.returns-then-stops-trip
returns-then-stops-trip c =
    let shape : shape_at c.args.trip.now 0 ≡ Stops c.in-Stops.stops = sym c.shape_at.ensures ∙ c.in-Stops.is in
    sym (whole_given _ _ shape (omega arith))

pub returns-else-stops-trip : goal.returns-else-stops-trip
returns-else-stops-trip c =
    let shape : shape_at c.args.trip.now 0 ≡ Stops c.in-Stops.stops = sym c.shape_at.ensures ∙ c.in-Stops.is in
    sym (whole_longer _ _ shape (λ same. omega arith))
