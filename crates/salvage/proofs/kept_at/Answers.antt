-- `kept_at` meets its contract: each way through its tests is a way through `kept_at`, and a record ends within the roll, so its length is a number.
use native.Mathlib.Omega.{arith}
use mathlib.Core.Path.{◌≡◌, sym, ◌∙◌}
use mathlib.Core.Bool.{true, false}
use Rattle.trip.specs.Record.{shape_at}
use Rattle.trip.specs.declared.Shape.TheVariants.{Stops}
use Rattle.trip.proofs.Shapes.{trip_at}
use Rattle.salvage.proofs.Records.{no_record, by_party}
use Rattle.salvage.proofs.kept_at.Goals as goal

pub returns-in_default : goal.returns-in_default
returns-in_default c = sym (no_record _ _ (sym c.shape_at.ensures ∙ c.in_default.is))

pub class_at-requires : goal.class_at-requires
class_at-requires c =
    let shape : shape_at c.args.roll.now c.args.at ≡ Stops c.in-Stops.stops = sym c.shape_at.ensures ∙ c.in-Stops.is in
    omega (arith, trip_at _ _ _ shape)

pub level_at-requires : goal.level_at-requires
level_at-requires c =
    let shape : shape_at c.args.roll.now c.args.at ≡ Stops c.in-Stops.stops = sym c.shape_at.ensures ∙ c.in-Stops.is in
    omega (arith, trip_at _ _ _ shape)

pub party_at-requires : goal.party_at-requires
party_at-requires c =
    let shape : shape_at c.args.roll.now c.args.at ≡ Stops c.in-Stops.stops = sym c.shape_at.ensures ∙ c.in-Stops.is in
    omega (arith, trip_at _ _ _ shape)

pub overflow_mul-result : goal.overflow_mul-result
overflow_mul-result c =
    let shape : shape_at c.args.roll.now c.args.at ≡ Stops c.in-Stops.stops = sym c.shape_at.ensures ∙ c.in-Stops.is in
    omega (arith, trip_at _ _ _ shape)

pub overflow_add-result : goal.overflow_add-result
overflow_add-result c =
    let shape : shape_at c.args.roll.now c.args.at ≡ Stops c.in-Stops.stops = sym c.shape_at.ensures ∙ c.in-Stops.is in
    omega (arith, trip_at _ _ _ shape)

pub returns-then-party_right : goal.returns-then-party_right
returns-then-party_right c =
    let shape : shape_at c.args.roll.now c.args.at ≡ Stops c.in-Stops.stops = sym c.shape_at.ensures ∙ c.in-Stops.is in
    sym
    (by_party _ _ _ {t = true} (shape)
    (rw (sym c.class_at.ensures, sym c.level_at.ensures, sym c.party_at.ensures) (sym c.party_right.ensures ∙ c.if-party_right.true)))

pub returns : goal.returns
returns c =
    let shape : shape_at c.args.roll.now c.args.at ≡ Stops c.in-Stops.stops = sym c.shape_at.ensures ∙ c.in-Stops.is in
    sym
    (by_party _ _ _ {t = false} (shape)
    (rw (sym c.class_at.ensures, sym c.level_at.ensures, sym c.party_at.ensures) (sym c.party_right.ensures ∙ c.if-party_right.false)))
