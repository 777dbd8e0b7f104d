-- `trip::shape_at` meets its contract: each way through its tests is a way through `shape_at`, and a body of 20 bytes holds the
-- number of stops.
use Prim.Native.Nat.{◌+◌, ◌≤◌}
use native.Mathlib.Omega.{arith}
use mathlib.Core.Path.{◌≡◌, sym, ◌∙◌}
use borrow.Author.Tests.{eq-eqb, ne_eqb}
use lib.ListN.{length}
use Rattle.wire.specs.Frame.{frame_at}
use Rattle.wire.specs.declared.Frame.TheVariants.{Whole}
use Rattle.wire.proofs.Frames.{whole}
use Rattle.trip.specs.Record.{trip_size}
use Rattle.trip.proofs.Shapes.{own, broken_shape, foreign_shape, own_shape}
use Rattle.trip.proofs.shape_at.Goals as goal

pub returns-then-kind-body : goal.returns-then-kind-body
returns-then-kind-body c =
    let frame : frame_at c.args.b.now c.args.at
    ≡ Whole c.in-Whole.kind c.in-Whole.body = sym c.frame_at.ensures ∙ c.in-Whole.is in
    sym (foreign_shape _ _ _ _ frame c.if-kind-body.true)

pub overflow_add-at : goal.overflow_add-at
overflow_add-at c =
    let frame : frame_at c.args.b.now c.args.at
    ≡ Whole c.in-Whole.kind c.in-Whole.body = sym c.frame_at.ensures ∙ c.in-Whole.is in
    let room : c.args.at + trip_size 0
    ≤ length c.args.b.now = let facts = whole _ _ _ _ frame in
    let body = own c.in-Whole.kind c.in-Whole.body c.if-kind-body.false in
    omega arith in
    omega (arith, room)

pub one_at-stops-requires : goal.one_at-stops-requires
one_at-stops-requires c =
    let frame : frame_at c.args.b.now c.args.at
    ≡ Whole c.in-Whole.kind c.in-Whole.body = sym c.frame_at.ensures ∙ c.in-Whole.is in
    let room : c.args.at + trip_size 0
    ≤ length c.args.b.now = let facts = whole _ _ _ _ frame in
    let body = own c.in-Whole.kind c.in-Whole.body c.if-kind-body.false in
    omega arith in
    omega (arith, room)

pub returns-in-Broken : goal.returns-in-Broken
returns-in-Broken c = sym (broken_shape _ _ (sym c.frame_at.ensures ∙ c.in-Broken.is))

pub returns-then-body-stops : goal.returns-then-body-stops
returns-then-body-stops c =
    let frame : frame_at c.args.b.now c.args.at
    ≡ Whole c.in-Whole.kind c.in-Whole.body = sym c.frame_at.ensures ∙ c.in-Whole.is in
    sym
    (own_shape _ _ _ _ _ frame c.if-kind-body.false
    c.one_at-stops.ensures.value (eq-eqb _ _ c.if-body-stops.true))

pub returns-else-body-stops : goal.returns-else-body-stops
returns-else-body-stops c =
    let frame : frame_at c.args.b.now c.args.at
    ≡ Whole c.in-Whole.kind c.in-Whole.body = sym c.frame_at.ensures ∙ c.in-Whole.is in
    sym
    (own_shape _ _ _ _ _ frame c.if-kind-body.false
    c.one_at-stops.ensures.value (ne_eqb _ _ c.if-body-stops.false))
