-- `charging::state::state_ride` meets its contract: the head, the two groups of persons behind it, and the bicycles behind them. The loop's
-- invariant: the groups before the one at hand are written. The measure is the number of groups left.
use native.Mathlib.Omega.{arith}
use mathlib.Core.Path.{◌≡◌, refl}
use Rattle.statement.proofs.Wrote.{length_wrote}
use Rattle.charging.proofs.Stating.{ride_fits, group_of, next_group, groups_none, groups_more, groups_all, group_stateable, bicycles_room, ride_wrote}
use Rattle.charging.proofs.state.state_ride.Goals as goal

pub write_ride-next-requires : goal.write_ride-next-requires
write_ride-next-requires c = let p = c.requires in (omega (arith, p.room), ride_fits p.ridden.rideable)

pub loop-init : goal.loop-init
unfolding group_of
loop-init c = (omega arith, refl, groups_none _ _ _ _ _)

pub state_riders-next-requires : goal.state_riders-next-requires
state_riders-next-requires c =
    let head = c.write_ride-next.ensures in
    group_stateable c.requires head c.loop.invariant.2 (omega (arith, c.well_formed)) c.loop-test.true c.loop.invariant.1

pub loop-smaller : goal.loop-smaller
loop-smaller c = omega (arith, c.loop-test.true)

pub loop-preserved : goal.loop-preserved
loop-preserved c =
    let test = c.loop-test.true in (
      omega (arith, test),
      next_group _ _,
      groups_more c.loop.invariant.2 test c.loop.invariant.1 c.state_riders-next.ensures,
    )

pub state_bicycles-requires : goal.state_bicycles-requires
state_bicycles-requires c =
    let both : c.loop.counter ≡ 2 = omega (arith, c.loop.invariant.0, c.loop-test.false) in
    (c.requires.ridden, bicycles_room c.requires c.write_ride-next.ensures c.loop.invariant.2 both)

pub returns : goal.returns
returns c =
    let a = c.args in
    let both : c.loop.counter ≡ 2 = omega (arith, c.loop.invariant.0, c.loop-test.false) in
    ride_wrote a.tariff.now a.counts a.book.now a.window a.ride a.earlier c.write_ride-next.ensures
    (groups_all c.loop.invariant.2 both) c.state_bicycles.ensures

pub shape_of-statement : goal.shape_of-statement
shape_of-statement c = length_wrote (returns c)
