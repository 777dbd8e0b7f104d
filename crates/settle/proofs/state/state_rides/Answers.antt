-- `settle::state::state_rides` meets its contract: at each turn the whole trip, both parts, the second or nothing is left to state, and in the end the
-- trip's records are written.
use native.Mathlib.Omega.{arith}
use Rattle.statement.proofs.Wrote.{length_wrote}
use Rattle.settle.proofs.Legs.{there, order, legs_begin, leg_goes, leg_stateable, leg_next, legs_end}
use Rattle.settle.proofs.state.state_rides.Goals as goal

pub overflow_sub-last : goal.overflow_sub-last
overflow_sub-last c = omega (arith, (order c.requires).two)

pub duration-minutes-requires : goal.duration-minutes-requires
duration-minutes-requires c = order c.requires

pub loop-from-init : goal.loop-from-init
loop-from-init c = legs_begin _ _ _ _ _ _ _ c.requires c.first_end-to.ensures c.duration-minutes.ensures.value

pub ride_between-ride-requires : goal.ride_between-ride-requires
ride_between-ride-requires c =
    let clear = c.requires in
    let goes = leg_goes _ _ _ _ _ _ _ clear c.loop-from-test.true c.loop-from.invariant in
    (there clear, (omega (arith, goes.0), (omega (arith, goes.1.0, (order clear).two), goes.1.1)))

pub state_ride-next-requires : goal.state_ride-next-requires
state_ride-next-requires c =
    leg_stateable _ _ _ _ _ _ _ c.requires c.loop-from-test.true c.ride_between-ride.ensures.value
    c.loop-from.invariant

pub loop-from-smaller : goal.loop-from-smaller
loop-from-smaller c = omega (arith, (leg_goes _ _ _ _ _ _ _ c.requires c.loop-from-test.true c.loop-from.invariant).0, (leg_goes _ _ _ _ _ _ _ c.requires c.loop-from-test.true c.loop-from.invariant).1.0)

pub loop-from-preserved : goal.loop-from-preserved
loop-from-preserved c =
    leg_next _ _ _ _ _ _ _ c.requires c.loop-from-test.true c.ride_between-ride.ensures.value c.loop-from.invariant
    c.state_ride-next.ensures

pub shape_of-statement : goal.shape_of-statement
shape_of-statement c = length_wrote (legs_end _ _ _ _ _ _ _ c.requires c.loop-from-test.false c.loop-from.invariant)

pub returns : goal.returns
returns c = legs_end _ _ _ _ _ _ _ c.requires c.loop-from-test.false c.loop-from.invariant
