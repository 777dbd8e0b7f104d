-- `scan::blocks::threes_standing` meets its contract: the loop's invariant is that so many stops stand before its place.
-- The measure is the stops that there is still room for.
use Rattle.std.proofs.Common.{arith}
use Rattle.scan.proofs.StopLaws.{none_stand, more_stand}
use Rattle.scan.proofs.blocks.threes_standing.Goals as goal

pub loop-stops-init : goal.loop-stops-init
loop-stops-init c = (omega arith, omega arith, none_stand _ _ _)

pub three_sums-requires : goal.three_sums-requires
three_sums-requires c = (omega arith, omega arith, omega arith)

pub loop-stops-preserved : goal.loop-stops-preserved
loop-stops-preserved c =
    let loop = c.loop-stops in
    let a = c.args in
    let stand = c.three_sums.ensures.told (c.is_clear.ensures.told (c.if-not-is_clear.false)) in
    (omega arith, omega arith, more_stand a.b.now a.from a.areas loop.stops 3 loop.invariant.2 (rw loop.invariant.0 at stand))

pub returns-after-loop-stops : goal.returns-after-loop-stops
returns-after-loop-stops c = (c.loop-stops.invariant.2, c.loop-stops.invariant.1)

pub returns-then-not-is_clear : goal.returns-then-not-is_clear
returns-then-not-is_clear c =
    let loop = c.loop-stops in
    (loop.invariant.2, loop.invariant.1)
