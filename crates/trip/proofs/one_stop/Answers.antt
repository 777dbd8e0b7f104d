-- `trip::one_stop` meets its contract. The loop's invariant: the answer so far is the test of the stops passed. The measure is the
-- stops left.
use native.Mathlib.Omega.{arith}
use mathlib.Core.Path.{◌≡◌, sym}
use Rattle.trip.proofs.Known.{one_none, one_more}
use Rattle.trip.proofs.one_stop.Goals as goal

pub loop-i-init : goal.loop-i-init
loop-i-init c = (sym (one_none _), omega arith)

pub loop-i-preserved : goal.loop-i-preserved
loop-i-preserved c = (one_more _ _ c.loop-i.invariant.0 c.stop_number.ensures.value c.stop_number-in-loop-i.ensures.value, omega arith)

pub returns : goal.returns
returns c =
    let over : c.loop-i.i ≡ c.args.stops = omega arith in
    rw (← over) c.loop-i.invariant.0
