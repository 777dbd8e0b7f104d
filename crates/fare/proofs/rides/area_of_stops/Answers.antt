-- At each turn the area is the smallest that contains the stops from the first to the one just taken; one stop more, and it is the
-- smallest that contains the area so far and that stop.
use native.Mathlib.Omega.{arith}
use mathlib.Core.Path.{◌≡◌, subst}
use Rattle.fare.specs.Rides.{AreaOfStops}
use Rattle.fare.proofs.Stops.{one-stop, next_stop}
use Rattle.fare.proofs.rides.area_of_stops.Goals as goal

pub loop-i-init : goal.loop-i-init
loop-i-init c = (omega arith, (omega arith, one-stop c.requires.0 c.args.first _ c.stop_of-area.ensures))

pub loop-i-preserved : goal.loop-i-preserved
loop-i-preserved c =
    let at = c.loop-i in (
      omega arith,
      (
        omega arith,
        next_stop c.requires.0 c.args.first at.i at.area _ _ at.invariant.0 (omega arith) at.invariant.1.1
            c.stop_of-next.ensures c.smallest_containing-area.ensures,
      ),
    )

pub returns : goal.returns
returns c =
    let start = c.args in
    let at = c.loop-i in
    let end : at.i ≡ start.last = omega arith in
    subst (λ i. AreaOfStops start.tariff.now start.counts start.trip.now start.first i at.area) end
    at.invariant.1.1
