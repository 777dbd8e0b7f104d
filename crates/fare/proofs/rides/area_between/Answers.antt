-- Where a stop lies between the two, it is the loop's answer. Else the one stop's area is its own, and one stop more makes it the smallest that
-- contains both.
use Prim.Native.Nat.{◌+◌}
use native.Mathlib.Omega.{arith}
use mathlib.Core.Path.{◌≡◌, sym, subst}
use Rattle.fare.specs.Rides.{AreaOfStops}
use Rattle.fare.specs.Clauses.{StopOf}
use Rattle.fare.proofs.Stops.{one-stop, next_stop}
use Rattle.fare.proofs.rides.area_between.Goals as goal

pub returns : goal.returns
returns c =
    let args = c.args in
    let next : args.first + 1 ≡ args.last = omega arith in
    let one = one-stop c.requires.0 args.first _ c.stop_of-from.ensures in
    let other = subst (λ i. StopOf args.tariff.now args.counts args.trip.now i c.stop_of-to.result) (sym next) c.stop_of-to.ensures in
    subst (λ i. AreaOfStops args.tariff.now args.counts args.trip.now args.first i c.smallest_containing.result) next
    (next_stop c.requires.0 args.first args.first _ _ _ (omega arith) (omega arith) one other c.smallest_containing.ensures)
