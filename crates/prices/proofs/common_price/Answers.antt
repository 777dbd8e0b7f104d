-- `prices::common_price` meets its contract: the four steps, one after the other, each by its own contract.
use Rattle.prices.specs.Prices.{step4}
use Rattle.prices.proofs.Steps.{common_priced}
use Rattle.prices.proofs.common_price.Goals as goal

pub returns-then-child : goal.returns-then-child
unfolding step4
returns-then-child c =
    common_priced _ _ _ c.distance_price-far.ensures c.trip_capped-trip.ensures c.in_class-adult.ensures
    (rw c.if-child.true c.reduced.ensures.value)

pub returns-else-child : goal.returns-else-child
unfolding step4
returns-else-child c =
    common_priced _ _ _ c.distance_price-far.ensures c.trip_capped-trip.ensures c.in_class-adult.ensures
    (rw c.if-child.false)
