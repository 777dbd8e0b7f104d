-- `prices::trip_capped` meets its contract: the smaller of the amount and the cap that `trip_cap` answers.
use Rattle.prices.specs.Prices.{step2}
use Rattle.prices.proofs.trip_capped.Goals as goal

pub returns : goal.returns
unfolding step2
returns c =
    record {
      value = rw (← c.trip_cap.ensures) c.capped.ensures.value;
      range = c.capped.ensures.range;
    }
