-- `prices::aachen_adult` meets its contract: step 1 and the trip cap of the town, then by the class.
use Rattle.prices.specs.Prices.{aachen_adult}
use Rattle.prices.proofs.aachen_adult.Goals as goal

pub raised_or_compared-requires : goal.raised_or_compared-requires
raised_or_compared-requires c = (c.requires.ranges, c.town_price-far.ensures.range)

pub returns : goal.returns
unfolding aachen_adult
returns c =
    record {
      value = rw (c.raised_or_compared.ensures.value, c.ticket_in-most.ensures, c.town_price-far.ensures.value);
      range = c.raised_or_compared.ensures.range;
    }
