-- `prices::aachen_child` meets its contract: step 1 of the town, reduced, and the child ticket, then by the class.
use native.Mathlib.Omega.{arith}
use Rattle.prices.specs.Prices.{aachen_child}
use Rattle.prices.proofs.aachen_child.Goals as goal

pub raised_or_compared-requires : goal.raised_or_compared-requires
raised_or_compared-requires c = (c.requires.ranges, omega (arith, c.reduced-less.ensures.range, c.town_price.ensures.range))

pub returns : goal.returns
unfolding aachen_child
returns c =
    record {
      value =
          rw (
            c.raised_or_compared.ensures.value,
            c.ticket_in-ticket.ensures,
            c.reduced-less.ensures.value,
            c.town_price.ensures.value,
          );
      range = c.raised_or_compared.ensures.range;
    }
