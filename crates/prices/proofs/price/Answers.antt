-- `prices::price` meets its contract: each arm's kind, and the test of the child in kind 8, decide the definition's cases.
use Rattle.prices.specs.Prices.{price_of}
use Rattle.prices.proofs.price.Goals as goal

pub returns-in-Common : goal.returns-in-Common
unfolding price_of
returns-in-Common c =
    record {
      value = rw c.in-Common.is c.common_price.ensures.value;
      range = c.common_price.ensures.range;
    }

pub returns-then-child : goal.returns-then-child
unfolding price_of
returns-then-child c =
    record {
      value = rw (c.in-Aachen.is, c.if-child.true) c.aachen_child.ensures.value;
      range = c.aachen_child.ensures.range;
    }

pub returns-else-child : goal.returns-else-child
unfolding price_of
returns-else-child c =
    record {
      value = rw (c.in-Aachen.is, c.if-child.false) c.aachen_adult.ensures.value;
      range = c.aachen_adult.ensures.range;
    }
