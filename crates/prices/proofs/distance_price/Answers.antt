-- `prices::distance_price` meets its contract: the sum of the two parts, each by its own contract, which fits 32 bits.
use borrow.Author.Rules.{rules}
use Rattle.prices.specs.Prices.{step1}
use Rattle.prices.proofs.distance_price.Goals as goal

pub returns : goal.returns
unfolding step1
returns c = record { value = search rules; range = search rules }
