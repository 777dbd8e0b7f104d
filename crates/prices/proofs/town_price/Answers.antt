-- `prices::town_price` meets its contract: each arm is one of the definition's cases.
use native.Mathlib.Omega.{arith}
use Rattle.prices.specs.Prices.{town_step1}
use Rattle.prices.proofs.town_price.Goals as goal

pub returns-in-Unmarked : goal.returns-in-Unmarked
unfolding town_step1
returns-in-Unmarked c = record { value = rw c.in-Unmarked.is (cc); range = omega arith }

pub returns-in-BaseDropped : goal.returns-in-BaseDropped
unfolding town_step1
returns-in-BaseDropped c = record { value = rw c.in-BaseDropped.is (cc); range = omega arith }

pub returns-in-KmDropped : goal.returns-in-KmDropped
unfolding town_step1
returns-in-KmDropped c = record { value = rw c.in-KmDropped.is (cc); range = omega arith }
