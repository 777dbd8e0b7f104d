-- `caps::name_of` meets its contract.
use borrow.Author.Tests.{eq-eqb, ne_eqb}
use Rattle.caps.proofs.name_of.Goals as goal

pub returns-then-amount-price : goal.returns-then-amount-price
returns-then-amount-price c = rw (eq-eqb _ _ c.if-amount-price.true)

pub returns-else-amount-price : goal.returns-else-amount-price
returns-else-amount-price c = rw (ne_eqb _ _ c.if-amount-price.false)
