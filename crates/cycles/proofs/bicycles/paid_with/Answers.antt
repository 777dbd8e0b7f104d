-- `cycles::bicycles::paid_with` meets its contract: a payment is at most the cap, so the payments with it do not wrap.
use native.Mathlib.Omega.{arith}
use Rattle.cycles.proofs.bicycles.paid_with.Goals as goal

pub overflow_add-after : goal.overflow_add-after
overflow_add-after c = let p = c.requires in omega (arith, c.payment-more.ensures, p.0, p.1)

pub returns-then-terms : goal.returns-then-terms
returns-then-terms c = rw (c.if-terms.true, c.payment-more.ensures)

pub returns-else-terms : goal.returns-else-terms
returns-else-terms c = rw c.if-terms.false
