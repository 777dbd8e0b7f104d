-- `charging::alike::as_before` meets its contract: in a new window all sums are 0, else three pairs are compared.
use Rattle.charging.proofs.AlikeLaws.{same_sums, fresh_sums}
use Rattle.charging.proofs.alike.as_before.Goals as goal

pub returns-then-not-current : goal.returns-then-not-current
returns-then-not-current c = rw (c.if-not-current.true) (fresh_sums _ _)

pub returns : goal.returns
returns c =
    rw (c.if-not-current.false)
    (same_sums _ _ _ _ _ _ c.same_pair.ensures c.same_pair-2.ensures c.same_pair-3.ensures)
