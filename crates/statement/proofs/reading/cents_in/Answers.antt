-- `statement::reading::cents_in` meets its contract: the loop has added the charges of the records that it passed. The measure is the bytes that
-- are left.
use native.Mathlib.Omega.{arith}
use Rattle.statement.proofs.Sums.{added_none, record_next, added_more, added_all}
use Rattle.statement.proofs.reading.cents_in.Goals as goal

pub loop-next-init : goal.loop-next-init
loop-next-init c = added_none c.requires

pub cents_at-cents-requires : goal.cents_at-cents-requires
cents_at-cents-requires c = record_next c.loop-next-test.true c.loop-next.invariant.records

pub overflow_add-cents : goal.overflow_add-cents
overflow_add-cents c = omega (arith, c.loop-next.invariant.range, c.cents_at-cents.ensures.range)

pub size_at-next-requires : goal.size_at-next-requires
size_at-next-requires c = record_next c.loop-next-test.true c.loop-next.invariant.records

pub overflow_add-next : goal.overflow_add-next
overflow_add-next c =
    let at = record_next c.loop-next-test.true c.loop-next.invariant.records in
    omega (arith, c.size_at-next.ensures.0, at.inside)

pub loop-next-smaller : goal.loop-next-smaller
loop-next-smaller c = omega (arith, c.size_at-next.ensures.0)

pub loop-next-preserved : goal.loop-next-preserved
loop-next-preserved c = rw c.size_at-next.ensures.0 (added_more c.loop-next-test.true c.loop-next.invariant c.cents_at-cents.ensures)

pub returns : goal.returns
returns c = added_all c.loop-next-test.false c.loop-next.invariant
