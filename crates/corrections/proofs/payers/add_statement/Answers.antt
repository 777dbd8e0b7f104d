-- `corrections::payers::add_statement` meets its contract: the loop has added the charges of the records that it passed. The measure is the bytes that
-- are left.
use native.Mathlib.Omega.{arith}
use Rattle.statement.proofs.Sums.{record_next}
use Rattle.corrections.proofs.Paid.{passed_none, passed_most, passed_more, passed_all, at_most_more}
use Rattle.corrections.proofs.payers.add_statement.Goals as goal

pub loop-next-init : goal.loop-next-init
loop-next-init c = passed_none _ c.requires.records

pub add_record-requires : goal.add_record-requires
add_record-requires c = (
  record_next c.loop-next-test.true c.loop-next.invariant.records,
  at_most_more (omega arith) (passed_most c.loop-next.invariant c.requires.sums_most),
)

pub size_at-next-requires : goal.size_at-next-requires
size_at-next-requires c = record_next c.loop-next-test.true c.loop-next.invariant.records

pub overflow_add-next : goal.overflow_add-next
overflow_add-next c =
    let at = record_next c.loop-next-test.true c.loop-next.invariant.records in
    omega (arith, c.size_at-next.ensures.0, at.inside)

pub loop-next-smaller : goal.loop-next-smaller
loop-next-smaller c = omega (arith, c.size_at-next.ensures.0)

pub loop-next-preserved : goal.loop-next-preserved
loop-next-preserved c = rw c.size_at-next.ensures.0 (passed_more c.loop-next-test.true c.loop-next.invariant c.add_record.ensures)

pub returns : goal.returns
returns c = passed_all c.loop-next-test.false c.loop-next.invariant
