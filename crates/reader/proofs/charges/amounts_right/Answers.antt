-- `reader::charges::amounts_right` meets its contract: all charges passed so far are in range. The measure is the charges that are left.
use native.Mathlib.Omega.{arith}
use Rattle.reader.specs.Reading.{fields_for}
use Rattle.reader.proofs.Ranges.{none_wrong, one_right, one_wrong, all_right}
use Rattle.reader.proofs.charges.amounts_right.Goals as goal

pub loop-i-init : goal.loop-i-init
loop-i-init c = (omega arith, none_wrong (fields_for _ _ _))

pub amount_at-requires : goal.amount_at-requires
amount_at-requires c = record { readable = c.requires.0; there = omega (arith, c.requires.1) }

pub amount_right-requires : goal.amount_right-requires
amount_right-requires c = tt

pub returns-then-not-amount_right : goal.returns-then-not-amount_right
returns-then-not-amount_right c = one_wrong (fields_for _ _ _) _ c.amount_at.ensures c.amount_right.ensures _ c.loop-i-test.true (c.if-not-amount_right.true)

pub loop-i-preserved : goal.loop-i-preserved
loop-i-preserved c = (
  omega arith,
  one_right (fields_for _ _ _) _ c.amount_at.ensures c.amount_right.ensures c.loop-i.invariant.1 (c.if-not-amount_right.false),
)

pub returns : goal.returns
returns c = all_right (fields_for _ _ _) _ _ c.loop-i.invariant.0 c.loop-i-test.false c.loop-i.invariant.1
