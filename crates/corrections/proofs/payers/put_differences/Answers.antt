-- `corrections::payers::put_differences` meets its contract: the loop has put the differences of the payers that it passed. The measure is the payers
-- that are left.
use native.Mathlib.Omega.{arith}
use Rattle.corrections.proofs.Differences.{put_none, put_long, put_more, put_all}
use Rattle.corrections.proofs.payers.put_differences.Goals as goal

pub loop-payer-init : goal.loop-payer-init
loop-payer-init c = put_none _ _ _

pub put_eight-requires : goal.put_eight-requires
put_eight-requires c = omega (arith, put_long c.loop-payer.invariant, c.requires)

pub loop-payer-preserved : goal.loop-payer-preserved
loop-payer-preserved c = put_more c.loop-payer.invariant c.loop-payer-test.true c.less.ensures c.put_eight.ensures

pub shape_of-differences : goal.shape_of-differences
shape_of-differences c = put_long c.loop-payer.invariant

pub returns : goal.returns
returns c = put_all c.loop-payer.invariant c.requires c.loop-payer-test.false
