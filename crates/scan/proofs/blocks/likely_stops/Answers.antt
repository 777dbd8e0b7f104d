-- `scan::blocks::likely_stops` meets its contract: what is searched stays within the places that there is room for. The measure is how many places
-- are left to look at.
use Rattle.std.proofs.Common.{arith}
use Rattle.scan.proofs.blocks.likely_stops.Goals as goal

pub loop-low-init : goal.loop-low-init
loop-low-init c = (omega arith, omega arith)

pub loop-low-preserved-then-four_at-eq-STOP_HEAD-2 : goal.loop-low-preserved-then-four_at-eq-STOP_HEAD-2
loop-low-preserved-then-four_at-eq-STOP_HEAD-2 c = (omega arith, omega arith)

pub loop-low-preserved : goal.loop-low-preserved
loop-low-preserved c = (omega arith, omega arith)
