-- `input::fill_from` meets its contract: each read goes behind the bytes that came before. The measure is the bytes that are left to fill.
use native.Mathlib.Omega.{arith}
use Rattle.streams.proofs.Pieces.{read_is, read_failed, nothing_came, more_came, none_came}
use Rattle.streams.proofs.input.fill_from.Goals as goal

pub loop-bytes-init : goal.loop-bytes-init
loop-bytes-init g c = (nothing_came c.args.room.now, omega arith)

pub loop-bytes-preserved : goal.loop-bytes-preserved
loop-bytes-preserved g c = (more_came c.loop-bytes.invariant.0 (read_is c.read_at.ensures c.in-Ok.is) (omega arith), omega arith)

pub returns-in-Err : goal.returns-in-Err
returns-in-Err g c = none_came c.loop-bytes.invariant.0 (read_failed c.read_at.ensures c.in-Err.is) (omega arith)

pub returns-in-Ok-eq0 : goal.returns-in-Ok-eq0
returns-in-Ok-eq0 g c = none_came c.loop-bytes.invariant.0 (read_is c.read_at.ensures c.in-Ok-eq0.is) (omega arith)
