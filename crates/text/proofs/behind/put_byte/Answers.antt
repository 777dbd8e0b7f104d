-- `behind::put_byte` meets its contract: the byte stands behind what was there.
use native.Mathlib.Omega.{arith}
use Rattle.text.proofs.Puts.{byte_behind}
use Rattle.text.proofs.behind.put_byte.Goals as goal

pub returns : goal.returns
returns c = byte_behind _ _ _ (omega arith)
