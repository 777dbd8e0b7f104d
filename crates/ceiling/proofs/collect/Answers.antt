-- `ceiling::collect` meets its contract: what is due is put first in its slice, and the new pair fills what is kept.
use native.Mathlib.Omega.{arith}
use Rattle.ceiling.proofs.Kept.{collected}
use Rattle.ceiling.proofs.collect.Goals as goal

pub collected_in-before-requires : goal.collected_in-before-requires
collected_in-before-requires c = let ok = c.requires.0 in record { size = ok.size; ceiling_most = omega arith; amount_most = ok.amount_most }

pub put_four-requires : goal.put_four-requires
put_four-requires c = omega (arith, c.requires.0.size)

pub returns : goal.returns
returns c =
    collected c.requires.0 c.requires.1 c.collected_in-before.ensures.value c.due_of-collects.ensures
    c.put_four.ensures c.put_four-2.ensures c.put_four-3.ensures
