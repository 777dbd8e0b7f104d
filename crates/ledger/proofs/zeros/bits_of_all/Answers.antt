-- After i turns the bits are those of the first 96 i words; the last 24 come on top, with eight that have come before.
use Rattle.std.proofs.Common.{arith}
use Rattle.ledger.proofs.ZeroLaws.{bits_none, bits_join, bits_more}
use Rattle.ledger.proofs.zeros.bits_of_all.Goals as goal

pub loop-i-init : goal.loop-i-init
loop-i-init c = (omega arith, bits_none c.args.book.now)

pub loop-i-preserved : goal.loop-i-preserved
loop-i-preserved c = (
  omega arith,
  bits_more 32 (omega arith) c.loop-i.invariant.1 c.bits_of_32.ensures
      c.bits_of_32-in-loop-i.ensures
      c.bits_of_32-in-loop-i-2.ensures
      (omega arith)
      (omega arith)
      (omega arith),
)

pub returns : goal.returns
returns c = bits_join c.loop-i.invariant.1 c.bits_of_32-2.ensures (omega arith) (omega arith) (omega arith)
