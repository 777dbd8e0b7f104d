-- `ledger::zeros::bits_of_32` meets its contract: it joins four times eight words.
use Rattle.std.proofs.Common.{arith}
use Rattle.ledger.proofs.ZeroLaws.{bits_more}
use Rattle.ledger.proofs.zeros.bits_of_32.Goals as goal

pub returns : goal.returns
returns c =
    bits_more 8 (omega arith) c.bits_of_8.ensures c.bits_of_8-2.ensures
    c.bits_of_8-3.ensures
    c.bits_of_8-4.ensures
    (omega arith)
    (omega arith)
    (omega arith)
