-- `ledger::zeros::bits_of_8` meets its contract: it joins four times two words.
use Rattle.std.proofs.Common.{◌+◌, arith}
use Rattle.ledger.proofs.ZeroLaws.{bits_two, bits_more}
use Rattle.ledger.proofs.zeros.bits_of_8.Goals as goal

pub returns : goal.returns
returns c =
    let args = c.args in
    let b = args.book.now in
    let p = args.place in
    let one = bits_two b p _ _ c.eight_at.ensures (omega arith) in
    let two = bits_two b (p + 2) _ _ c.eight_at-2.ensures (omega arith) in
    let three = bits_two b (p + 4) _ _ c.eight_at-3.ensures (omega arith) in
    let four = bits_two b (p + 6) _ _ c.eight_at-4.ensures (omega arith) in
    bits_more 2 (omega arith) one two three four (omega arith) (omega arith) (omega arith)
