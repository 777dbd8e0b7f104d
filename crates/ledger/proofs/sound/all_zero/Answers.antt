-- `ledger::sound::all_zero` meets its contract: no bit is set exactly where all words are 0.
use Rattle.ledger.proofs.ZeroLaws.{bits_zero}
use Rattle.ledger.proofs.sound.all_zero.Goals as goal

pub returns : goal.returns
returns c = bits_zero c.args.book.now c.bits_of_all.result c.bits_of_all.ensures
