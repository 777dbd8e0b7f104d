-- `ledger::windows::get_in` meets its contract: in the open window it is the book's word, and each word of a fresh book is 0.
use Rattle.std.proofs.Common.{sym, arith}
use Rattle.ledger.proofs.WordLaws.{word_fresh}
use Rattle.ledger.proofs.windows.get_in.Goals as goal

pub returns-then-current : goal.returns-then-current
returns-then-current c = rw c.if-current.true c.get.ensures

pub returns-else-current : goal.returns-else-current
returns-else-current c = rw c.if-current.false (record { value = sym (word_fresh _); range = omega arith })
