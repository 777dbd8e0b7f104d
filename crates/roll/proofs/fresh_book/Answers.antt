-- `roll::fresh_book` meets its contract: a book of zeros is the fresh one, which is sound under every file.
use mathlib.Core.Path.{refl, sym}
use Rattle.ledger.proofs.WordLaws.{fresh_size}
use Rattle.roll.proofs.Fresh.{fresh_in}
use Rattle.roll.proofs.fresh_book.Goals as goal

pub returns : goal.returns
returns c = record { is = refl; size = sym fresh_size; sound_book = fresh_in }
