-- `reader::charges::bare` meets its contract: nothing taken off, and no cap named.
use mathlib.Core.Path.{refl}
use Rattle.reader.proofs.charges.bare.Goals as goal

pub returns : goal.returns
returns c = refl
