-- `reader::charges::whose_right` meets its contract: a party that is not told is none to test.
use mathlib.Core.Path.{sym, ap}
use Rattle.reader.specs.Ranges.{whose_right}
use Rattle.reader.proofs.charges.whose_right.Goals as goal

pub returns-in-Of : goal.returns-in-Of
returns-in-Of c = sym (ap whose_right c.in-Of.is)
