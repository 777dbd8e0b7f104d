-- `reader::charges::charges_of` meets its contract: a charge for each of the party.
use mathlib.Core.Path.{sym, ap}
use Rattle.reader.specs.Fields.{charges_of}
use Rattle.reader.proofs.charges.charges_of.Goals as goal

pub returns-in-Of : goal.returns-in-Of
returns-in-Of c = sym (ap charges_of c.in-Of.is)
