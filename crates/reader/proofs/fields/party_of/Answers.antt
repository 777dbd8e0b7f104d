-- `reader::fields::party_of` meets its contract.
use mathlib.Core.Path.{sym, ap}
use Rattle.reader.specs.Filling.{party_of}
use Rattle.reader.proofs.fields.party_of.Goals as goal

pub returns-in-Unsaid : goal.returns-in-Unsaid
returns-in-Unsaid c = sym (ap party_of c.in-Unsaid.is)
