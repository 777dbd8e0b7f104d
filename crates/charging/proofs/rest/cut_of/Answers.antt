-- `charging::rest::cut_of` meets its contract.
use Rattle.charging.proofs.rest.cut_of.Goals as goal

pub returns : goal.returns
returns c = rw c.name_of-name.ensures
