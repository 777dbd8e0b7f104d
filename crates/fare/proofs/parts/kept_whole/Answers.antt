-- The two tests of the definition.
use Rattle.fare.specs.Parts.{kept_whole}
use Rattle.fare.proofs.parts.kept_whole.Goals as goal

pub returns : goal.returns
unfolding kept_whole
returns c = rw (c.is_city.ensures, c.requires.1.1)
