-- The area above is found, above that is the state, and both are compared as the definition says.
use Rattle.areas.proofs.Faultless.{faultless}
use Rattle.areas.proofs.Within.{within_found}
use Rattle.areas.proofs.lies_within.Goals as goal

pub returns : goal.returns
returns c =
    within_found (faultless c.args.tariff.now c.args.counts c.requires.0) c.args.inner c.args.outer
    c.parent-above.result c.requires.1 c.parent-above.ensures.value
