-- `charging::limits::pending_in` meets its contract: where a part is earlier, whether its area lies within.
use Rattle.charging.specs.Clauses.{pending_in}
use Rattle.charging.proofs.limits.pending_in.Goals as goal

pub lies_within-requires : goal.lies_within-requires
lies_within-requires c = let p = c.requires in (p.0, rw c.in-Part.is at p.1)

pub returns-in-Nothing : goal.returns-in-Nothing
unfolding pending_in
returns-in-Nothing c = rw c.in-Nothing.is

pub returns-in-Part : goal.returns-in-Part
unfolding pending_in
returns-in-Part c = rw c.in-Part.is c.lies_within.ensures
