-- `charging::limits::link_of` meets its contract: the caps are the area's.
use Rattle.charging.proofs.limits.link_of.Goals as goal

pub returns : goal.returns
returns c = rw c.caps_at.ensures
