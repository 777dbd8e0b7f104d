-- `layout::rules::caps_right` meets its contract: it puts the definition's tests together, the trip cap's by its own function.
use Rattle.layout.specs.Rules.{caps_right}
use Rattle.layout.proofs.rules.caps_right.Goals as goal

pub returns : goal.returns
unfolding caps_right
returns c = rw c.trip_cap_right.ensures
