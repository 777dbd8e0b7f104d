-- `layout::rules::long_right` meets its contract: it puts the definition's tests together, the tickets' by their own function.
use Rattle.layout.specs.Rules.{long_right}
use Rattle.layout.proofs.rules.long_right.Goals as goal

pub returns : goal.returns
unfolding long_right
returns c = rw c.tickets_right.ensures
