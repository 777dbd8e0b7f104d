-- `areas::child_ticket_of` meets its contract: it hands on what the definition does.
use Rattle.areas.specs.Areas.{child_ticket_of}
use Rattle.areas.proofs.child_ticket_of.Goals as goal

pub returns : goal.returns
unfolding child_ticket_of
returns c = c.cap_of.ensures
