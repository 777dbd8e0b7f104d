-- `prices::ticket_in` meets its contract: the test of the town is the definition's.
use mathlib.Core.Path.{sym, ◌∙◌}
use Rattle.prices.specs.Prices.{ticket_in}
use Rattle.prices.proofs.ticket_in.Goals as goal

pub returns-then-marked : goal.returns-then-marked
unfolding ticket_in
returns-then-marked c = rw (sym c.marked.ensures ∙ c.if-marked.true)

pub returns : goal.returns
unfolding ticket_in
returns c = rw (sym c.marked.ensures ∙ c.if-marked.false) c.trip_cap.ensures
