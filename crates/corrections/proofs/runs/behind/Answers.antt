-- `corrections::runs::behind` meets its contract: one record less is left, and one less is to be passed up to the exchanged one.
use Rattle.corrections.proofs.runs.behind.Goals as goal

pub returns : goal.returns
returns c = rw c.one_less.ensures
