-- The stops as they were found.
use Rattle.fare.proofs.parts.comes_back_from.Goals as goal

pub returns : goal.returns
returns c =
    rw (← c.stop_of-first.ensures.value, ← c.stop_of-last.ensures.value, ← c.stop_of-change.ensures.value)
    c.comes_back.ensures
