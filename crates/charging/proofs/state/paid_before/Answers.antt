-- `charging::state::paid_before` meets its contract: where a part is earlier, a number read as far back as a record is long.
use Rattle.charging.proofs.state.paid_before.Goals as goal

pub overflow_sub-place : goal.overflow_sub-place
overflow_sub-place c = (rw c.in-Part.is at c.requires).0

pub four_at-requires : goal.four_at-requires
four_at-requires c = (rw c.in-Part.is at c.requires).1

pub returns-in-Part : goal.returns-in-Part
returns-in-Part c = rw c.in-Part.is c.four_at.ensures.value
