-- `calendar::is_date` meets its contract: it is the definition's row of tests, with the month's length from `in_month`.
use Rattle.calendar.proofs.is_date.Goals as goal

pub returns : goal.returns
returns c = rw c.in_month.ensures
