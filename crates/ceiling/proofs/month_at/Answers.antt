-- `ceiling::month_at` meets its contract: the moment is the calendar's, and the year and month make the month.
use Rattle.ceiling.proofs.Months.{month_made}
use Rattle.ceiling.proofs.month_at.Goals as goal

pub returns : goal.returns
returns c = month_made _ _ c.moment_of-moment.ensures
