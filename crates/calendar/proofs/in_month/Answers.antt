-- `calendar::in_month` meets its contract: no month has fewer than 28 days.
use native.Mathlib.Omega.{arith}
use mathlib.Core.Path.{sym}
use borrow.Author.Tests.{le-leb}
use Rattle.calendar.specs.Days.{leap, month_days}
use Rattle.calendar.proofs.Days.{month_least}
use Rattle.calendar.proofs.in_month.Goals as goal

pub returns-then-day-le28 : goal.returns-then-day-le28
returns-then-day-le28 c =
    let given = c.args in
    sym
    (le-leb given.day (month_days (leap given.year) given.month)
    (omega (arith, c.if-day-le28.true, month_least (leap given.year) given.month)))

pub returns : goal.returns
returns c = rw (c.month_days.ensures, c.is_leap.ensures)
