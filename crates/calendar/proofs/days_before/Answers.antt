-- `calendar::days_before` meets its contract: each row's entry at the month is right by the test of the whole table.
use mathlib.Core.Bool.{true, false}
use Rattle.calendar.proofs.Table.{at_month}
use Rattle.calendar.proofs.days_before.Goals as goal

pub returns-then-leap_year : goal.returns-then-leap_year
returns-then-leap_year c = rw (c.if-leap_year.true, c.leap_row.ensures) (at_month true _ c.requires.0 c.requires.1)

pub returns-else-leap_year : goal.returns-else-leap_year
returns-else-leap_year c = rw (c.if-leap_year.false, c.common_row.ensures) (at_month false _ c.requires.0 c.requires.1)
