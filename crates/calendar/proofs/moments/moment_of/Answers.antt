-- `calendar::moments::moment_of` meets its contract: its sums are the years that have passed and the day in the year begun, by the laws of
-- `MomentLaws`, and the months' table gives the rest.
use Prim.Native.Nat.{◌/◌}
use native.Mathlib.Omega.{arith}
use Rattle.calendar.proofs.MomentLaws.{before_year_end, moment_made}
use Rattle.calendar.proofs.moments.moment_of.Goals as goal

pub month_of-month-requires : goal.month_of-month-requires
month_of-month-requires c = rw c.is_leap-leap_year.ensures (before_year_end (c.args.minute / 1440) (omega arith))

pub returns : goal.returns
returns c =
    let is-leap = c.is_leap-leap_year.ensures in
    moment_made _ c.month_of-month.result c.days_before.result c.requires
    (rw is-leap at c.month_of-month.ensures)
    (rw is-leap at c.days_before.ensures.value)
