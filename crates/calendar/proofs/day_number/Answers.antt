-- `calendar::day_number` meets its contract: its sum over the years is the days of those years by the law of `Days`, and the table gives the rest.
use native.Mathlib.Omega.{arith}
use Rattle.calendar.proofs.Days.{day-number}
use Rattle.calendar.proofs.Fields.{date_fields}
use Rattle.calendar.proofs.day_number.Goals as goal

pub overflow_sub-years : goal.overflow_sub-years
overflow_sub-years c =
    let given = c.args in
    let date = date_fields given.year given.month given.day c.requires in
    omega arith

pub days_before-requires : goal.days_before-requires
days_before-requires c =
    let given = c.args in
    let date = date_fields given.year given.month given.day c.requires in
    (date.first_month, date.last_month)

pub overflow_sub-in_year : goal.overflow_sub-in_year
overflow_sub-in_year c =
    let given = c.args in
    let date = date_fields given.year given.month given.day c.requires in
    omega arith

pub returns : goal.returns
returns c =
    let given = c.args in
    day-number given.year given.month given.day c.days_before.result
    (date_fields given.year given.month given.day c.requires)
    c.days_before.ensures.value
