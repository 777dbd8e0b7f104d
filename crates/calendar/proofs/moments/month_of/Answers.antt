-- `calendar::moments::month_of` meets its contract: the day divided by 32 leaves two months, or December, and the days before the second decide.
use native.Mathlib.Omega.{arith}
use Rattle.calendar.proofs.MomentLaws.{year_most, december, first_month, second_month}
use Rattle.calendar.proofs.moments.month_of.Goals as goal

pub overflow_cast-month : goal.overflow_cast-month
overflow_cast-month c = omega (arith, year_most c.args.leap_year c.args.day c.requires)

pub overflow_add-month : goal.overflow_add-month
overflow_add-month c = omega (arith, year_most c.args.leap_year c.args.day c.requires)

pub returns-then-month-eq12 : goal.returns-then-month-eq12
returns-then-month-eq12 c = december _ _ c.requires (omega arith)

pub overflow_add-month-2 : goal.overflow_add-month-2
overflow_add-month-2 c = omega (arith, year_most c.args.leap_year c.args.day c.requires)

pub days_before-requires : goal.days_before-requires
days_before-requires c =
    let most = year_most c.args.leap_year c.args.day c.requires in
    (omega arith, omega arith)

pub overflow_add-result : goal.overflow_add-result
overflow_add-result c = omega (arith, year_most c.args.leap_year c.args.day c.requires)

pub returns-then-days_before-day : goal.returns-then-days_before-day
returns-then-days_before-day c =
    let most = year_most c.args.leap_year c.args.day c.requires in
    second_month c.args.leap_year c.args.day c.days_before.result (omega arith) c.days_before.ensures.value
    (omega arith)

pub returns-else-days_before-day : goal.returns-else-days_before-day
returns-else-days_before-day c =
    let most = year_most c.args.leap_year c.args.day c.requires in
    first_month c.args.leap_year c.args.day c.days_before.result (omega arith) c.days_before.ensures.value
    (omega arith)
