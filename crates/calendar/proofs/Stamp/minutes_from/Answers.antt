-- `calendar::Stamp::minutes_from` meets its contract: no stamp is before minute 0, and none passes the last moment.
use Prim.Native.Nat.{◌≤◌}
use native.Mathlib.Omega.{arith}
use mathlib.Core.Path.{refl}
use Rattle.calendar.specs.Days.{day_number}
use Rattle.calendar.specs.Stamps.{local_minute, minute_number}
use Rattle.calendar.proofs.Days.{day_number_most}
use Rattle.calendar.proofs.Fields.{stamp_parts, date_fields}
use Rattle.calendar.proofs.Order.{within}
use Rattle.calendar.proofs.Stamp.minutes_from.Goals as goal

pub overflow_add-result : goal.overflow_add-result
overflow_add-result c =
    let most : day_number c.args.self.year c.args.self.month c.args.self.day ≤ 36524 = day_number_most _ _ _ (date_fields _ _ _ (stamp_parts c.args.self c.requires.0).date) in
    omega (arith, c.requires.1, most)

pub overflow_add-result-2 : goal.overflow_add-result-2
overflow_add-result-2 c =
    let most : day_number c.args.self.year c.args.self.month c.args.self.day ≤ 36524 = day_number_most _ _ _ (date_fields _ _ _ (stamp_parts c.args.self c.requires.0).date) in
    omega (arith, c.requires.1, most)

pub overflow_sub-result : goal.overflow_sub-result
unfolding local_minute
overflow_sub-result c = omega (arith, c.requires.1, (stamp_parts c.args.self c.requires.0).from-zero)

pub returns : goal.returns
unfolding local_minute minute_number
returns c =
    let end = within c.args.self c.requires.0 in
    rw c.requires.1 record { value = refl; range = omega arith }
