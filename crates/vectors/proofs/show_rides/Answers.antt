-- `vectors::show_rides` is safe and ends: a trip is broken at one of its stops.
use native.Mathlib.Omega.{arith}
use mathlib.Core.Path.{sym, ◌∙◌}
use Rattle.fare.proofs.Breaks.{broken_between}
use Rattle.vectors.proofs.show_rides.Goals as goal

pub first_part-requires : goal.first_part-requires
first_part-requires g c =
    let (riding, (order, is)) = c.requires in
    (riding, (order, omega (arith, (broken_between riding _ (sym is ∙ c.in-At.is)).1)))

pub second_part-requires : goal.second_part-requires
second_part-requires g c =
    let (riding, (order, is)) = c.requires in
    (riding, omega (arith, (broken_between riding _ (sym is ∙ c.in-At.is)).1))
