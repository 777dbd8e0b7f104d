-- `kilometres::least_km` meets its contract: from one point to itself there are none, and else the functions that it calls find them, whatever the
-- guess is.
use Prim.Native.Nat.{◌<◌}
use native.Mathlib.Nat.{mul-le-mul}
use native.Mathlib.Omega.{arith}
use mathlib.Core.Path.{◌≡◌}
use Rattle.fare.proofs.Distance.{across, nowhere}
use Rattle.fare.proofs.kilometres.least_km.Goals as goal

pub returns-then-longer-eq0 : goal.returns-then-longer-eq0
returns-then-longer-eq0 c =
    let longer : c.args.longer ≡ 0 = omega arith in
    let shorter : c.args.shorter ≡ 0 = omega arith in
    rw (longer, shorter) nowhere

pub overflow_mul-d : goal.overflow_mul-d
overflow_mul-d c = omega (arith, across c.args.longer c.args.shorter (omega arith) (omega arith))

pub overflow_mul-d-2 : goal.overflow_mul-d-2
overflow_mul-d-2 c = omega (arith, across c.args.longer c.args.shorter (omega arith) (omega arith))

pub overflow_add-d : goal.overflow_add-d
overflow_add-d c = omega (arith, across c.args.longer c.args.shorter (omega arith) (omega arith))

pub not_enough-requires : goal.not_enough-requires
not_enough-requires c =
    let some : 0 < c.args.longer = omega arith in
    (omega (arith, mul-le-mul some some), c.guess.ensures)

pub first_enough-requires : goal.first_enough-requires
first_enough-requires c =
    let a = c.args in
    (across a.longer a.shorter (omega arith) (omega arith), c.not_enough.ensures)
