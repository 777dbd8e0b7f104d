-- `units::divided_up` meets its contract: with nothing left over the quotient is whole, else one more, which is at most n.
use Prim.Native.Nat.{◌/◌}
use native.Mathlib.Nat.{add-zero, div-add-mod', le-mul_of_pos_right, pos_of_ne-zero}
use native.Mathlib.Omega.{arith}
use mathlib.Core.Path.{sym}
use borrow.Author.Tests.{eq-eqb, ne_eqb}
use Rattle.units.specs.Rounding.{divided_up}
use Rattle.units.proofs.divided_up.Goals as goal

pub overflow_add-result : goal.overflow_add-result
overflow_add-result c =
    let n = c.args.n in
    let d = c.args.d in
    omega (arith, div-add-mod' n d, le-mul_of_pos_right (n / d) c.requires, pos_of_ne-zero c.if-n-d-eq0.false)

pub returns-then-n-d-eq0 : goal.returns-then-n-d-eq0
unfolding divided_up
returns-then-n-d-eq0 c = rw (eq-eqb _ 0 c.if-n-d-eq0.true) (sym (add-zero _))

pub returns-else-n-d-eq0 : goal.returns-else-n-d-eq0
unfolding divided_up
returns-else-n-d-eq0 c = rw (ne_eqb _ 0 c.if-n-d-eq0.false)
