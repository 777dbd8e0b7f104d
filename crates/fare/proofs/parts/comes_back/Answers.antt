-- The tests of the definition; f² times what lies between two stops of the plane is far below what a number holds.
use Prim.Native.Nat.{◌*◌, ◌≤◌}
use native.Mathlib.Nat.{mul-le-mul}
use native.Mathlib.Omega.{arith}
use Rattle.fare.specs.Parts.{comes_back}
use Rattle.fare.proofs.parts.comes_back.Goals as goal

pub overflow_mul-result : goal.overflow_mul-result
overflow_mul-result c =
    let most : c.args.factor ≤ 9 = c.requires.1.1.1 in
    omega (arith, mul-le-mul most most)

pub overflow_mul-result-2 : goal.overflow_mul-result-2
overflow_mul-result-2 c =
    let most : c.args.factor ≤ 9 = c.requires.1.1.1 in
    let most² : c.args.factor * c.args.factor ≤ 81 = mul-le-mul most most in
    omega (arith, mul-le-mul most² c.squared_between.ensures.range)

pub returns : goal.returns
unfolding comes_back
returns c = rw (c.squared_between.ensures.value, c.squared_between-2.ensures.value)
