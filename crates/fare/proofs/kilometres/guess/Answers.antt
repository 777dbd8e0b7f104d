-- `kilometres::guess` meets its contract: what is near is at most 1,375,000 m, and d divided by it at most 2,000,000.
use Prim.Native.Nat.{◌+◌, ◌*◌, ◌/◌}
use native.Mathlib.Omega.{arith}
use Rattle.fare.proofs.Distance.{divided}
use Rattle.fare.proofs.kilometres.guess.Goals as goal

pub overflow_add-result : goal.overflow_add-result
overflow_add-result c =
    let a = c.args in
    let near = a.longer + a.shorter * 3 / 8 in
    rw c.requires.3 (omega (arith, divided a.longer a.shorter near (omega arith) (omega arith) (omega arith)))

pub returns : goal.returns
returns c =
    let a = c.args in
    let near = a.longer + a.shorter * 3 / 8 in
    rw c.requires.3 (omega (arith, divided a.longer a.shorter near (omega arith) (omega arith) (omega arith)))
