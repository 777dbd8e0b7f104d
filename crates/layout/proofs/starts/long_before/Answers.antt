-- `layout::starts::long_before` meets its contract: the power of two is within the word.
use Prim.Native.Nat.{◌*◌, ◌%◌, ◌^◌}
use native.Mathlib.Omega.{arith}
use native.Mathlib.Nat.{one-mul}
use mathlib.Core.Path.{◌≡◌, ◌∙◌}
use lib.Dec.{lit<}
use lib.Pow.{pow_pos, shl_exact}
use Rattle.layout.proofs.starts.long_before.Goals as goal

pub nonzero_rem-result : goal.nonzero_rem-result
nonzero_rem-result c =
    let power : 1 * 2 ^ c.args.number % 2 ^ 32 ≡ 2 ^ c.args.number = shl_exact {a = 1} 1 c.args.number 32 (lit< tt) (omega arith) ∙ one-mul (2 ^ c.args.number) in
    rw power (pow_pos c.args.number)

pub returns : goal.returns
returns c =
    let power : 1 * 2 ^ c.args.number % 2 ^ 32 ≡ 2 ^ c.args.number = shl_exact {a = 1} 1 c.args.number 32 (lit< tt) (omega arith) ∙ one-mul (2 ^ c.args.number) in
    rw power
