-- `wire::eight_at` meets its contract: each byte is below 256, so joined by "or" the eight are their number.
use native.Mathlib.Nat.{add_assoc}
use native.Mathlib.Omega.{arith}
use Rattle.wire.specs.Number.{get_le}
use Rattle.wire.proofs.Joined.{eight_joined}
use Rattle.wire.proofs.eight_at.Goals as goal

pub returns : goal.returns
unfolding get_le
returns c =
    let is =
    eight_joined c.word.result c.word-2.result c.word-3.result c.word-4.result c.word-5.result c.word-6.result c.word-7.result
    c.word-8.result (omega arith) (omega arith) (omega arith) (omega arith) (omega arith) (omega arith) (omega arith)
    in
    record { value = rw is (simp add_assoc (omega arith)); range = rw is (omega arith) }
