-- A run's line: its numbers have five digits at most, so that it has 12 bytes at most.
-- Assumes nothing.
use Prim.Native.Nat.{ℕ, ◌+◌, ◌-◌, ◌*◌, ◌/◌, ◌≤◌, ◌<◌}
use native.Mathlib.Omega.{arith}
use native.Mathlib.Decide.{dec_lt}
use mathlib.Core.Path.{◌≡◌, ap, ◌∙◌}
use mathlib.Core.List.{List, [], ◌∷◌, append-nil}
use lib.ListN.{length, length-append}
use Rattle.text.specs.Texts.{digit, decimal}
use Rattle.text.specs.Clauses.{Put}
use Rattle.text.proofs.Decimal.{one_digit, last_digit}
use Rattle.salvage.specs.Salvage.{run_of, line_of, lines_in}
use Rattle.salvage.proofs.Pieces.{run_some, run_none}

-- a number below 10 has a digit, and each digit more lets it be ten times as large
one_more_digit : (most bound n : ℕ) → ((m : ℕ) → m < bound → length (decimal m) ≤ most) → 1 ≤ most → n < 10 * bound → length (decimal n) ≤ most + 1
one_more_digit most bound n shorter some within =
    elim (dec_lt n 10) [
      | yes small ↦ omega (arith, ap length (one_digit n small))
      | no large ↦
          let front = shorter (n / 10) (omega arith) in
          let is = ap length (last_digit n (omega arith)) ∙ length-append (decimal (n / 10)) (digit n ∷ []) in
          omega arith
    ]

pub five_digits : (n : ℕ) → n < 100000 → length (decimal n) ≤ 5
five_digits n within =
    one_more_digit 4 10000 n
    (λ m small. one_more_digit 3 1000 m
    (λ m small. one_more_digit 2 100 m
    (λ m small. one_more_digit 1 10 m (λ m small. omega (arith, ap length (one_digit m small))) (omega arith) small)
    (omega arith) small) (omega arith) small) (omega arith) within

-- what was put is as long as its text
pub narrow : {text : List ℕ} {m : ℕ} {a b : List ℕ} (n : ℕ) → Put text m a b → length text ≤ n → Put text n a b
narrow {text = text} {a = a} n x few =
    let long = ap length x.put ∙ length-append a text in
    record { put = x.put; room = omega arith }

-- a run's line, and none where there is no run
pub run_line : (from to : ℕ) → from < to → lines_in (run_of from to) ≡ line_of from (to - from)
unfolding lines_in
run_line from to some = rw (run_some from to some) (append-nil (line_of from (to - from)))

pub no_line : (from to : ℕ) → to ≤ from → lines_in (run_of from to) ≡ []
unfolding lines_in
no_line from to order = rw (run_none from to order)
