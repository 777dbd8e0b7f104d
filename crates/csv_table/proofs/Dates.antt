-- The digits of a date and a clock time are the numbers in decimal, where these have as many; where one has one digit of two, 0 stands in front.
-- Assumes nothing.
use Prim.Native.Nat.{ℕ, zero, suc, ◌/◌, ◌≤◌, ◌<◌}
use native.Mathlib.Omega.{arith}
use mathlib.Core.Path.{◌≡◌}
use mathlib.Core.List.{◌++◌}
use Rattle.text.specs.Texts.{bytes, digit, decimal}
use Rattle.text.proofs.Decimal.{none_in, some_in}
use Rattle.csv_table.specs.Text.{two_digits, four_digits}

pub one_of_two : (n : ℕ) → n < 10 → two_digits n ≡ bytes "0" ++ decimal n
unfolding two_digits decimal bytes digit
one_of_two n small = let none : n / 10 ≡ 0 = omega arith in rw (none, none_in n 0 (omega arith))

pub two_of_two : (n : ℕ) → 10 ≤ n → n < 100 → two_digits n ≡ decimal n
unfolding two_digits decimal
two_of_two zero least small = absurd (omega arith)
two_of_two (suc k) least small = rw (some_in k (suc k / 10) (omega arith), none_in k (suc k / 10 / 10) (omega arith))

pub four_of_four : (n : ℕ) → 1000 ≤ n → n < 10000 → four_digits n ≡ decimal n
unfolding four_digits decimal
four_of_four (suc (suc (suc k))) least small =
    let n = suc (suc (suc k)) in
    let hundred : n / 10 / 10 ≡ n / 100 = omega arith in
    let thousand : n / 100 / 10 ≡ n / 1000 = omega arith in
    rw (
      some_in (suc (suc k)) (n / 10) (omega arith),
      hundred,
      some_in (suc k) (n / 100) (omega arith),
      thousand,
      some_in k (n / 1000) (omega arith),
      none_in k (n / 1000 / 10) (omega arith),
    )
four_of_four zero least small = absurd (omega arith)
four_of_four (suc zero) least small = absurd (omega arith)
four_of_four (suc (suc zero)) least small = absurd (omega arith)
