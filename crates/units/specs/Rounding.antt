-- Rules, sections 2 and 8: rounding up by a percentage (steps 3 and 4) and the periods of step 1.
-- Each function's contract is a record: the value by its definition, and the range beside it that its callers' sums rest on.
use Rattle.std.specs.Prelude.{ℕ, ◌+◌, ◌-◌, ◌*◌, ◌/◌, ◌%◌, ◌≤◌, max, ◌≡◌, cond, eqb}

-- n ÷ d, rounded up: one more than the whole part, unless nothing is left over
unfoldable pub divided_up : ℕ → ℕ → ℕ
divided_up n d = n / d + cond (eqb (n % d) 0) 0 1

-- × hundredths ÷ 100, rounded up
unfoldable pub hundredths_of : ℕ → ℕ → ℕ
hundredths_of hundredths amount = divided_up (amount * hundredths) 100

-- × (100 + percent) ÷ 100, rounded up
abbrev pub raised_by : ℕ → ℕ → ℕ
raised_by percent amount = hundredths_of (100 + percent) amount

-- × (100 − percent) ÷ 100, rounded up
abbrev pub reduced_by : ℕ → ℕ → ℕ
reduced_by percent amount = hundredths_of (100 - percent) amount

-- the largest amount whose double, in hundredths and with 99 more, is still a number of 32 bits: far above every price
abbrev pub roundable : ℕ
roundable = 21474835

-- duration ÷ validity, rounded up, at least 1
unfoldable pub periods : ℕ → ℕ → ℕ
periods duration validity = max 1 (divided_up duration validity)

pub record Raised (amount percent r : ℕ) : Type 0 where
  pub value : r ≡ raised_by percent amount
  pub range : r ≤ 2 * amount

pub record Reduced (amount percent r : ℕ) : Type 0 where
  pub value : r ≡ reduced_by percent amount
  pub range : r ≤ amount

pub record Started (duration validity r : ℕ) : Type 0 where
  pub value : r ≡ periods duration validity
  pub range : (k : ℕ) → 1 ≤ k → duration ≤ k * validity → r ≤ k
