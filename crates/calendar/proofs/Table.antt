-- The two rows of days before each month, tied to the months' lengths by one test over both, which is computed once.
-- Assumes nothing.
use Prim.Native.Nat.{ℕ, zero, suc, ◌+◌, ◌-◌, ◌≤◌, ◌<◌}
use native.Mathlib.Nat.{add-zero, zero-add, add-suc, suc-add, le_of_suc-le-suc, not-suc-le-zero}
use native.Mathlib.Omega.{arith}
use mathlib.Core.Path.{◌≡◌, refl}
use mathlib.Core.Bool.{Bool, true, false, ◌&&◌, and-eq-true_iff}
use mathlib.Core.List.{List, [], ◌∷◌}
use borrow.Author.Tests.{eqb-true, leb-true}
use lib.Dec.{eqb, leb}
use lib.ListN.{length, get_or}
use Rattle.calendar.specs.Days.{days_of_months, month_days, DaysBefore}
use Rattle.calendar.specs.Clauses.{row, entry_at}

-- an entry is right at place k: it is the days of the year's first k months, and at most 335
right : Bool → ℕ → ℕ → Bool
right leapYear k days = eqb days (days_of_months leapYear k) && leb days 335

-- each entry is right at its place, counted from k
each_right : Bool → ℕ → List ℕ → Bool
each_right leapYear k [] = true
each_right leapYear k (days ∷ more) = right leapYear k days && each_right leapYear (suc k) more

-- the one test, over the whole table
pub rows_right : Bool
rows_right = each_right false 0 (row false) && each_right true 0 (row true)

-- it is true
pub table : rows_right ≡ true
unfolding rows_right each_right right days_of_months month_days
table = refl

both_rows : (each_right false 0 (row false) ≡ true) × (each_right true 0 (row true) ≡ true)
unfolding rows_right
both_rows = (and-eq-true_iff (each_right false 0 (row false)) (each_right true 0 (row true))).0 table

row_right : (leapYear : Bool) → each_right leapYear 0 (row leapYear) ≡ true
row_right false = both_rows.0
row_right true = both_rows.1

row_length : (leapYear : Bool) → length (row leapYear) ≡ 12
row_length false = refl
row_length true = refl

-- where each entry from k on is right, so is the one i places further
entry : (leapYear : Bool) (days : List ℕ) (k : ℕ) → each_right leapYear k days ≡ true → (i : ℕ) → i < length days → right leapYear (k + i) (get_or days i 0) ≡ true
unfolding each_right
entry b [] k e i h = absurd (not-suc-le-zero h)
entry b (x ∷ xs) k e zero h = rw add-zero ((and-eq-true_iff (right b k x) (each_right b (suc k) xs)).0 e).0
entry b (x ∷ xs) k e (suc i) h =
    rw (add-suc, ← suc-add)
    (entry b xs (suc k) ((and-eq-true_iff (right b k x) (each_right b (suc k) xs)).0 e).1 i (le_of_suc-le-suc h))

-- the law at each entry: month m's stands at place m - 1, counted from 0
pub at_month : (leapYear : Bool) (month : ℕ) → 1 ≤ month → month ≤ 12 → DaysBefore leapYear month (entry_at (row leapYear) month)
unfolding right
at_month b m low high =
    let days = entry_at (row b) m in
    let here = rw zero-add at (entry b (row b) 0 (row_right b) (m - 1) (omega (arith, row_length b))) in
    let parts = (and-eq-true_iff (eqb days (days_of_months b (m - 1))) (leb days 335)).0 here in
    record { value = eqb-true days (days_of_months b (m - 1)) parts.0; range = leb-true days 335 parts.1 }

-- a month that is none of the first k
abbrev NoneOf : ℕ → ℕ → Type 0
NoneOf zero month = Unit {0}
NoneOf (suc k) month = NoneOf k month × (month ≡ suc k → ⊥)

behind : (k month : ℕ) → 1 ≤ month → NoneOf k month → k < month
behind zero month first none = first
behind (suc k) month first none =
    let here = none.1 in
    omega (arith, behind k month first none.0)

-- one that is none of the first eleven is December
pub december : (month : ℕ) → 1 ≤ month → month ≤ 12 → NoneOf 11 month → month ≡ 12
december month first last none = omega (arith, behind 11 month first none)
