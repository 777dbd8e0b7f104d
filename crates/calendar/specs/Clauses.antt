-- The code's own forms: the table of the days before each month, tied to the months' lengths by one test over the whole of it
-- (proofs/Table.antt), and a test, joined to the rule by the law `stamp_tests` (proofs/Order.antt).
use Rattle.std.specs.Prelude.{ℕ, ◌-◌, ◌*◌, Bool, true, false, ◌||◌, List, [], ◌∷◌, leb, ltb, get_or}
use Rattle.units.specs.Day.{day_minutes}
use Rattle.calendar.specs.Days.{day_number}
use Rattle.calendar.specs.declared.Stamp.{Stamp}

-- the row of a common year, and of a leap year
abbrev pub row : Bool → List ℕ
row false = 0 ∷ 31 ∷ 59 ∷ 90 ∷ 120 ∷ 151 ∷ 181 ∷ 212 ∷ 243 ∷ 273 ∷ 304 ∷ 334 ∷ []
row true = 0 ∷ 31 ∷ 60 ∷ 91 ∷ 121 ∷ 152 ∷ 182 ∷ 213 ∷ 244 ∷ 274 ∷ 305 ∷ 335 ∷ []

-- a month's entry in a row: January's is the first
abbrev pub entry_at : List ℕ → ℕ → ℕ
entry_at days month = get_or days (month - 1) 0

-- not before minute 0, without counting days: the offset's hours have passed on that day, or it is not 2000-01-01
abbrev pub from_zero : ℕ → ℕ → ℕ → ℕ → ℕ → Bool
from_zero year month day hour offset = leb offset hour || ltb 2000 year || ltb 1 month || ltb 1 day

-- the minutes from 2000-01-01 00:00 to the start of a stamp's date, both local
abbrev pub midnight_of : Stamp → ℕ
midnight_of s = day_minutes * day_number s.year s.month s.day
