-- Days by the calendar: leap years, the months' lengths, and the days counted year by year and month by month.
use Rattle.std.specs.Prelude.{ℕ, zero, suc, ◌+◌, ◌-◌, ◌%◌, ◌≤◌, ◌≡◌, Bool, cond, not, ◌&&◌, ◌||◌, eqb}

-- every fourth year, but of the full centuries only every fourth
abbrev pub leap : ℕ → Bool
leap year = eqb (year % 4) 0 && (not (eqb (year % 100) 0) || eqb (year % 400) 0)

-- the length of a month, January being 1
unfoldable pub month_days : Bool → ℕ → ℕ
month_days leapYear month =
    cond (eqb month 2) (cond leapYear 29 28)
    (cond (eqb month 4 || (eqb month 6 || (eqb month 9 || eqb month 11))) 30 31)

-- the days of a year's first `months` months
unfoldable pub days_of_months : Bool → ℕ → ℕ
days_of_months leapYear zero = 0
days_of_months leapYear (suc months) = days_of_months leapYear months + month_days leapYear (suc months)

-- the days of the `years` years from 2000 on
unfoldable pub days_of_years : ℕ → ℕ
days_of_years zero = 0
days_of_years (suc years) = days_of_years years + days_of_months (leap (2000 + years)) 12

-- the days from 2000-01-01 to a date: those of the years before it, of the months before it in its year, and before it in its month
unfoldable pub day_number : ℕ → ℕ → ℕ → ℕ
day_number year month day = days_of_years (year - 2000) + days_of_months (leap year) (month - 1) + (day - 1)

pub record DaysBefore (leapYear : Bool) (month r : ℕ) : Type 0 where
  pub value : r ≡ days_of_months leapYear (month - 1)
  pub range : r ≤ 335

pub record DayNumber (year month day r : ℕ) : Type 0 where
  pub value : r ≡ day_number year month day
  pub range : r ≤ 36524
