-- Moments: a date and clock time in UTC. The minute number of one, and the way back by the calendar from a minute number to its moment.
use Rattle.std.specs.Prelude.{ℕ, zero, suc, ◌+◌, ◌-◌, ◌*◌, ◌/◌, ◌%◌, ◌≤◌, ◌≡◌, Bool, cond, ◌&&◌, ltb}
use Rattle.units.specs.Day.{day_minutes}
use Rattle.calendar.specs.Days.{leap, month_days, days_of_months, day_number}
use Rattle.calendar.specs.Stamps.{is_date, is_clock}
use Rattle.calendar.specs.declared.Moment.{Moment}

-- a date of the years 2000 to 2099 and a clock time
abbrev pub is_moment : Moment → Bool
is_moment m = is_date m.year m.month m.day && is_clock m.hour m.minute

-- the minutes from 2000-01-01 00:00 UTC to the moment; every day has 1,440
unfoldable pub moment_minute : Moment → ℕ
moment_minute m = day_minutes * day_number m.year m.month m.day + 60 * m.hour + m.minute

-- the minutes from 2000-01-01 00:00 UTC to a date's first minute in UTC
abbrev pub first_minute : ℕ → ℕ → ℕ → ℕ
first_minute year month day = day_minutes * day_number year month day

-- the years or months that have passed whole, and the days that are left
pub record Elapsed : Type 0 where
  pub whole : ℕ
  pub left : ℕ

-- n have passed and d days are left: as long as the next one has passed whole too, its days are taken off; at most `more` of them
unfoldable pub taken_off : (ℕ → ℕ) → ℕ → ℕ → ℕ → Elapsed
taken_off daysOf zero n d = record { whole = n; left = d }
taken_off daysOf (suc more) n d =
    cond (ltb d (daysOf n)) record { whole = n; left = d }
    (taken_off daysOf more (suc n) (d - daysOf n))

-- the years from 2000 on that have passed after some days, taken off year by year; 100 are counted
unfoldable pub years_passed : ℕ → Elapsed
years_passed days = taken_off (λ years. days_of_months (leap (2000 + years)) 12) 100 0 days

-- the months of a year that have passed after some of its days, taken off month by month
unfoldable pub months_passed : Bool → ℕ → Elapsed
months_passed leapYear days = taken_off (λ months. month_days leapYear (suc months)) 12 0 days

-- The moment of a minute number: of the days since 2000-01-01 the years that have passed are taken off, and of what is left the months; the
-- year, the month and the day are those that have begun. The minutes of the day give the hour and the minute.
unfoldable pub moment_of : ℕ → Moment
moment_of n =
    let years = years_passed (n / day_minutes) in
    let months = months_passed (leap (2000 + years.whole)) years.left in
    record {
      year = 2000 + years.whole;
      month = months.whole + 1;
      day = months.left + 1;
      hour = n % day_minutes / 60;
      minute = n % day_minutes % 60;
    }

-- the month r of a day in its year, the day counted from 0: the months before r have passed, and at most 30 days of r itself
pub record MonthOf (leapYear : Bool) (day r : ℕ) : Type 0 where
  pub value : months_passed leapYear day ≡ record { whole = r - 1; left = day - days_of_months leapYear (r - 1) }
  pub first : 1 ≤ r
  pub last : r ≤ 12
  pub begun : days_of_months leapYear (r - 1) ≤ day
  pub short : day ≤ days_of_months leapYear (r - 1) + 30

pub record MomentOf (n : ℕ) (r : Moment) : Type 0 where
  pub value : r ≡ moment_of n
  pub first_year : 2000 ≤ r.year
  pub last_year : r.year ≤ 2099
  pub first_month : 1 ≤ r.month
  pub last_month : r.month ≤ 12
  pub first_day : 1 ≤ r.day
  pub last_day : r.day ≤ 31
  pub last_hour : r.hour ≤ 23
  pub last-minute : r.minute ≤ 59
