-- Stamps: a local date and clock time with the hours that it is ahead of UTC; what counts as one, and the minute that it stands for.
use Rattle.std.specs.Prelude.{ℕ, ◌+◌, ◌-◌, ◌*◌, ◌≤◌, ◌<◌, ◌≡◌, Bool, cond, ◌&&◌, ◌||◌, leb, eqb}
use Rattle.units.specs.Day.{day_minutes}
use Rattle.calendar.specs.Days.{leap, month_days, day_number}
use Rattle.calendar.specs.declared.Stamp.{Stamp}
use Rattle.calendar.specs.declared.Made.{Made}
use Rattle.calendar.specs.declared.Made.TheVariants.{Good, Refused}

-- a date of the years 2000 to 2099
abbrev pub is_date : ℕ → ℕ → ℕ → Bool
is_date year month day =
    leb 2000 year && leb year 2099 && leb 1 month && leb month 12 && leb 1 day && leb day (month_days (leap year) month)

-- a clock time 00:00 to 23:59
abbrev pub is_clock : ℕ → ℕ → Bool
is_clock hour minute = leb hour 23 && leb minute 59

-- an offset: 1 or 2 hours ahead of UTC
abbrev pub is_offset : ℕ → Bool
is_offset offset = eqb offset 1 || eqb offset 2

-- the minutes from 2000-01-01 00:00 to the date and clock time, both local; every day has 1,440
unfoldable pub local_minute : Stamp → ℕ
local_minute s = day_minutes * day_number s.year s.month s.day + 60 * s.hour + s.minute

-- a date, a clock time and an offset, whose moment is not before minute 0
abbrev pub is_stamp : Stamp → Bool
is_stamp s =
    is_date s.year s.month s.day && is_clock s.hour s.minute && is_offset s.offset && leb (60 * s.offset) (local_minute s)

-- the stamp of these fields, or a refusal where they are none
unfoldable pub stamp_of : ℕ → ℕ → ℕ → ℕ → ℕ → ℕ → Made
stamp_of y m d h n o =
    let s : Stamp = record { year = y; month = m; day = d; hour = h; minute = n; offset = o } in
    cond (is_stamp s) (Good s) Refused

-- the moment, in minutes of UTC; minute 0 is 2000-01-01 00:00 UTC
unfoldable pub minute_number : Stamp → ℕ
minute_number s = local_minute s - 60 * s.offset

-- the last moment that a stamp stands for: 2099-12-31 23:59, 1 hour ahead
abbrev pub last_moment : ℕ
last_moment = 52595939

-- the bound of a book's minutes, which no stamp reaches
abbrev pub last_minute : ℕ
last_minute = 52595999

pub record MinuteNumber (s : Stamp) (r : ℕ) : Type 0 where
  pub value : r ≡ minute_number s
  pub range : r ≤ last_minute

-- s' stands for the moment d minutes after that of s, whatever the two offsets are; with d = 0, for the same moment
abbrev pub MovedStamp : ℕ → Stamp → Stamp → Type 0
MovedStamp d s s' = local_minute s' + 60 * s.offset ≡ local_minute s + 60 * s'.offset + d

-- by their local dates and clock times a goes before b: in the first of year, month, day, hour and minute in which they differ, a's is smaller
pub data Before (a b : Stamp) : Type 0 where
  by_year : a.year < b.year → Before a b
  by_month : a.year ≡ b.year → a.month < b.month → Before a b
  by_day : a.year ≡ b.year → a.month ≡ b.month → a.day < b.day → Before a b
  by_hour : a.year ≡ b.year → a.month ≡ b.month → a.day ≡ b.day → a.hour < b.hour → Before a b
  by_minute : a.year ≡ b.year → a.month ≡ b.month → a.day ≡ b.day → a.hour ≡ b.hour → a.minute < b.minute → Before a b
