-- The way back from a minute number to its moment: the years and months that have passed are the only ones whose days fit, the code's own sums
-- find them, and a moment and its minute number give each other back.
-- Assumes nothing.
use Prim.Native.Nat.{ℕ, zero, suc, ◌+◌, ◌-◌, ◌*◌, ◌/◌, ◌%◌, ◌≤◌, ◌<◌}
use native.Mathlib.Decide.{ℕ_discrete, dec_lt, le_ind}
use native.Mathlib.Nat.{add-zero, zero-add, le-add_right, le_refl}
use native.Mathlib.Numerals.{add-one}
use native.Mathlib.Omega.{arith}
use mathlib.Core.Path.{◌≡◌, refl, ap, ◌∙◌}
use mathlib.Core.Bool.{Bool, true, false, cond, ◌||◌, and-eq-true_iff}
use borrow.Author.Tests.{le-leb, lt-ltb, le-ltb}
use lib.Dec.{eqb}
use Rattle.units.specs.Day.{day_minutes}
use Rattle.calendar.specs.Days.{leap, month_days, days_of_months, days_of_years, day_number}
use Rattle.calendar.specs.Stamps.{is_date, is_clock, is_stamp, local_minute, minute_number, last_minute}
use Rattle.calendar.specs.Moments.{
  is_moment,
  moment_minute,
  Elapsed,
  taken_off,
  years_passed,
  months_passed,
  moment_of,
  MonthOf,
  MomentOf,
}
use Rattle.calendar.specs.declared.Stamp.{Stamp}
use Rattle.calendar.specs.declared.Moment.{Moment}
use Rattle.calendar.proofs.Fields.{Date, Clock, date_fields, clock_fields, stamp_parts}
use Rattle.calendar.proofs.Days.{grows, in-month, in-year, year_days, years_days}
use Rattle.calendar.proofs.Order.{within}

-- ---- Taken off one by one, the whole ones are the only count whose days fit.

-- what is taken off and what is left are the whole, fewer than `end` are taken off, and the one begun has not passed
record Fits (daysOf sum : ℕ → ℕ) (end total : ℕ) (p : Elapsed) : Type 0 where
  few : p.whole < end
  all : sum p.whole + p.left ≡ total
  begun : p.left < daysOf p.whole

module _ (daysOf sum : ℕ → ℕ) (adds : (k : ℕ) → sum (suc k) ≡ sum k + daysOf k) where
  taken :
      (more n d total k : ℕ) → n ≤ k → k < n + more → sum n + d ≡ total → sum k ≤ total → total < sum (suc k)
      → taken_off daysOf more n d ≡ record { whole = k; left = total - sum k }
  unfolding taken_off
  taken zero n d total k low high e begun ends = absurd (omega arith)
  taken (suc more) n d total k low high e begun ends =
      elim (ℕ_discrete n k) [
        | yes same ↦
            let left : d ≡ total - sum k = omega (arith, ap sum same) in
            rw (lt-ltb d (daysOf n) (omega (arith, adds n, ap (λ j. sum (suc j)) same))) (λ i. record { whole = same i; left = left i })
        | no other ↦
            let next = grows sum (λ j. rw (adds j) (le-add_right _ _)) (suc n) k (omega arith) in
            rw (le-ltb d (daysOf n) (omega (arith, adds n)))
            (taken more (suc n) (d - daysOf n) total k (omega arith) (omega arith) (omega (arith, adds n)) begun ends)
      ]

  -- where the days are fewer than those of all of them, they fit
  fits :
      (more n d end total : ℕ) → n + more ≡ end → sum n + d ≡ total → total < sum end
      → Fits daysOf sum end total (taken_off daysOf more n d)
  unfolding taken_off
  fits zero n d end total e e' ends = absurd (omega (arith, ap sum e, ap sum (add-zero n)))
  fits (suc more) n d end total e e' ends =
      elim (dec_lt d (daysOf n)) [
        | yes begun ↦ rw (lt-ltb d (daysOf n) begun) record { few = omega arith; all = e'; begun = begun }
        | no passed ↦
            rw (le-ltb d (daysOf n) (omega arith))
            (fits more (suc n) (d - daysOf n) end total (omega arith) (omega (arith, adds n)) ends)
      ]

years-passed :
    (days k : ℕ) → k < 100 → days_of_years k ≤ days → days < days_of_years (suc k)
    → years_passed days ≡ record { whole = k; left = days - days_of_years k }
unfolding years_passed days_of_years
years-passed days k h = taken _ days_of_years (λ j. refl) 100 0 days days k (omega arith) h (zero-add days)

months-passed :
    (leapYear : Bool) (days k : ℕ) → k < 12 → days_of_months leapYear k ≤ days → days < days_of_months leapYear (suc k)
    → months_passed leapYear days ≡ record { whole = k; left = days - days_of_months leapYear k }
unfolding months_passed days_of_months
months-passed l days k h = taken _ (days_of_months l) (λ j. refl) 12 0 days days k (omega arith) h (zero-add days)

-- ---- The code's month: the first k months have at most 32 * k days, and the next two end no earlier than 32 days after those.

month_most : (leapYear : Bool) (month : ℕ) → month_days leapYear month ≤ 31
unfolding month_days
month_most l m = go l (eqb m 2) (eqb m 4 || (eqb m 6 || (eqb m 9 || eqb m 11)))
  where
    go : (l t u : Bool) → cond t (cond l 29 28) (cond u 30 31) ≤ 31
    go true true u = omega arith
    go false true u = omega arith
    go l false true = omega arith
    go l false false = omega arith

-- months are no longer than 32 days each
short : (leapYear : Bool) (a b : ℕ) → a ≤ b → days_of_months leapYear b + 32 * a ≤ days_of_months leapYear a + 32 * b
unfolding days_of_months
short l a b =
    le_ind {n = a} (λ k. days_of_months l k + 32 * a ≤ days_of_months l a + 32 * k) (le_refl _) (λ k _ h. omega (arith, h, month_most l (suc k))) b

year_range : (leapYear : Bool) → (365 ≤ days_of_months leapYear 12) × (days_of_months leapYear 12 ≤ 366)
year_range true = (omega (arith, year_days true), omega (arith, year_days true))
year_range false = (omega (arith, year_days false), omega (arith, year_days false))

not_before : (leapYear : Bool) (k : ℕ) → days_of_months leapYear k ≤ 32 * k
unfolding days_of_months
not_before l k = omega (arith, short l 0 k (omega arith))

not_after : (leapYear : Bool) (k : ℕ) → k < 11 → 32 * k + 32 ≤ days_of_months leapYear (suc (suc k))
not_after l k h = omega (arith, short l (suc (suc k)) 12 (omega arith), year_range l)

-- the contract of `month_of`, where the month k + 1 has begun and not ended
month_begun :
    (leapYear : Bool) (day k : ℕ) → k < 12 → days_of_months leapYear k ≤ day → day < days_of_months leapYear (suc k)
    → MonthOf leapYear day (k + 1)
unfolding days_of_months
month_begun l day k h begun ends =
    let before : k + 1 - 1 ≡ k = omega arith in
    record {
      value = rw before (months-passed l day k h begun ends);
      first = omega arith;
      last = omega arith;
      begun = rw before begun;
      short = rw before (omega (arith, month_most l (suc k)));
    }

pub year_most : (leapYear : Bool) (day : ℕ) → day < days_of_months leapYear 12 → day ≤ 365
year_most l day h = omega (arith, year_range l)

pub december : (leapYear : Bool) (day : ℕ) → day < days_of_months leapYear 12 → day / 32 ≡ 11 → MonthOf leapYear day 12
december l day h e = month_begun l day 11 (omega arith) (omega (arith, not_before l 11)) h

-- of two months, the days before the second tell whether it has begun
module _ (l : Bool) (day before : ℕ) (two : day / 32 < 11) (e : before ≡ days_of_months l (day / 32 + 1 + 1 - 1)) where
  begins : before ≡ days_of_months l (suc (day / 32))
  begins = let place : day / 32 + 1 + 1 - 1 ≡ suc (day / 32) = omega arith in rw place at e

  pub second_month : before ≤ day → MonthOf l day (day / 32 + 1 + 1)
  second_month begun =
      rw (add-one (day / 32))
      (month_begun l day (suc (day / 32)) (omega arith) (omega (arith, begins)) (omega (arith, not_after l (day / 32) two)))

  pub first_month : day < before → MonthOf l day (day / 32 + 1)
  first_month ends = month_begun l day (day / 32) (omega arith) (omega (arith, not_before l (day / 32))) (omega (arith, begins))

-- ---- The code's years: four of them have 1,461 days.

-- the days of the years that have passed, and those of the year begun
pub year_begun : (days : ℕ) → days ≤ 36524 → (days_of_years (4 * days / 1461) ≤ days) × (days < days_of_years (suc (4 * days / 1461)))
year_begun days h =
    let k = 4 * days / 1461 in
    (omega (arith, years_days k (omega arith)), omega (arith, years_days (suc k) (omega arith)))

-- the day in its year goes before the year's end
pub before_year_end :
    (days : ℕ) → days ≤ 36524
    → days - (365 * (4 * days / 1461) + (4 * days / 1461 + 3) / 4) < days_of_months (leap (2000 + 4 * days / 1461)) 12
unfolding days_of_years
before_year_end days h =
    let k = 4 * days / 1461 in
    omega (arith, year_begun days h, years_days k (omega arith))

-- ---- A moment and its minute number.

-- the years and months that have passed give the moment
moment-at :
    (n years days months rest : ℕ)
    → years_passed (n / day_minutes) ≡ record { whole = years; left = days }
    → months_passed (leap (2000 + years)) days ≡ record { whole = months; left = rest }
    → moment_of n
    ≡ record { year = 2000 + years; month = months + 1; day = rest + 1; hour = n % day_minutes / 60; minute = n % day_minutes % 60 }
unfolding moment_of
moment-at n years days months rest e e' = rw (e, e')

-- what the definition gives: the years fit into the days, and the months into the days that the years leave
module _ (n : ℕ) (in-range : n ≤ last_minute) where
  years_fit : Fits (λ years. days_of_months (leap (2000 + years)) 12) days_of_years 100 (n / day_minutes) (years_passed (n / day_minutes))
  unfolding years_passed days_of_years
  years_fit =
      fits _ days_of_years (λ j. refl) 100 0 (n / day_minutes) 100 (n / day_minutes) refl (zero-add _)
      (omega (arith, years_days 100 (le_refl 100)))

  abbrev years : Elapsed
  years = years_passed (n / day_minutes)

  abbrev leap_year : Bool
  leap_year = leap (2000 + years.whole)

  abbrev months : Elapsed
  months = months_passed leap_year years.left

  months_fit : Fits (λ months. month_days leap_year (suc months)) (days_of_months leap_year) 12 years.left months
  unfolding months_passed days_of_months
  months_fit =
      fits _ (days_of_months leap_year) (λ j. refl) 12 0 years.left 12 years.left refl (zero-add _) years_fit.begun

  -- The moment of a minute number has that number.
  pub moment_back : moment_minute (moment_of n) ≡ n
  unfolding moment_minute moment_of day_number
  moment_back =
      let year : 2000 + years.whole - 2000 ≡ years.whole = omega arith in
      let month : months.whole + 1 - 1 ≡ months.whole = omega arith in
      let in-year = years_fit.all in
      let in-month = months_fit.all in
      omega (arith, ap days_of_years year, ap (days_of_months leap_year) month)

  moment_date : Date (moment_of n).year (moment_of n).month (moment_of n).day
  unfolding moment_of
  moment_date =
      let of-years = years_fit in
      let of-months = months_fit in
      record {
        first_year = omega arith;
        last_year = omega arith;
        first_month = omega arith;
        last_month = omega arith;
        first_day = omega arith;
        last_day = omega (arith, ap (month_days leap_year) (add-one months.whole));
      }

  moment_clock : Clock (moment_of n).hour (moment_of n).minute
  unfolding moment_of
  moment_clock = record { last_hour = omega arith; last-minute = omega arith }

  -- It is a date and a clock time.
  pub moment_is : is_moment (moment_of n) ≡ true
  moment_is =
      let date = moment_date in
      let clock = moment_clock in
      let m = moment_of n in
      rw (
        le-leb 2000 m.year date.first_year,
        le-leb m.year 2099 date.last_year,
        le-leb 1 m.month date.first_month,
        le-leb m.month 12 date.last_month,
        le-leb 1 m.day date.first_day,
        le-leb m.day (month_days (leap m.year) m.month) date.last_day,
        le-leb m.hour 23 clock.last_hour,
        le-leb m.minute 59 clock.last-minute,
      )

  moment-of : MomentOf n (moment_of n)
  moment-of =
      let date = moment_date in
      let clock = moment_clock in
      record {
        value = refl;
        first_year = date.first_year;
        last_year = date.last_year;
        first_month = date.first_month;
        last_month = date.last_month;
        first_day = date.first_day;
        last_day = omega (arith, month_most (leap (moment_of n).year) (moment_of n).month);
        last_hour = clock.last_hour;
        last-minute = clock.last-minute;
      }

-- a date's years and months are those that have passed on its day
date_back :
    (n y m d : ℕ) → Date y m d → n / day_minutes ≡ day_number y m d
    → moment_of n ≡ record { year = y; month = m; day = d; hour = n % day_minutes / 60; minute = n % day_minutes % 60 }
unfolding day_number
date_back n y m d date e =
    let l = leap y in
    let before = days_of_years (y - 2000) in
    let days = days_of_months l (m - 1) + (d - 1) in
    let year : 2000 + (y - 2000) ≡ y = omega arith in
    let month : m - 1 + 1 ≡ m = omega arith in
    let day : days - days_of_months l (m - 1) + 1 ≡ d = omega arith in
    let left : n / day_minutes - before ≡ days = omega arith in
    let ends : suc (m - 1) ≡ m = omega arith in
    let of-years = years-passed (n / day_minutes) (y - 2000) (omega arith) (omega arith) (omega (arith, in-year y m d date)) in
    let of-months = months-passed l days (m - 1) (omega arith) (omega arith) (rw ends (in-month y m d date)) in
    moment-at n (y - 2000) days (m - 1) (days - days_of_months l (m - 1)) (rw left at of-years) (rw year of-months)
    ∙ (λ i. record { year = year i; month = month i; day = day i; hour = n % day_minutes / 60; minute = n % day_minutes % 60 })

-- A moment is that of its minute number, so no other moment has the number.
pub minute_back : (m : Moment) → is_moment m ≡ true → moment_of (moment_minute m) ≡ m
unfolding moment_minute
minute_back m is =
    let parts = (and-eq-true_iff (is_date m.year m.month m.day) (is_clock m.hour m.minute)).0 is in
    let clock = clock_fields m.hour m.minute parts.1 in
    let n = moment_minute m in
    let hour : n % day_minutes / 60 ≡ m.hour = omega arith in
    let minute : n % day_minutes % 60 ≡ m.minute = omega arith in
    date_back n m.year m.month m.day (date_fields m.year m.month m.day parts.0) (omega arith)
    ∙ (λ i. record { year = m.year; month = m.month; day = m.day; hour = hour i; minute = minute i })

-- A stamp's moment is its local date and clock time, set back by the hours that it is ahead of UTC.
pub stamp_moment : (s : Stamp) → is_stamp s ≡ true → moment_minute (moment_of (minute_number s)) + 60 * s.offset ≡ local_minute s
unfolding minute_number
stamp_moment s is =
    let from-zero = (stamp_parts s is).from-zero in
    let most = within s is in
    omega (arith, moment_back (minute_number s) (omega arith))

-- the contract of `moment_of`, from the month of the day in its year and the days before it
pub moment_made :
    (n month before : ℕ) → n ≤ last_minute
    → MonthOf (leap (2000 + 4 * (n / 1440) / 1461)) (n / 1440 - (365 * (4 * (n / 1440) / 1461) + (4 * (n / 1440) / 1461 + 3) / 4)) month
    → before ≡ days_of_months (leap (2000 + 4 * (n / 1440) / 1461)) (month - 1)
    → MomentOf n
    record {
      year = 2000 + 4 * (n / 1440) / 1461;
      month = month;
      day = n / 1440 - (365 * (4 * (n / 1440) / 1461) + (4 * (n / 1440) / 1461 + 3) / 4) - before + 1;
      hour = n % 1440 / 60;
      minute = n % 1440 % 60;
    }
moment_made n month before in-range of-day e =
    let days = n / 1440 in
    let k = 4 * days / 1461 in
    let begun = year_begun days (omega arith) in
    let left : days - days_of_years k ≡ days - (365 * k + (k + 3) / 4) = omega (arith, years_days k (omega arith)) in
    let passed = rw left at (years-passed days k (omega arith) begun.0 begun.1) in
    let this-month : month - 1 + 1 ≡ month = omega arith in
    let moment = rw (this-month, ← e) at (moment-at n _ _ _ _ passed of-day.value) in
    rw (← moment) (moment-of n in-range)

-- ---- Moments by their numbers: the first, a leap year's last of February, one of an autumn night, the last.

pub first_of_all : moment_of 0 ≡ record { year = 2000; month = 1; day = 1; hour = 0; minute = 0 }
unfolding moment_of years_passed months_passed taken_off days_of_months month_days
first_of_all = refl

pub leap_day : moment_of 12708000 ≡ record { year = 2024; month = 2; day = 29; hour = 0; minute = 0 }
unfolding moment_of years_passed months_passed taken_off days_of_months month_days
leap_day = refl

pub autumn_night : moment_of 14113370 ≡ record { year = 2026; month = 10; day = 31; hour = 22; minute = 50 }
unfolding moment_of years_passed months_passed taken_off days_of_months month_days
autumn_night = refl

pub last_of_all : moment_of last_minute ≡ record { year = 2099; month = 12; day = 31; hour = 23; minute = 59 }
unfolding moment_of years_passed months_passed taken_off days_of_months month_days
last_of_all = refl
