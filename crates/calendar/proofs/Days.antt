-- The days of months and of years: how they add up, and the closed form that the code computes.
-- Assumes nothing.
use Prim.Native.Nat.{ℕ, zero, suc, ◌+◌, ◌-◌, ◌*◌, ◌/◌, ◌%◌, ◌≤◌, ◌<◌}
use native.Mathlib.Nat.{le_refl, le_trans, le-add_right}
use native.Mathlib.Decide.{ℕ_discrete, dec_lt, le_ind}
use native.Mathlib.Omega.{arith}
use mathlib.Core.Path.{◌≡◌, refl}
use mathlib.Core.Bool.{Bool, true, false, cond, ◌||◌, and-true}
use borrow.Author.Tests.{eqb-true, eqb-false, ne_eqb, lt-ltb, le-ltb}
use lib.Dec.{eqb, ltb}
use Rattle.calendar.specs.Days.{leap, month_days, days_of_months, days_of_years, day_number, DayNumber}
use Rattle.calendar.proofs.Fields.{Date}

-- what never falls from one number to the next falls nowhere
pub grows : (f : ℕ → ℕ) → ((k : ℕ) → f k ≤ f (suc k)) → (a b : ℕ) → a ≤ b → f a ≤ f b
grows f step a b = le_ind {n = a} (λ k. f a ≤ f k) (le_refl (f a)) (λ k _ h. le_trans h (step k)) b

months_grow : (leapYear : Bool) (a b : ℕ) → a ≤ b → days_of_months leapYear a ≤ days_of_months leapYear b
unfolding days_of_months
months_grow l = grows (days_of_months l) (λ k. le-add_right _ _)

years_grow : (a b : ℕ) → a ≤ b → days_of_years a ≤ days_of_years b
unfolding days_of_years
years_grow = grows days_of_years (λ k. le-add_right _ _)

-- every month has 28 days
pub month_least : (leapYear : Bool) (month : ℕ) → 28 ≤ month_days leapYear month
unfolding month_days
month_least l m = go l (eqb m 2) (eqb m 4 || (eqb m 6 || (eqb m 9 || eqb m 11)))
  where
    go : (l t u : Bool) → 28 ≤ cond t (cond l 29 28) (cond u 30 31)
    go true true u = omega arith
    go false true u = omega arith
    go l false true = omega arith
    go l false false = omega arith

-- a date goes before the end of its month
pub in-month : (year month day : ℕ) → Date year month day → days_of_months (leap year) (month - 1) + (day - 1) < days_of_months (leap year) month
unfolding days_of_months
in-month y zero d date = absurd (omega arith)
in-month y (suc k) d date = let before : suc k - 1 ≡ k = omega arith in rw before (omega arith)

pub year_days : (leapYear : Bool) → days_of_months leapYear 12 ≡ cond leapYear 366 365
unfolding days_of_months month_days
year_days true = refl
year_days false = refl

-- of the years 2000 to 2099 every fourth is a leap year
every_fourth : (years : ℕ) → years < 100 → leap (2000 + years) ≡ eqb (years % 4) 0
every_fourth n h =
    let fourth : (2000 + n) % 4 ≡ n % 4 = omega arith in
    elim (ℕ_discrete n 0) [
      | yes e ↦ rw e refl
      | no ne ↦
          let year : eqb ((2000 + n) % 100) 0 ≡ false = ne_eqb ((2000 + n) % 100) 0 (λ e. ne (omega arith)) in
          rw (fourth, year, and-true)
    ]

-- the days of at most 100 years, in the code's own sum
pub years_days : (years : ℕ) → years ≤ 100 → days_of_years years ≡ 365 * years + (years + 3) / 4
unfolding days_of_years
years_days zero h = refl
years_days (suc n) h = rw (years_days n (omega arith), every_fourth n h, year_days) (go (eqb (n % 4) 0) refl)
  where
    go : (leapYear : Bool) → eqb (n % 4) 0 ≡ leapYear → 365 * n + (n + 3) / 4 + cond leapYear 366 365 ≡ 365 * suc n + (suc n + 3) / 4
    go true e = omega (arith, eqb-true (n % 4) 0 e)
    go false e = let ne = eqb-false (n % 4) 0 e in omega arith

-- a date goes before the end of its year
pub in-year : (year month day : ℕ) → Date year month day → day_number year month day < days_of_years (suc (year - 2000))
unfolding day_number days_of_years
in-year y m d date =
    let year : 2000 + (y - 2000) ≡ y = omega arith in
    rw year (omega (arith, in-month y m d date, months_grow (leap y) m 12 date.last_month))

-- no date has a number above 36,524, since 100 years have 36,525 days
pub day_number_most : (year month day : ℕ) → Date year month day → day_number year month day ≤ 36524
day_number_most y m d date =
    omega (arith, in-year y m d date, years_grow (suc (y - 2000)) 100 (omega arith), years_days 100 (le_refl 100))

-- the contract of `day_number`, from the days before the month
pub day-number : (year month day before : ℕ) → Date year month day → before ≡ days_of_months (eqb ((year - 2000) % 4) 0) (month - 1) → DayNumber year month day (365 * (year - 2000) + (year - 2000 + 3) / 4 + (before + (day - 1)))
unfolding day_number
day-number y m d before date e =
    let year : 2000 + (y - 2000) ≡ y = omega arith in
    let leap_year : leap y ≡ eqb ((y - 2000) % 4) 0 = rw year at (every_fourth (y - 2000) (omega arith)) in
    let value : 365 * (y - 2000) + (y - 2000 + 3) / 4 + (before + (d - 1)) ≡ day_number y m d =
    rw leap_year (omega (arith, e, years_days (y - 2000) (omega arith))) in
    record { value = value; range = omega (arith, day_number_most y m d date) }

-- in an earlier year, in an earlier month of one year, on an earlier day of one month: a smaller number
pub by-year : (y m d y' m' d' : ℕ) → Date y m d → y < y' → day_number y m d < day_number y' m' d'
unfolding day_number
by-year y m d y' m' d' date h = omega (arith, in-year y m d date, years_grow (suc (y - 2000)) (y' - 2000) (omega arith))

pub by-month : (y m d m' d' : ℕ) → Date y m d → m < m' → day_number y m d < day_number y m' d'
unfolding day_number
by-month y m d m' d' date h =
    omega (arith, in-month y m d date, months_grow (leap y) m (m' - 1) (omega arith))

pub by-day : (y m d d' : ℕ) → Date y m d → d < d' → day_number y m d < day_number y m d'
unfolding day_number
by-day y m d d' date h = omega arith

-- 1 January is a date
year_start : (year : ℕ) → 2000 ≤ year → year ≤ 2099 → Date year 1 1
unfolding month_days
year_start y low high =
    record { first_year = low; last_year = high; first_month = omega arith; last_month = omega arith; first_day = omega arith; last_day = omega arith }

first_date : (y m d : ℕ) → y ≤ 2000 → m ≤ 1 → d ≤ 1 → day_number y m d ≤ 0
unfolding day_number days_of_years days_of_months
first_date y m d year month day =
    let years : y - 2000 ≡ 0 = omega arith in
    let months : m - 1 ≡ 0 = omega arith in
    rw (years, months) (omega arith)

later_day : (y m d : ℕ) → 1 < d → 0 < day_number y m d
unfolding day_number
later_day y m d h = omega arith

-- the first date of the calendar has no days before it, and every other one has
pub day_zero : (y m d : ℕ) → Date y m d → ltb 2000 y || ltb 1 m || ltb 1 d ≡ ltb 0 (day_number y m d)
day_zero y m d date =
    elim (dec_lt 2000 y) [
      | yes year ↦
          rw (lt-ltb 2000 y year, lt-ltb 0 (day_number y m d) (omega (arith, by-year 2000 1 1 y m d (year_start 2000 (omega arith) (omega arith)) year)))
      | no first_year ↦
          let same-year = le-ltb 2000 y (omega arith) in
          elim (dec_lt 1 m) [
            | yes month ↦
                rw (
                  same-year,
                  lt-ltb 1 m month,
                  lt-ltb 0 (day_number y m d) (omega (arith, by-month y 1 1 m d (year_start y date.first_year date.last_year) month)),
                )
            | no january ↦
                let same_month = le-ltb 1 m (omega arith) in
                elim (dec_lt 1 d) [
                  | yes day ↦ rw (same-year, same_month, lt-ltb 1 d day, lt-ltb 0 (day_number y m d) (later_day y m d day))
                  | no first_day ↦
                      let none = first_date y m d (omega arith) (omega arith) (omega arith) in
                      rw (same-year, same_month, le-ltb 1 d (omega arith), le-ltb 0 (day_number y m d) none)
                ]
          ]
    ]
