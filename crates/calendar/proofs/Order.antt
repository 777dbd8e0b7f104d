-- Local times and their minute numbers are in the same order; moments are as far apart as their minute numbers; the code's test of a stamp.
-- Assumes nothing.
use Prim.Native.Nat.{ℕ, ◌+◌, ◌*◌, ◌≤◌, ◌<◌}
use native.Mathlib.Decide.{dec_lt}
use native.Mathlib.Omega.{arith}
use mathlib.Core.Path.{◌≡◌, refl, sym}
use mathlib.Core.Logic.{◌⊎◌, inl, inr, ◌↔◌}
use mathlib.Core.Bool.{Bool, true, false, ◌&&◌, ◌||◌}
use borrow.Author.Tests.{leb-true, leb-false, ltb-true, ltb-false, le-leb, lt-leb}
use lib.Dec.{leb, ltb}
use Rattle.units.specs.Day.{day_minutes}
use Rattle.calendar.specs.Days.{month_days, days_of_months, days_of_years, day_number}
use Rattle.calendar.specs.Stamps.{
  is_date,
  is_clock,
  is_offset,
  local_minute,
  is_stamp,
  minute_number,
  last_moment,
  MovedStamp,
  Before,
  by_year,
  by_month,
  by_day,
  by_hour,
  by_minute,
}
use Rattle.calendar.specs.Clauses.{from_zero}
use Rattle.calendar.specs.declared.Stamp.{Stamp}
use Rattle.calendar.proofs.Fields.{Date, Clock, date_fields, clock_fields, offset_range, stamp_parts}
use Rattle.calendar.proofs.Days.{day_number_most, by-year, by-month, by-day, day_zero}

date : (s : Stamp) → is_stamp s ≡ true → Date s.year s.month s.day
date s e = date_fields s.year s.month s.day (stamp_parts s e).date

clock : (s : Stamp) → is_stamp s ≡ true → Clock s.hour s.minute
clock s e = clock_fields s.hour s.minute (stamp_parts s e).clock

offset : (s : Stamp) → is_stamp s ≡ true → (1 ≤ s.offset) × (s.offset ≤ 2)
offset s e = offset_range s.offset (stamp_parts s e).offset

abbrev first : Stamp
first = record { year = 2000; month = 1; day = 1; hour = 1; minute = 0; offset = 1 }

abbrev last : Stamp
last = record { year = 2099; month = 12; day = 31; hour = 23; minute = 59; offset = 1 }

-- 2000-01-01 01:00, 1 hour ahead of UTC, is minute 0.
pub first-minute : (is_stamp first ≡ true) × (minute_number first ≡ 0)
unfolding minute_number local_minute day_number days_of_years days_of_months month_days
first-minute = (refl, refl)

-- 2099-12-31 23:59, 1 hour ahead of UTC, is the last moment.
pub last-moment : (is_stamp last ≡ true) × (minute_number last ≡ last_moment)
unfolding minute_number local_minute day_number days_of_years days_of_months month_days
last-moment = (refl, refl)

-- No stamp has a number above the last moment's.
pub within : (a : Stamp) → is_stamp a ≡ true → minute_number a ≤ last_moment
unfolding minute_number local_minute
within a sa =
    let time = clock a sa in
    let ahead = offset a sa in
    omega (arith, day_number_most a.year a.month a.day (date a sa))

-- Two moments are d minutes apart exactly where their numbers are.
pub moved :
    (d : ℕ) (s s' : Stamp) → is_stamp s ≡ true → is_stamp s' ≡ true → MovedStamp d s s' ↔ (minute_number s' ≡ minute_number s + d)
unfolding minute_number
moved d s s' is is' =
    let zero = (stamp_parts s is).from-zero in
    let zero' = (stamp_parts s' is').from-zero in
    (λ e. omega arith, λ e. omega arith)

-- By its local date and clock time d minutes later, with the same offset, is d minutes later.
pub same_offset : (d : ℕ) (s s' : Stamp) → s'.offset ≡ s.offset → local_minute s' ≡ local_minute s + d → MovedStamp d s s'
same_offset d s s' o e = omega arith

-- ---- The code's test of a stamp.

-- a local time is before minute 0 exactly in the offset's hours of 2000-01-01
from-zero :
    (s : Stamp) → is_date s.year s.month s.day ≡ true → is_clock s.hour s.minute ≡ true → is_offset s.offset ≡ true
    → from_zero s.year s.month s.day s.hour s.offset ≡ leb (60 * s.offset) (local_minute s)
unfolding local_minute
from-zero s is-date is-clock is-offset = go (leb s.offset s.hour) refl
  where
    y : ℕ
    y = s.year

    m : ℕ
    m = s.month

    d : ℕ
    d = s.day

    minutes : ℕ
    minutes = day_minutes * day_number y m d + 60 * s.hour + s.minute

    date : Date y m d
    date = date_fields y m d is-date

    range : (1 ≤ s.offset) × (s.offset ≤ 2)
    range = offset_range s.offset is-offset

    other_day : (t : Bool) → ltb 0 (day_number y m d) ≡ t → s.hour < s.offset → t ≡ leb (60 * s.offset) minutes
    other_day true e late = sym (le-leb (60 * s.offset) minutes (omega (arith, range, ltb-true 0 (day_number y m d) e)))
    other_day false e late =
        let time = clock_fields s.hour s.minute is-clock in
        sym (lt-leb (60 * s.offset) minutes (omega (arith, ltb-false 0 (day_number y m d) e)))

    go : (t : Bool) → leb s.offset s.hour ≡ t → t || ltb 2000 y || ltb 1 m || ltb 1 d ≡ leb (60 * s.offset) minutes
    go true e = sym (le-leb (60 * s.offset) minutes (omega (arith, leb-true s.offset s.hour e)))
    go false e = rw (day_zero y m d date) (other_day (ltb 0 (day_number y m d)) refl (leb-false s.offset s.hour e))

-- The row of tests that the code makes is the definition's.
pub stamp_tests :
    (s : Stamp)
    → is_date s.year s.month s.day && is_clock s.hour s.minute && is_offset s.offset
    && from_zero s.year s.month s.day s.hour s.offset
    ≡ is_stamp s
stamp_tests s =
    go (is_date s.year s.month s.day) (is_clock s.hour s.minute) (is_offset s.offset) (from-zero s)
  where
    go : (d c o : Bool) {t u : Bool} → (d ≡ true → c ≡ true → o ≡ true → t ≡ u) → d && c && o && t ≡ d && c && o && u
    go true true true same = same refl refl refl
    go true true false same = refl
    go true false o same = refl
    go false c o same = refl

-- ---- The order.

-- an earlier day makes a smaller local minute, whatever the clock times
by_date : (a b : Stamp) → is_stamp a ≡ true → day_number a.year a.month a.day < day_number b.year b.month b.day → local_minute a < local_minute b
unfolding local_minute
by_date a b sa h = let time = clock a sa in omega arith

local_later : (a b : Stamp) → is_stamp a ≡ true → Before a b → local_minute a < local_minute b
unfolding local_minute
local_later a b sa (by_year h) = by_date a b sa (by-year _ _ _ _ _ _ (date a sa) h)
local_later a b sa (by_month y h) = by_date a b sa (rw (← y) (by-month _ _ _ _ _ (date a sa) h))
local_later a b sa (by_day y m h) = by_date a b sa (rw (← y, ← m) (by-day _ _ _ _ (date a sa) h))
local_later a b sa (by_hour y m d h) = let time = clock a sa in rw (← y, ← m, ← d) (omega arith)
local_later a b sa (by_minute y m d h n) = rw (← y, ← m, ← d, ← h) (omega arith)

-- Of two stamps with one offset the later one has the larger number.
pub later : (a b : Stamp) → is_stamp a ≡ true → a.offset ≡ b.offset → Before a b → minute_number a < minute_number b
unfolding minute_number
later a b sa o before =
    let zero = (stamp_parts a sa).from-zero in
    omega (arith, local_later a b sa before)

-- two numbers are in one order or the other, or equal
by_order : {A : Type 0} (x y : ℕ) → (x < y → A) → (y < x → A) → (x ≡ y → A) → A
by_order x y less more same =
    elim (dec_lt x y) [
      | yes h ↦ less h
      | no h ↦ elim (dec_lt y x) [ yes h' ↦ more h' | no h' ↦ same (omega arith) ]
    ]

-- Of two stamps with one offset one goes before the other, or they are equal.
pub either : (a b : Stamp) → a.offset ≡ b.offset → Before a b ⊎ (Before b a ⊎ (a ≡ b))
either a b o =
    by_order a.year b.year (λ h. inl (by_year h)) (λ h. inr (inl (by_year h))) λ y.
    by_order a.month b.month (λ h. inl (by_month y h)) (λ h. inr (inl (by_month (sym y) h))) λ m.
    by_order a.day b.day (λ h. inl (by_day y m h)) (λ h. inr (inl (by_day (sym y) (sym m) h))) λ d.
    by_order a.hour b.hour (λ h. inl (by_hour y m d h)) (λ h. inr (inl (by_hour (sym y) (sym m) (sym d) h))) λ h.
    by_order a.minute b.minute
    (λ n. inl (by_minute y m d h n))
    (λ n. inr (inl (by_minute (sym y) (sym m) (sym d) (sym h) n)))
    λ n. inr (inr (λ i. record { year = y i; month = m i; day = d i; hour = h i; minute = n i; offset = o i }))

-- Two stamps with one offset and one number are the same stamp.
pub one_to_one : (a b : Stamp) → is_stamp a ≡ true → is_stamp b ≡ true → a.offset ≡ b.offset → minute_number a ≡ minute_number b → a ≡ b
one_to_one a b sa sb o e =
    elim (either a b o) [
      | inl before ↦ absurd (omega (arith, later a b sa o before))
      | inr (inl after) ↦ absurd (omega (arith, later b a sb (sym o) after))
      | inr (inr same) ↦ same
    ]
