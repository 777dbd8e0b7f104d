-- What a true test of a date, of a clock time, of an offset and of a stamp says of the fields.
-- Assumes nothing.
use Prim.Native.Nat.{ℕ, ◌*◌, ◌≤◌}
use native.Mathlib.Omega.{arith}
use mathlib.Core.Path.{◌≡◌, refl}
use mathlib.Core.Logic.{◌⊎◌, inl, inr}
use mathlib.Core.Bool.{Bool, true, false, ◌&&◌, ◌||◌, and-eq-true_iff}
use borrow.Author.Tests.{leb-true, eqb-true}
use lib.Dec.{leb, eqb}
use Rattle.calendar.specs.Days.{leap, month_days}
use Rattle.calendar.specs.Stamps.{is_date, is_clock, is_offset, local_minute, is_stamp}
use Rattle.calendar.specs.declared.Stamp.{Stamp}

pub record Date (year month day : ℕ) : Type 0 where
  pub first_year : 2000 ≤ year
  pub last_year : year ≤ 2099
  pub first_month : 1 ≤ month
  pub last_month : month ≤ 12
  pub first_day : 1 ≤ day
  pub last_day : day ≤ month_days (leap year) month

pub record Clock (hour minute : ℕ) : Type 0 where
  pub last_hour : hour ≤ 23
  pub last-minute : minute ≤ 59

-- a row of tests is true: so are those before the last, and the last one says its fact
last : (before : Bool) (x y : ℕ) → before && leb x y ≡ true → (before ≡ true) × (x ≤ y)
last before x y e =
    let parts = (and-eq-true_iff before (leb x y)).0 e in
    (parts.0, leb-true x y parts.1)

pub date_fields : (year month day : ℕ) → is_date year month day ≡ true → Date year month day
date_fields y m d e =
    let six = last _ d (month_days (leap y) m) e in
    let five = last _ 1 d six.0 in
    let four = last _ m 12 five.0 in
    let three = last _ 1 m four.0 in
    let two = last _ y 2099 three.0 in
    record {
      first_year = leb-true 2000 y two.0;
      last_year = two.1;
      first_month = three.1;
      last_month = four.1;
      first_day = five.1;
      last_day = six.1;
    }

pub clock_fields : (hour minute : ℕ) → is_clock hour minute ≡ true → Clock hour minute
clock_fields h n e =
    let two = last (leb h 23) n 59 e in
    record { last_hour = leb-true h 23 two.0; last-minute = two.1 }

pub offset_range : (offset : ℕ) → is_offset offset ≡ true → (1 ≤ offset) × (offset ≤ 2)
offset_range o e = go (eqb o 1) refl e
  where
    go : (t : Bool) → eqb o 1 ≡ t → t || eqb o 2 ≡ true → (1 ≤ o) × (o ≤ 2)
    go true is e' = let one = eqb-true o 1 is in (omega arith, omega arith)
    go false is e' = let two = eqb-true o 2 e' in (omega arith, omega arith)

pub an_offset : (offset : ℕ) → (offset ≡ 1) ⊎ (offset ≡ 2) → is_offset offset ≡ true
an_offset o (inl e) = rw e
an_offset o (inr e) = rw e

-- a stamp is a date, a clock time and an offset, and not before minute 0
pub record StampParts (s : Stamp) : Type 0 where
  pub date : is_date s.year s.month s.day ≡ true
  pub clock : is_clock s.hour s.minute ≡ true
  pub offset : is_offset s.offset ≡ true
  pub from-zero : 60 * s.offset ≤ local_minute s

pub stamp_parts : (s : Stamp) → is_stamp s ≡ true → StampParts s
stamp_parts s e =
    let four = last _ (60 * s.offset) (local_minute s) e in
    let three = (and-eq-true_iff (is_date s.year s.month s.day && is_clock s.hour s.minute) (is_offset s.offset)).0 four.0 in
    let two = (and-eq-true_iff (is_date s.year s.month s.day) (is_clock s.hour s.minute)).0 three.0 in
    record { date = two.0; clock = two.1; offset = three.1; from-zero = four.1 }
