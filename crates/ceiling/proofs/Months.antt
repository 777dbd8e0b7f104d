-- Months: those of minutes up to the last one, that of a trip's check-in, and that they never go back from one minute to a later one.
-- Assumes nothing.
use Prim.Native.Nat.{ℕ, ◌+◌, ◌-◌, ◌*◌, ◌≤◌, ◌<◌}
use native.Mathlib.Decide.{dec_lt}
use native.Mathlib.Omega.{arith}
use mathlib.Core.Path.{◌≡◌, sym, ap, subst, ◌∙◌}
use mathlib.Core.Bool.{true, false≢true}
use mathlib.Core.List.{List}
use Rattle.wire.proofs.Tests.{both_left, both_right}
use Rattle.units.specs.Day.{day_minutes}
use Rattle.units.specs.declared.Minutes.{Minutes}
use Rattle.calendar.specs.Days.{day_number}
use Rattle.calendar.specs.Moments.{moment_minute, moment_of, MomentOf}
use Rattle.calendar.specs.Stamps.{is_date, is_clock, last_minute}
use Rattle.calendar.specs.declared.Moment.{Moment}
use Rattle.calendar.proofs.Fields.{Date, Clock, date_fields, clock_fields}
use Rattle.calendar.proofs.Days.{by-year, by-month}
use Rattle.calendar.proofs.MomentLaws.{moment_is, moment_back}
use Rattle.calendar.proofs.Order.{within}
use Rattle.trip.specs.Record.{checkin_place}
use Rattle.trip.specs.Moments.{stamp_at, moment_at, checkin_of}
use Rattle.trip.specs.Trips.{stamps_right}
use Rattle.trip.specs.declared.Moment.TheVariants.{At, NoMoment}
use Rattle.trip.proofs.Stamps.{moment-of, no_checkin, times_none}
use Rattle.ceiling.specs.Ceiling.{month_of}
use Rattle.ceiling.specs.Clauses.{MonthIs}

-- ---- The month of a minute.

module _ (minute : ℕ) (most : minute ≤ last_minute) where
  abbrev moment : Moment
  moment = moment_of minute

  on_date : Date moment.year moment.month moment.day
  on_date =
      date_fields moment.year moment.month moment.day
      (both_left (is_date moment.year moment.month moment.day) (is_clock moment.hour moment.minute) (moment_is minute most))

  at_time : Clock moment.hour moment.minute
  at_time =
      clock_fields moment.hour moment.minute
      (both_right (is_date moment.year moment.month moment.day) (is_clock moment.hour moment.minute) (moment_is minute most))

  pub month_most : month_of minute < 1200
  unfolding month_of
  month_most = let date = on_date in omega (arith, date.last_year, date.last_month)

  -- the whole days before it
  days-before : (day_minutes * day_number moment.year moment.month moment.day ≤ minute)
      × (minute < day_minutes * day_number moment.year moment.month moment.day + day_minutes)
  unfolding moment_minute
  days-before =
      let clock = at_time in
      let back = moment_back minute most in
      (omega (arith, back), omega (arith, back, clock.last_hour, clock.last-minute))

-- by the code's sum
pub month_made : (minute : ℕ) (m : Moment) → MomentOf minute m → MonthIs minute (12 * (m.year - 2000) + (m.month - 1))
unfolding month_of
month_made minute m ok =
    record {
      value = ap (λ (x : Moment). 12 * (x.year - 2000) + (x.month - 1)) ok.value;
      range = omega (arith, ok.last_year, ok.last_month);
    }

-- ---- The month of a trip.

-- A stamp's minute is one of the calendar, wherever the stamp stands.
pub moment_most : (trip : List ℕ) (at : ℕ) {minute : Minutes} → moment_at trip at ≡ At minute → minute.0 ≤ last_minute
moment_most trip at {minute} e =
    let (right, is) = moment-of trip at minute e in
    let near = within (stamp_at trip at) right in
    omega (arith, is, near)

-- The check-in's minute tells the trip's month.
pub month_right :
    (trip : List ℕ) {minute : Minutes} {r : ℕ} → moment_at trip checkin_place ≡ At minute → MonthIs minute.0 r → MonthIs (checkin_of trip) r
unfolding checkin_of
month_right trip {minute} {r} e month = subst (λ (m : ℕ). MonthIs m r) (sym (moment-of trip checkin_place minute e).1) month

-- Where both stamps are right there is such a minute.
pub has_moment : (trip : List ℕ) → stamps_right trip ≡ true → moment_at trip checkin_place ≡ NoMoment → ⊥
has_moment trip right e = false≢true (sym (times_none trip (no_checkin trip e)) ∙ right)

-- ---- Months never go back.

-- a day of an earlier month is an earlier day
earlier_month :
    (y m d y' m' d' : ℕ) → Date y m d → Date y' m' d' → 12 * (y - 2000) + (m - 1) < 12 * (y' - 2000) + (m' - 1) → day_number y m d < day_number y' m' d'
earlier_month y m d y' m' d' date date' h =
    elim (dec_lt y y') [
      | yes year ↦ by-year y m d y' m' d' date year
      | no later ↦
          let same : y ≡ y' = omega (arith, h, later, date.first_year, date.last_month, date.first_month, date'.first_year, date'.last_month, date'.first_month) in
          subst (λ (x : ℕ). day_number y m d < day_number x m' d') same
          (by-month y m d m' d' date (omega (arith, h, same, date.first_month, date'.first_month)))
    ]

pub months_go_on : (a b : ℕ) → a ≤ b → b ≤ last_minute → month_of a ≤ month_of b
unfolding month_of
months_go_on a b order most =
    let x = moment_of a in
    let y = moment_of b in
    let near : a ≤ last_minute = omega (arith, order, most) in
    elim (dec_lt (12 * (y.year - 2000) + (y.month - 1)) (12 * (x.year - 2000) + (x.month - 1))) [
      | no late ↦ omega arith
      | yes early ↦
          let back =
          earlier_month y.year y.month y.day x.year x.month x.day (on_date b most) (on_date a near) early
          in
          absurd (omega (arith, back, order, days-before a near, days-before b most))
    ]
