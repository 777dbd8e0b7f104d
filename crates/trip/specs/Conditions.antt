-- docs/RULES.md, section 13: the conditions 5 to 9, and 17 behind them, in the rules' words and order.
use Rattle.std.specs.Prelude.{ℕ, ◌+◌, ◌-◌, ◌*◌, ◌≤◌, ◌<◌, ◌≡◌, List, false, length}
use Rattle.wire.specs.Frame.{frame_at}
use Rattle.wire.specs.declared.Frame.TheVariants.{Whole, Broken}
use Rattle.units.specs.Day.{day_minutes}
use Rattle.calendar.specs.Stamps.{is_date, is_clock, local_minute}
use Rattle.calendar.specs.declared.Stamp.{Stamp}
use Rattle.trip.specs.declared.Party.{Party}
use Rattle.trip.specs.Record.{body_size, checkin_place, checkout_place, count_at, stop_number}
use Rattle.trip.specs.Moments.{stamp_at}

-- no trip record at a place: frame broken, kind not 7, body under 20 or not 20 + 2n
pub data NoTripAt (b : List ℕ) (at : ℕ) : Type 0 where
  broken-frame : frame_at b at ≡ Broken → NoTripAt b at
  other_kind : (kind body : ℕ) → frame_at b at ≡ Whole kind body → (kind ≡ 7 → ⊥) → NoTripAt b at
  short_body : (kind body : ℕ) → frame_at b at ≡ Whole kind body → body < 20 → NoTripAt b at
  other_body : (kind body : ℕ) → frame_at b at ≡ Whole kind body → (body ≡ body_size (count_at b at) → ⊥) → NoTripAt b at

-- 5: no trip record, or one that does not fill the slice
pub data NoTrip (trip : List ℕ) : Type 0 where
  no_record : NoTripAt trip 0 → NoTrip trip
  not_filling : (kind body : ℕ) → frame_at trip 0 ≡ Whole kind body → (4 + body ≡ length trip → ⊥) → NoTrip trip

-- 6: class not 1 or 2, level above 5, adults, children or bicycles above 10, n not 2..32
pub data WrongParty (class level : ℕ) (party : Party) (n : ℕ) : Type 0 where
  no_class : (class ≡ 1 → ⊥) → (class ≡ 2 → ⊥) → WrongParty class level party n
  high_level : 5 < level → WrongParty class level party n
  many_adults : 10 < party.adults → WrongParty class level party n
  many_children : 10 < party.children → WrongParty class level party n
  many_bicycles : 10 < party.bicycles → WrongParty class level party n
  few_stops : n < 2 → WrongParty class level party n
  many_stops : 32 < n → WrongParty class level party n

-- 7: a stop number the tariff lacks; it has those below `known`
pub record LackingStop (trip : List ℕ) (n known : ℕ) : Type 0 where
  pub i : ℕ
  pub of_trip : i < n
  pub lacking : known ≤ stop_number trip i

-- no local date 2000..2099, no clock time 00:00..23:59, an offset that is not 1 or 2, or a moment before minute 0 of UTC
pub data WrongStampAt (s : Stamp) : Type 0 where
  no_date : is_date s.year s.month s.day ≡ false → WrongStampAt s
  no_clock : is_clock s.hour s.minute ≡ false → WrongStampAt s
  other_offset : (s.offset ≡ 1 → ⊥) → (s.offset ≡ 2 → ⊥) → WrongStampAt s
  before_zero : local_minute s < 60 * s.offset → WrongStampAt s

-- 8: one of the two stamps is wrong
pub data WrongStamp (trip : List ℕ) : Type 0 where
  wrong_checkin : WrongStampAt (stamp_at trip checkin_place) → WrongStamp trip
  wrong_checkout : WrongStampAt (stamp_at trip checkout_place) → WrongStamp trip

-- 9: check-out before check-in, or over 1,440 minutes after it
pub data WrongOrder (checkin checkout : ℕ) : Type 0 where
  backward : checkout < checkin → WrongOrder checkin checkout
  too_long : checkin + day_minutes < checkout → WrongOrder checkin checkout

-- 17: each of the trip's n stops is its first, by their numbers, and the duration, check-out less check-in, is under 3 minutes
pub record Mistap (trip : List ℕ) (n checkin checkout : ℕ) : Type 0 where
  pub one-stop : (i : ℕ) → i < n → stop_number trip i ≡ stop_number trip 0
  pub short : checkout - checkin < 3
