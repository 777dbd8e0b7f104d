-- What the functions' contracts say beyond the rules.
use Rattle.std.specs.Prelude.{ℕ, ◌+◌, ◌<◌, ◌≡◌, List, true, cond}
use Rattle.wire.specs.Number.{get_le}
use Rattle.calendar.specs.declared.Made.{Made}
use Rattle.calendar.specs.Stamps.{stamp_of}
use Rattle.trip.specs.declared.Shape.{Shape}
use Rattle.trip.specs.declared.Shape.TheVariants.{Stops, NoTrip}
use Rattle.trip.specs.declared.Times.{Times}
use Rattle.trip.specs.declared.Times.TheVariants.{Of, NoTimes}
use Rattle.trip.specs.Record.{class_at, level_at, party_at, count_at, stop_number}
use Rattle.trip.specs.Moments.{checkin_of, checkout_of}
use Rattle.trip.specs.Trips.{is_trip, party_right, stops_known, stamps_right, in_order}

-- a trip record that fills the slice, with its number of stops, or none
unfoldable pub whole_trip : List ℕ → Shape
whole_trip trip = cond (is_trip trip) (Stops (count_at trip 0)) NoTrip

-- what the calendar makes of the fields of a stamp at a place
abbrev pub made_at : List ℕ → ℕ → Made
made_at b at = stamp_of (get_le 2 b at) (get_le 1 b (at + 2)) (get_le 1 b (at + 3)) (get_le 1 b (at + 4)) (get_le 1 b (at + 5)) (get_le 1 b (at + 6))

-- a trip's two minutes, or none where a stamp is wrong
unfoldable pub times_of : List ℕ → Times
times_of trip = cond (stamps_right trip) (Of (record { 0 = checkin_of trip }) (record { 0 = checkout_of trip })) NoTimes

pub record StopNumber (trip : List ℕ) (i r : ℕ) : Type 0 where
  pub value : r ≡ stop_number trip i
  pub range : r < 65536

-- 5 to 9 are clear, under a tariff with `known` stops
pub record GoodTrip (trip : List ℕ) (known : ℕ) : Type 0 where
  pub whole : is_trip trip ≡ true
  pub party : party_right (class_at trip 0) (level_at trip 0) (party_at trip 0) (count_at trip 0) ≡ true
  pub stops : stops_known trip (count_at trip 0) known ≡ true
  pub stamps : stamps_right trip ≡ true
  pub order : in_order (checkin_of trip) (checkout_of trip) ≡ true
