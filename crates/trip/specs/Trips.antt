-- docs/RULES.md, section 13, 5 to 9: for each a test of the bytes that says it is clear; and 17, whose test says that it holds. And the trip's
-- fields, which are what they say where 5 to 9 are clear.
use Rattle.std.specs.Prelude.{ℕ, ◌+◌, ◌-◌, List, Bool, false, ◌&&◌, ◌||◌, length, leb, ltb, eqb}
use Rattle.wire.specs.Each.{each}
use Rattle.units.specs.Day.{day_minutes}
use Rattle.calendar.specs.Stamps.{is_stamp}
use Rattle.trip.specs.declared.Shape.TheVariants.{Stops, NoTrip}
use Rattle.trip.specs.declared.Party.{Party}
use Rattle.trip.specs.declared.Trip.{Trip}
use Rattle.trip.specs.Record.{trip_size, checkin_place, checkout_place, class_at, level_at, party_at, count_at, stop_number, shape_at}
use Rattle.trip.specs.Moments.{stamp_at, checkin_of, checkout_of}

-- 5: a trip record that fills the slice
unfoldable pub is_trip : List ℕ → Bool
is_trip trip = elim (shape_at trip 0) [ NoTrip ↦ false | Stops n ↦ eqb (trip_size n) (length trip) ]

-- 6: class 1 or 2, level at most 5, adults, children and bicycles at most 10, n 2..32
unfoldable pub party_right : ℕ → ℕ → Party → ℕ → Bool
party_right class level party n =
    (eqb class 1 || eqb class 2) && leb level 5 && leb party.adults 10 && leb party.children 10 && leb party.bicycles 10
    && leb 2 n && leb n 32

-- 7: each of the trip's n stops is one of the tariff's, which are numbered below `known`
unfoldable pub stops_known : List ℕ → ℕ → ℕ → Bool
stops_known trip n known = each n (λ i. ltb (stop_number trip i) known)

-- 8: both stamps are local dates 2000..2099 and clock times 00:00..23:59 with an offset of 1 or 2, not before minute 0 of UTC
unfoldable pub stamps_right : List ℕ → Bool
stamps_right trip = is_stamp (stamp_at trip checkin_place) && is_stamp (stamp_at trip checkout_place)

-- 9: check-out is not before check-in, nor over 1,440 minutes after it
abbrev pub in_order : ℕ → ℕ → Bool
in_order checkin checkout = leb checkin checkout && leb checkout (checkin + day_minutes)

-- all of the trip's n stops are one stop, by its number: two stops at one point are two
unfoldable pub one_stop : List ℕ → ℕ → Bool
one_stop trip n = each n (λ i. eqb (stop_number trip i) (stop_number trip 0))

-- from so many minutes on, a trip is no mistap
abbrev pub mistap_end : ℕ
mistap_end = 3

-- 17: a mistap, from one stop to itself in under 3 minutes
abbrev pub is_mistap : List ℕ → ℕ → ℕ → ℕ → Bool
is_mistap trip n checkin checkout = one_stop trip n && ltb (checkout - checkin) mistap_end

abbrev pub trip_of : List ℕ → Trip
trip_of trip =
    record {
      checkin = record { 0 = checkin_of trip };
      checkout = record { 0 = checkout_of trip };
      class = class_at trip 0;
      level = level_at trip 0;
      party = party_at trip 0;
      stops = count_at trip 0;
    }
