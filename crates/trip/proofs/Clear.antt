-- What a trip that meets none of 5 to 9 has.
-- Assumes nothing.
use Prim.Native.Nat.{ℕ, ◌+◌, ◌≤◌}
use mathlib.Core.Path.{◌≡◌}
use mathlib.Core.List.{List}
use lib.ListN.{length}
use Rattle.units.specs.Day.{day_minutes}
use Rattle.calendar.specs.Stamps.{last_minute}
use Rattle.trip.specs.Record.{trip_size, class_at, level_at, party_at, count_at}
use Rattle.trip.specs.Moments.{checkin_of, checkout_of}
use Rattle.trip.specs.Clauses.{GoodTrip}
use Rattle.trip.proofs.Shapes.{fills}
use Rattle.trip.proofs.Stamps.{times_range}
use Rattle.trip.proofs.Ranges.{PartyRanges, party_ranges, in-order}

-- It fills its slice; class, level, party and number of stops are in their ranges; check-out is not before check-in, nor over 1,440
-- minutes after it, nor past the bound of a book's minutes.
pub record GoodFields (trip : List ℕ) : Type 0 where
  pub size : trip_size (count_at trip 0) ≡ length trip
  pub ranges : PartyRanges (class_at trip 0) (level_at trip 0) (party_at trip 0) (count_at trip 0)
  pub forward : checkin_of trip ≤ checkout_of trip
  pub short : checkout_of trip ≤ checkin_of trip + day_minutes
  pub range : checkout_of trip ≤ last_minute

pub good_fields : {trip : List ℕ} {known : ℕ} → GoodTrip trip known → GoodFields trip
good_fields {trip} good =
    let order = in-order (checkin_of trip) (checkout_of trip) good.order in
    record {
      size = (fills trip good.whole).size;
      ranges = party_ranges (class_at trip 0) (level_at trip 0) (party_at trip 0) (count_at trip 0) good.party;
      forward = order.0;
      short = order.1;
      range = (times_range trip good.stamps).1;
    }
