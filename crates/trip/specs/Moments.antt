-- A stamp is year 2, month, day, hour, minute, hours ahead of UTC; the minute that it stands for is the calendar's.
use Rattle.std.specs.Prelude.{ℕ, ◌+◌, List, cond}
use Rattle.wire.specs.Number.{get_le}
use Rattle.calendar.specs.Stamps.{is_stamp, minute_number}
use Rattle.calendar.specs.declared.Stamp.{Stamp}
use Rattle.trip.specs.declared.Moment.{Moment}
use Rattle.trip.specs.declared.Moment.TheVariants.{At, NoMoment}
use Rattle.trip.specs.Record.{checkin_place, checkout_place}

-- the fields at a place, as a stamp has them
abbrev pub stamp_at : List ℕ → ℕ → Stamp
stamp_at b at =
    record {
      year = get_le 2 b at;
      month = get_le 1 b (at + 2);
      day = get_le 1 b (at + 3);
      hour = get_le 1 b (at + 4);
      minute = get_le 1 b (at + 5);
      offset = get_le 1 b (at + 6);
    }

-- the minute of the stamp at a place; none where it is no stamp
unfoldable pub moment_at : List ℕ → ℕ → Moment
moment_at b at = cond (is_stamp (stamp_at b at)) (At (record { 0 = minute_number (stamp_at b at) })) NoMoment

-- a trip's two minutes, of UTC
unfoldable pub checkin_of : List ℕ → ℕ
checkin_of trip = minute_number (stamp_at trip checkin_place)

unfoldable pub checkout_of : List ℕ → ℕ
checkout_of trip = minute_number (stamp_at trip checkout_place)
