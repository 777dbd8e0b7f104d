-- What only serves the fast way for trips on one date (src/one_date.rt).
use Rattle.std.specs.Prelude.{List, Bool, ◌&&◌, ℕ, eqb}
use Rattle.trip.specs.Record.{checkin_place, checkout_place}
use Rattle.trip.specs.Moments.{stamp_at}

-- a trip's two stamps have the same year, month and day
abbrev pub one_date : List ℕ → Bool
one_date trip =
    let first = stamp_at trip checkin_place in
    let last = stamp_at trip checkout_place in
    eqb first.year last.year && eqb first.month last.month && eqb first.day last.day
