-- A trip whose two stamps have the same year, month and day: what the calendar makes of the check-out's fields, it makes of them on the
-- check-in's date.
-- Assumes nothing.
use Prim.Native.Nat.{ℕ}
use mathlib.Core.Path.{◌≡◌}
use mathlib.Core.Bool.{true, ◌&&◌}
use mathlib.Core.List.{List}
use borrow.Author.Tests.{eqb-true}
use lib.Dec.{eqb}
use Rattle.wire.specs.Number.{get_le}
use Rattle.wire.proofs.Tests.{both_left, both_right}
use Rattle.calendar.specs.declared.Stamp.{Stamp}
use Rattle.calendar.specs.Stamps.{stamp_of}
use Rattle.calendar.specs.Clauses.{midnight_of}
use Rattle.trip.specs.Record.{checkin_place, checkout_place}
use Rattle.trip.specs.Moments.{stamp_at}
use Rattle.trip.specs.Clauses.{made_at}
use Rattle.trip.specs.OneDate.{one_date}

module _ (trip : List ℕ) (one : one_date trip ≡ true) where
  years : get_le 2 trip 4 ≡ get_le 2 trip 11
  years = eqb-true _ _ (both_left _ (eqb (get_le 1 trip 6) (get_le 1 trip 13)) (both_left _ (eqb (get_le 1 trip 7) (get_le 1 trip 14)) one))

  months : get_le 1 trip 6 ≡ get_le 1 trip 13
  months = eqb-true _ _ (both_right (eqb (get_le 2 trip 4) (get_le 2 trip 11)) _ (both_left _ (eqb (get_le 1 trip 7) (get_le 1 trip 14)) one))

  days : get_le 1 trip 7 ≡ get_le 1 trip 14
  days = eqb-true _ _ (both_right (eqb (get_le 2 trip 4) (get_le 2 trip 11) && eqb (get_le 1 trip 6) (get_le 1 trip 13)) _ one)

  -- by the check-in's stamp, as it was found
  module _ (first : Stamp) (is : stamp_at trip checkin_place ≡ first) where
    pub made_on_date :
        stamp_of first.year first.month first.day (get_le 1 trip 15) (get_le 1 trip 16) (get_le 1 trip 17) ≡ made_at trip checkout_place
    made_on_date = rw (← is, years, months, days)

    pub one_midnight : (last : Stamp) → stamp_at trip checkout_place ≡ last → midnight_of first ≡ midnight_of last
    one_midnight last is' = rw (← is, ← is', years, months, days)
