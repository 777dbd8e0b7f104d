-- docs/RULES.md, section 5, and docs/FORMAT.md, kind 7: check-in 7, check-out 7, class 1, ticket level 1, adults, children and bicycles carried 1 each, n 1,
-- then n stops of 2 bytes, first to last. Two bytes of length and two of kind stand before.
use Rattle.std.specs.Prelude.{ℕ, ◌+◌, ◌*◌, List, cond, not, ◌||◌, ltb, eqb}
use Rattle.wire.specs.Number.{get_le}
use Rattle.wire.specs.Frame.{frame_at}
use Rattle.wire.specs.declared.Frame.TheVariants.{Whole, Broken}
use Rattle.trip.specs.declared.Shape.{Shape}
use Rattle.trip.specs.declared.Shape.TheVariants.{Stops, NoTrip}
use Rattle.trip.specs.declared.Party.{Party}

abbrev pub trip_kind : ℕ
trip_kind = 7

-- the body with n stops: 20, and 2 for each stop
abbrev pub body_size : ℕ → ℕ
body_size n = 20 + 2 * n

-- the whole record with n stops: 4 bytes more
abbrev pub trip_size : ℕ → ℕ
trip_size n = 24 + 2 * n

-- where a record that starts at 0 has its two stamps
abbrev pub checkin_place : ℕ
checkin_place = 4

abbrev pub checkout_place : ℕ
checkout_place = 11

abbrev pub class_at : List ℕ → ℕ → ℕ
class_at b at = get_le 1 b (at + 18)

abbrev pub level_at : List ℕ → ℕ → ℕ
level_at b at = get_le 1 b (at + 19)

unfoldable pub party_at : List ℕ → ℕ → Party
party_at b at =
    record { adults = get_le 1 b (at + 20); children = get_le 1 b (at + 21); bicycles = get_le 1 b (at + 22) }

-- the number of stops that the record says it has
abbrev pub count_at : List ℕ → ℕ → ℕ
count_at b at = get_le 1 b (at + 23)

-- the number of the record's stop i, counted from 0
unfoldable pub stop_number : List ℕ → ℕ → ℕ
stop_number b i = get_le 2 b (trip_size i)

-- a trip record at a place: a whole frame of kind 7, whose body is not under 20 and is 20 + 2n
unfoldable pub shape_at : List ℕ → ℕ → Shape
shape_at b at =
    elim (frame_at b at) [
      | Broken ↦ NoTrip
      | Whole kind body ↦
          cond (not (eqb kind trip_kind) || ltb body (body_size 0)) NoTrip
          (cond (eqb body (body_size (count_at b at))) (Stops (count_at b at)) NoTrip)
    ]
