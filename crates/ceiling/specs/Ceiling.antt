-- A monthly ceiling: what is collected of a member in a calendar month of UTC goes up to an amount and no further. A trip is settled as without it;
-- of its charges so much is due as the month has left. What was collected is kept beside the book, with its month.
use Rattle.std.specs.Prelude.{ℕ, ◌+◌, ◌-◌, ◌*◌, min, List, ◌++◌, Bool, cond, not, ◌||◌, length, drop, replicate, ltb, eqb}
use Rattle.wire.specs.Number.{get_le, bytes_of}
use Rattle.calendar.specs.Moments.{moment_of}
use Rattle.trip.specs.Moments.{checkin_of}
use Rattle.statement.specs.Record.{Part, statement_of}
use Rattle.statement.specs.Reading.{cents_over}
use Rattle.settle.specs.Outcome.{Outcome, refused, accepted, settled}

-- a ceiling, and an amount collected in a month, are at most so many cents
abbrev pub most_collected : ℕ
most_collected = 1000000

-- ---- The month.

-- of a minute of UTC, in months since January 2000
unfoldable pub month_of : ℕ → ℕ
month_of minute = 12 * ((moment_of minute).year - 2000) + ((moment_of minute).month - 1)

-- a trip's month is that of its check-in, also where the trip is broken
abbrev pub trip_month : List ℕ → ℕ
trip_month trip = month_of (checkin_of trip)

-- ---- What is kept: a month, 4 bytes, and the amount collected in it, 4.

abbrev pub kept_size : ℕ
kept_size = 8

abbrev pub kept_month : List ℕ → ℕ
kept_month kept = get_le 4 kept 0

abbrev pub kept_amount : List ℕ → ℕ
kept_amount kept = get_le 4 kept 4

abbrev pub kept_as : ℕ → ℕ → List ℕ
kept_as month amount = bytes_of 4 month ++ bytes_of 4 amount

-- at first all zero
abbrev pub fresh_kept : List ℕ
fresh_kept = replicate kept_size 0

-- what was collected in a month: any other month than the kept one, an earlier one too, starts at 0
unfoldable pub collected_in : List ℕ → ℕ → ℕ
collected_in kept month = cond (eqb (kept_month kept) month) (kept_amount kept) 0

-- ---- What is due: 4 bytes.

abbrev pub due_size : ℕ
due_size = 4

-- the charges of a trip, those of both records, carried persons' and bicycles' among them, by the records' own bytes
unfoldable pub charged_in : List Part → ℕ
charged_in parts = cents_over (statement_of parts) (length (statement_of parts))

-- charges cut to what a ceiling leaves over what was collected; nothing where it is passed
abbrev pub due_of : ℕ → ℕ → ℕ → ℕ
due_of ceiling before charged = min charged (ceiling - before)

-- what is due of a trip of a month, charged in some parts
abbrev pub trip_due : ℕ → List ℕ → ℕ → List Part → ℕ
trip_due ceiling kept month parts = due_of ceiling (collected_in kept month) (charged_in parts)

-- ---- The outcome.

-- 24: the ceiling or the amount kept is above the most, or what is kept is not of 8 bytes
unfoldable pub uncollectable : ℕ → List ℕ → Bool
uncollectable ceiling kept =
    not (eqb (length kept) kept_size) || (ltb most_collected ceiling || ltb most_collected (kept_amount kept))

abbrev pub wrong_ceiling : ℕ
wrong_ceiling = 24

-- the room for a trip's records; there is none where what is due has no room, so that the trip is refused with 12
unfoldable pub room_for : ℕ → ℕ → ℕ
room_for room due = cond (ltb due due_size) 0 room

-- 24, and then settling's outcome, of a trip with so many bytes of room for its records and for what is due
unfoldable pub settled_month : ℕ → List ℕ → List ℕ → List ℕ → List ℕ → ℕ → ℕ → Outcome
settled_month ceiling kept file book trip room due =
    cond (uncollectable ceiling kept) (refused wrong_ceiling 0) (settled file book trip (room_for room due))

-- ---- What is left behind; book and statement are as settling leaves them, uncut.

-- the pair of a trip that is accepted: its month, and the amount with what is due, also where that is nothing. A refusal leaves the pair
abbrev pub kept_after : ℕ → List ℕ → Outcome → List ℕ → List ℕ
kept_after ceiling trip (refused number place) kept = kept
kept_after ceiling trip (accepted new parts) kept =
    kept_as (trip_month trip) (collected_in kept (trip_month trip) + trip_due ceiling kept (trip_month trip) parts)

-- what is due stands first, and the further bytes stay. A refusal leaves all
abbrev pub due_after : ℕ → List ℕ → Outcome → List ℕ → List ℕ → List ℕ
due_after ceiling trip (refused number place) kept due = due
due_after ceiling trip (accepted new parts) kept due = bytes_of 4 (trip_due ceiling kept (trip_month trip) parts) ++ drop due_size due
