-- docs/RULES.md, section 13: the refusals from 4 on as a table. A row is a refusal and its test; the first row whose test holds decides.
-- Each test is a function of the bytes alone, so that a row stands by itself, and rows and groups of them can change places. Settling, a quote
-- and a posting have the rows 4 to 11 in common; settling and a quote end in 12, a posting in 13 (settle's `Posting`). Such a span goes by
-- the table's order: 17 stands between 9 and 10 and 22 behind 10, so both are of 4 to 11.
use Rattle.std.specs.Prelude.{ℕ, ◌+◌, ◌≤◌, ◌≡◌, ◌⊎◌, List, [], ◌∷◌, ◌++◌, Bool, false, cond, not, ◌&&◌, length, eqb, leb, ltb}
use Rattle.layout.specs.declared.Counts.{Counts}
use Rattle.editions.specs.declared.Editions.{Editions}
use Rattle.editions.specs.Editions.{many_of, counts_in, tariff_in, in_force}
use Rattle.trip.specs.Record.{class_at, level_at, party_at, count_at}
use Rattle.trip.specs.Moments.{checkin_of, checkout_of}
use Rattle.trip.specs.Trips.{is_trip, party_right, stops_known, stamps_right, in_order, is_mistap, trip_of}
use Rattle.trip.specs.declared.Ride.{Ride}
use Rattle.fare.specs.Parts.{rides_of}
use Rattle.fare.specs.Towns.{town_refuses}
use Rattle.ledger.specs.declared.Window.{Window}
use Rattle.ledger.specs.Words.{edition_of}
use Rattle.ledger.specs.Sound.{sound_alone, covers_sound}
use Rattle.ledger.specs.Windows.{too_early, window_of}
use Rattle.statement.specs.Record.{statement_size}
use Rattle.deciding.specs.declared.refusals.Refusal.{Refusal}
use Rattle.deciding.specs.declared.refusals.Refusal.TheVariants.{
  UnsoundBook,
  NoTrip,
  WrongParty,
  WrongStamp,
  WrongOrder,
  Mistap,
  TooEarly,
  NoEdition,
  UnknownStop,
  NoFirstClass,
  FullWindow,
  NoRoom,
  OtherRecord,
}

-- their numbers; 6 has two rows
abbrev pub refusal : Refusal → ℕ
refusal UnsoundBook = 4
refusal NoTrip = 5
refusal WrongParty = 6
refusal WrongStamp = 8
refusal WrongOrder = 9
refusal Mistap = 17
refusal TooEarly = 10
refusal NoEdition = 22
refusal UnknownStop = 7
refusal NoFirstClass = 6
refusal FullWindow = 11
refusal NoRoom = 12
refusal OtherRecord = 13

-- the last row's number where a trip is settled or quoted
abbrev pub last_refusal : ℕ
last_refusal = refusal NoRoom

-- the numbers of a table, by its last row's: up to that, and 17 and 22, which stand on either side of 10
abbrev pub Numbered : ℕ → ℕ → Type 0
Numbered last n = (n ≤ last) ⊎ ((n ≡ refusal Mistap) ⊎ (n ≡ refusal NoEdition))

pub record Row : Type 0 where
  pub why : Refusal
  pub test : Bool

abbrev pub row : Refusal → Bool → Row
row why test = record { why = why; test = test }

-- ---- What the rows are asked of: the book and the trip's window under a file's editions.

-- 4: by itself sound, its window's edition one of the file's, and each bicycle word at most that edition's number of areas
unfoldable pub sound_in : Editions → List ℕ → Bool
sound_in editions book =
    sound_alone book && (leb (edition_of book) (many_of editions) && covers_sound book (counts_in editions (edition_of book)).areas)

-- the window that a trip belongs to or opens; one that it opens has the edition in force at its check-in
abbrev pub window_in : Editions → List ℕ → List ℕ → Window
window_in editions book trip = window_of book (checkin_of trip) (checkout_of trip) (in_force editions (checkin_of trip))

-- the tariff of that window's edition with its counts, and the trip's rides under it
abbrev pub tariff_for : List ℕ → Editions → List ℕ → List ℕ → List ℕ
tariff_for file editions book trip = tariff_in file editions (window_in editions book trip).edition

abbrev pub counts_for : Editions → List ℕ → List ℕ → Counts
counts_for editions book trip = counts_in editions (window_in editions book trip).edition

abbrev pub rides_for : List ℕ → Editions → List ℕ → List ℕ → List Ride
rides_for file editions book trip = rides_of (tariff_for file editions book trip) (counts_for editions book trip) trip (trip_of trip)

-- ---- The table's rows in five groups, each in its order.

-- the trip's own. 5: frame broken, record not filling the slice, kind not 7, body under 20 or not 20 + 2n
-- 6: class not 1 or 2, level above 5, adults, children or bicycles above 10, n not 2..32
abbrev pub trip_rows : List ℕ → List Row
trip_rows trip =
    row NoTrip (not (is_trip trip))
    ∷ row WrongParty (not (party_right (class_at trip 0) (level_at trip 0) (party_at trip 0) (count_at trip 0)))
    ∷ []

-- those of clock and book. 8: a stamp that is no local date 2000..2099, no clock time 00:00..23:59, has an offset that is not 1 or 2, or is
-- before minute 0 of UTC
-- 9: check-out before check-in, or over 1,440 minutes after it
-- 17: a mistap: all stops of the trip are one stop, and its duration is under 3 minutes; of the trip as it is offered, unbroken
-- 10: check-in before the book's last check-out (word 0 not 0)
abbrev pub clock_rows : List ℕ → List ℕ → List Row
clock_rows book trip =
    row WrongStamp (not (stamps_right trip))
    ∷ row WrongOrder (not (in_order (checkin_of trip) (checkout_of trip)))
    ∷ row Mistap (is_mistap trip (count_at trip 0) (checkin_of trip) (checkout_of trip))
    ∷ row TooEarly (too_early book (checkin_of trip))
    ∷ []

-- that of the window. 22: it would open before the first edition's first minute
abbrev pub edition_rows : Window → List Row
edition_rows window = row NoEdition (eqb window.edition 0) ∷ []

-- the edition's tariff's. 7: a stop number that it lacks
-- 6 again: class 1, where the trip's area, or that of one of its parts, is a town that drops the base price or the km price
abbrev pub tariff_rows : List ℕ → Counts → List ℕ → List Row
tariff_rows tariff counts trip =
    row UnknownStop (not (stops_known trip (count_at trip 0) counts.stops))
    ∷ row NoFirstClass (town_refuses tariff counts trip (trip_of trip))
    ∷ []

-- those of room. 11: the trip would be the 257th of its window; each of its rides counts as one
-- and then a last row
abbrev pub room_rows : Window → List Ride → Row → List Row
room_rows window rides last =
    row FullWindow (ltb 256 (window.trips + length rides))
    ∷ last
    ∷ []

-- The table, of a window and the tariff of its edition. 4: book not sound; then the groups
abbrev pub rows_under : Editions → List ℕ → Counts → List ℕ → List ℕ → Window → Row → List Row
rows_under editions tariff counts book trip window last =
    row UnsoundBook (not (sound_in editions book))
    ∷ trip_rows trip
    ++ clock_rows book trip
    ++ edition_rows window
    ++ tariff_rows tariff counts trip
    ++ room_rows window (rides_of tariff counts trip (trip_of trip)) last

-- from 7 on under the edition of the trip's window
abbrev pub rows_to : List ℕ → Editions → List ℕ → List ℕ → Row → List Row
rows_to file editions book trip last =
    rows_under editions (tariff_for file editions book trip) (counts_for editions book trip) book trip (window_in editions book trip) last

-- settling and a quote. 12: statement slice shorter than the charge records of its rides
unfoldable pub rows : List ℕ → Editions → List ℕ → List ℕ → ℕ → List Row
rows file editions book trip room = rows_to file editions book trip (row NoRoom (ltb room (statement_size (rides_for file editions book trip))))

-- no row, or the row of a refusal
pub data Verdict : Type 0 where
  nothing : Verdict
  found : Refusal → Verdict

-- the first row that holds
unfoldable pub first_of : List Row → Verdict
first_of [] = nothing
first_of (r ∷ rest) = cond r.test (found r.why) (first_of rest)

-- what comes of it: the refusal, or what there is where no row holds
unfoldable pub comes_to : {A : Type 0} → (Refusal → A) → A → Verdict → A
comes_to refused clear nothing = clear
comes_to refused clear (found why) = refused why

-- what tells one refusal's row from another's, which the number does not: a count of them in their order
abbrev pub row_of : Refusal → ℕ
row_of UnsoundBook = 0
row_of NoTrip = 1
row_of WrongParty = 2
row_of WrongStamp = 3
row_of WrongOrder = 4
row_of Mistap = 5
row_of TooEarly = 6
row_of NoEdition = 7
row_of UnknownStop = 8
row_of NoFirstClass = 9
row_of FullWindow = 10
row_of NoRoom = 11
row_of OtherRecord = 12

-- the test of a refusal's row, wherever it stands
unfoldable pub test_of : Refusal → List Row → Bool
test_of why [] = false
test_of why (r ∷ rest) = cond (eqb (row_of r.why) (row_of why)) r.test (test_of why rest)

-- a refusal is the first of the table to hold, where each refusal holds under a condition of its own: its condition holds, and that of no
-- row before it does
pub data First (holds : Refusal → Type 0) (why : Refusal) : List Row → Type 0 where
  here : {r : Row} {rest : List Row} → r.why ≡ why → holds why → First holds why (r ∷ rest)
  later : {r : Row} {rest : List Row} → (holds r.why → ⊥) → First holds why rest → First holds why (r ∷ rest)
