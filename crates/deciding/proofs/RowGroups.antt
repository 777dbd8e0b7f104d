-- From what a group of the table's rows comes to back to its rows; what the trip's own rows give where they are clear; and that the rows of room
-- are the table's last.
-- Assumes nothing.
use Prim.Native.Nat.{ℕ}
use native.Mathlib.Omega.{arith}
use mathlib.Core.Path.{◌≡◌}
use mathlib.Core.List.{List}
use borrow.Author.Tests.{not-false}
use lib.Dec.{ltb}
use Rattle.layout.specs.declared.Counts.{Counts}
use Rattle.trip.specs.declared.Party.{Party}
use Rattle.trip.specs.Record.{count_at}
use Rattle.trip.specs.Trips.{is_trip, trip_of}
use Rattle.trip.proofs.Shapes.{Filling, fills}
use Rattle.fare.specs.declared.Breaking.{Breaking}
use Rattle.fare.specs.Parts.{break_of, rides_of}
use Rattle.ledger.specs.declared.Window.{Window}
use Rattle.editions.specs.declared.Editions.{Editions}
use Rattle.statement.specs.Record.{statement_size}
use Rattle.deciding.specs.declared.groups.Fields.{Fields}
use Rattle.deciding.specs.declared.groups.Span.{Span}
use Rattle.deciding.specs.declared.groups.Formed.TheVariants as formed
use Rattle.deciding.specs.declared.groups.Placed.TheVariants as placed
use Rattle.deciding.specs.declared.groups.Timed.TheVariants as timed
use Rattle.deciding.specs.declared.groups.Opened.TheVariants as opened
use Rattle.deciding.specs.declared.groups.Roomed.TheVariants as roomed
use Rattle.deciding.specs.declared.refusals.Refusal.{Refusal}
use Rattle.deciding.specs.declared.refusals.Refusal.TheVariants.{NoTrip, WrongParty, NoRoom}
use Rattle.deciding.specs.Refusals.{row, trip_rows, clock_rows, edition_rows, tariff_rows, room_rows, nothing, found, first_of, test_of}
use Rattle.deciding.specs.Deciding.{fields_of, span_of, formed_by, placed_by, timed_by, window_over, opened_by, room_rows_by, roomed_by}
use Rattle.deciding.specs.Clauses.{WellFormed}
use Rattle.deciding.proofs.Rides.{rides_count, rides_size}
use Rattle.deciding.proofs.Rows.{told_refused, told_clear, none-holds}

-- ---- The trip's own.

module _ (trip : List ℕ) where
  pub refused_formed : {why : Refusal} → formed_by trip ≡ formed.Refused why → first_of (trip_rows trip) ≡ found why
  unfolding formed_by
  refused_formed e = told_refused formed.Refused _ _ (λ a b is. cc) (λ a is. let z : ◌≡◌ {A = ℕ} 0 1 = cc in omega arith) e

  pub as_formed : {fields : Fields} → formed_by trip ≡ formed.As fields → (first_of (trip_rows trip) ≡ nothing) × (fields ≡ fields_of trip)
  unfolding formed_by
  as_formed e = let (none, same) = told_clear formed.Refused _ _ (λ why is. let z : ◌≡◌ {A = ℕ} 0 1 = cc in omega arith) e in (none, cc)

  pub well_formed : {fields : Fields} → first_of (trip_rows trip) ≡ nothing → fields ≡ fields_of trip → WellFormed trip fields
  unfolding test_of
  well_formed e is =
      let off = none-holds (trip_rows trip) e in
      record { whole = not-false (is_trip trip) (off NoTrip); party = rw is (not-false _ (off WrongParty)); fields_are = is }

-- a well-formed trip fills its bytes
pub filling : {trip : List ℕ} {fields : Fields} → WellFormed trip fields → Filling trip fields.stops
filling {trip} ok = rw ok.fields_are (fills trip ok.whole)

-- ---- The tariff's.

module _ (tariff : List ℕ) (counts : Counts) (trip : List ℕ) where
  pub refused_placed : {why : Refusal} → placed_by tariff counts trip ≡ placed.Refused why → first_of (tariff_rows tariff counts trip) ≡ found why
  unfolding placed_by
  refused_placed e = told_refused placed.Refused _ _ (λ a b is. cc) (λ a is. let z : ◌≡◌ {A = ℕ} 0 1 = cc in omega arith) e

  pub broken_placed :
      {breaking : Breaking} → placed_by tariff counts trip ≡ placed.Broken breaking
      → (first_of (tariff_rows tariff counts trip) ≡ nothing) × (breaking ≡ break_of tariff counts trip (count_at trip 0))
  unfolding placed_by
  broken_placed e = let (none, same) = told_clear placed.Refused _ _ (λ why is. let z : ◌≡◌ {A = ℕ} 0 1 = cc in omega arith) e in (none, cc)

-- ---- Those of clock and book.

module _ (book trip : List ℕ) where
  pub refused_timed : {why : Refusal} → timed_by book trip ≡ timed.Refused why → first_of (clock_rows book trip) ≡ found why
  unfolding timed_by
  refused_timed e = told_refused timed.Refused _ _ (λ a b is. cc) (λ a is. let z : ◌≡◌ {A = ℕ} 0 1 = cc in omega arith) e

  pub over_timed : {span : Span} → timed_by book trip ≡ timed.Over span → (first_of (clock_rows book trip) ≡ nothing) × (span ≡ span_of trip)
  unfolding timed_by
  over_timed e = let (none, same) = told_clear timed.Refused _ _ (λ why is. let z : ◌≡◌ {A = ℕ} 0 1 = cc in omega arith) e in (none, cc)

-- ---- That of the window's edition.

module _ (editions : Editions) (book : List ℕ) (span : Span) where
  pub refused_opened :
      {why : Refusal} → opened_by editions book span ≡ opened.Refused why → first_of (edition_rows (window_over editions book span)) ≡ found why
  unfolding opened_by
  refused_opened e = told_refused opened.Refused _ _ (λ a b is. cc) (λ a is. let z : ◌≡◌ {A = ℕ} 0 1 = cc in omega arith) e

  pub in-opened :
      {window : Window} → opened_by editions book span ≡ opened.In window
      → (first_of (edition_rows (window_over editions book span)) ≡ nothing) × (window ≡ window_over editions book span)
  unfolding opened_by
  in-opened e = let (none, same) = told_clear opened.Refused _ _ (λ why is. let z : ◌≡◌ {A = ℕ} 0 1 = cc in omega arith) e in (none, cc)

-- ---- Those of room.

module _ (window : Window) (breaking : Breaking) (party : Party) (room : ℕ) where
  pub refused_roomed : {why : Refusal} → roomed_by window breaking party room ≡ roomed.Refused why → first_of (room_rows_by window breaking party room) ≡ found why
  unfolding roomed_by
  refused_roomed e = told_refused roomed.Refused _ _ (λ a b is. cc) (λ a is. let z : ◌≡◌ {A = ℕ} 0 1 = cc in omega arith) e

  pub enough_roomed : roomed_by window breaking party room ≡ roomed.Enough → first_of (room_rows_by window breaking party room) ≡ nothing
  unfolding roomed_by
  enough_roomed e = (told_clear roomed.Refused _ _ (λ why is. let z : ◌≡◌ {A = ℕ} 0 1 = cc in omega arith) e).0

-- Of what the groups before them have found they are the table's last rows.
pub last_rows :
    (tariff : List ℕ) (counts : Counts) (trip : List ℕ) (room : ℕ) (window : Window) {fields : Fields} {breaking : Breaking} → fields ≡ fields_of trip
    → breaking ≡ break_of tariff counts trip (count_at trip 0)
    → let rides = rides_of tariff counts trip (trip_of trip) in
    room_rows window rides (row NoRoom (ltb room (statement_size rides))) ≡ room_rows_by window breaking fields.party room
last_rows tariff counts trip room window fields_are breaking_is =
    rw (fields_are, breaking_is, rides_count tariff counts trip (trip_of trip), rides_size tariff counts trip (trip_of trip))
