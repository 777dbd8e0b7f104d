-- Posting a quote: from its table to what it comes to. The rows 4 to 11 are settling's, so what is decided with room for the largest
-- statement serves a posting, too: there 12 is never met.
-- Assumes nothing.
use Prim.Native.Nat.{ℕ, ◌^◌, ◌≤◌, ◌<◌}
use native.Mathlib.Nat.{le_refl}
use native.Mathlib.Omega.{arith}
use mathlib.Core.Path.{◌≡◌, refl, sym, ap, ◌∙◌}
use mathlib.Core.Logic.{◌↔◌, ◌⊎◌, inl, inr, ⊎_elim}
use mathlib.Core.Bool.{Bool, true, false, cond, not}
use mathlib.Core.List.{List, [], ◌∷◌}
use borrow.Author.Tests.{eq-eqb, eqb-true, le-ltb, ltb-true}
use lib.ListN.{length, get_or}
use lib.Seq.{ext_get_or}
use lib.Dec.{eqb, ltb}
use Rattle.wire.proofs.Each.{each_at, each_all}
use Rattle.wire.proofs.Tests.{both_left, both_right}
use Rattle.layout.specs.declared.Counts.{Counts}
use Rattle.editions.specs.declared.Editions.{Editions}
use Rattle.editions.specs.declared.FileReading.TheVariants.{Fault}
use Rattle.editions.specs.Reading.{read_file, ReadFile}
use Rattle.editions.specs.Editions.{tariff_in, counts_in}
use Rattle.trip.specs.declared.Trip.{Trip}
use Rattle.trip.specs.Trips.{trip_of}
use Rattle.trip.proofs.Clear.{good_fields}
use Rattle.trip.specs.declared.Ride.{Ride}
use Rattle.fare.specs.declared.Breaking.{Breaking}
use Rattle.ledger.specs.declared.Window.{Window}
use Rattle.ledger.proofs.SoundLaws.{sound_has}
use Rattle.statement.specs.Record.{largest_statement, statement_of, statement_size}
use Rattle.settle.specs.declared.Answer.TheVariants as answer
use Rattle.deciding.specs.declared.decide.Decision.TheVariants.{Refused, Clear}
use Rattle.deciding.specs.declared.refusals.Refusal.{Refusal}
use Rattle.deciding.specs.declared.refusals.Refusal.TheVariants.{UnsoundBook, NoRoom, OtherRecord}
use Rattle.deciding.specs.Refusals.{refusal, sound_in, tariff_for, counts_for, rides_for, row, rows, Verdict, nothing, found, first_of}
use Rattle.deciding.specs.Deciding.{decided_under}
use Rattle.settle.specs.Outcome.{trip_parts, trip_posted, parts_under, book_with, quote_bytes}
use Rattle.settle.specs.Posting.{same_bytes, present_quote, posting_rows, Posting, unposted, renewed, posted_under, posting_of}
use Rattle.deciding.specs.Clauses.{AllClear}
use Rattle.settle.specs.Clauses.{PostingTold, clear_posting}
use Rattle.deciding.proofs.Rows.{skip, stop, end, has, distinct, numbered, in_range, earlier_rows, earlier_decides, later_decides}
use Rattle.deciding.proofs.Rides.{rides_most}
use Rattle.deciding.proofs.Decisions.{refused_found, clear_found, no_row}
use Rattle.settle.proofs.Ways.{priced_under}
use Rattle.settle.proofs.Clear.{parts_right}

-- ---- The same bytes.

-- the test at one byte
abbrev pub byte_same : List ℕ → List ℕ → ℕ → Bool
byte_same bytes other i = eqb (get_or bytes i 0) (get_or other i 0)

pub same_exactly : (bytes other : List ℕ) → same_bytes bytes other ≡ true ↔ bytes ≡ other
unfolding same_bytes
same_exactly bytes other = (there, back)
  where
    there : same_bytes bytes other ≡ true → bytes ≡ other
    there e =
        let size = eqb-true (length bytes) (length other) (both_left (eqb (length bytes) (length other)) _ e) in
        let all = both_right (eqb (length bytes) (length other)) _ e in
        ext_get_or 0 bytes other size
        (λ i h. eqb-true (get_or bytes i 0) (get_or other i 0) (each_at (length other) (byte_same bytes other) all i (omega arith)))

    back : bytes ≡ other → same_bytes bytes other ≡ true
    back e =
        rw (e, eq-eqb (length other) (length other) refl)
        (each_all (length other) (byte_same other other) (λ i h. eq-eqb (get_or other i 0) (get_or other i 0) refl))

-- ---- The rows in common.

module _ (file : List ℕ) (editions : Editions) (book trip : List ℕ) where
  abbrev rides : List Ride
  rides = rides_for file editions book trip

  abbrev earlier : Verdict
  earlier = first_of (earlier_rows file editions book trip)

  -- where none of 4 to 11 holds, and there is room, no row of settling does
  clear_with_room : (room : ℕ) → earlier ≡ nothing → statement_size rides ≤ room → first_of (rows file editions book trip room) ≡ nothing
  unfolding rows
  clear_with_room room e fits = later_decides (earlier_rows file editions book trip) _ e ∙ skip _ _ (le-ltb room (statement_size rides) fits) ∙ end

  -- such a trip's records take at most the bytes of the largest statement
  few_bytes : earlier ≡ nothing → statement_size rides ≤ largest_statement
  few_bytes e =
      let good = (no_row file editions book trip (statement_size rides) (clear_with_room (statement_size rides) e (le_refl _))).good in
      let ranges = (good_fields good).ranges in
      rides_most (tariff_for file editions book trip) (counts_for editions book trip) trip (trip_of trip) ranges.adults ranges.children ranges.bicycles

  -- where settling finds a row, one of 4 to 11 holds, or none does and the room is too small
  pub earlier_or_room :
      (room : ℕ) {why : Refusal} → first_of (rows file editions book trip room) ≡ found why
      → (earlier ≡ found why) ⊎ ((earlier ≡ nothing) × ((why ≡ NoRoom) × (room < statement_size rides)))
  unfolding rows first_of
  earlier_or_room room {why} e = go earlier refl
    where
      last_one : (t : Bool) → ltb room (statement_size rides) ≡ t → cond t (found NoRoom) nothing ≡ found why → (why ≡ NoRoom) × (room < statement_size rides)
      last_one true is e' = (cc, ltb-true room (statement_size rides) is)
      last_one false is e' = absurd (let z : ◌≡◌ {A = ℕ} 0 1 = cc in omega arith)

      go : (f : Verdict) → earlier ≡ f → (earlier ≡ found why) ⊎ ((earlier ≡ nothing) × ((why ≡ NoRoom) × (room < statement_size rides)))
      go (found other) is =
          let same : other ≡ why = cc (earlier_decides (earlier_rows file editions book trip) (row NoRoom (ltb room (statement_size rides)) ∷ []) is) in
          inl (is ∙ ap found same)
      go nothing is =
          inr (
            is,
            last_one (ltb room (statement_size rides)) refl
                (sym (later_decides (earlier_rows file editions book trip) (row NoRoom (ltb room (statement_size rides)) ∷ []) is) ∙ e),
          )

  -- with room for the largest statement it is one of 4 to 11
  pub enough_room : {why : Refusal} → first_of (rows file editions book trip largest_statement) ≡ found why → earlier ≡ found why
  enough_room {why} e =
      ⊎_elim (λ is. is)
      (λ (small : (earlier ≡ nothing) × ((why ≡ NoRoom) × (largest_statement < statement_size rides))).
      absurd (omega (arith, few_bytes small.0, small.1.1)))
      (earlier_or_room largest_statement e)

  -- where none is found, none of 4 to 11 holds; and with room for the largest statement the other way round
  pub none_earlier : (room : ℕ) → first_of (rows file editions book trip room) ≡ nothing → earlier ≡ nothing
  unfolding rows
  none_earlier room e = go earlier refl
    where
      go : (f : Verdict) → earlier ≡ f → earlier ≡ nothing
      go nothing is = is
      go (found why) is =
          absurd
          (let z : ◌≡◌ {A = ℕ} 0 1 = cc (earlier_decides (earlier_rows file editions book trip) (row NoRoom (ltb room (statement_size rides)) ∷ []) is) in
          omega arith)

  pub none_then : earlier ≡ nothing → first_of (rows file editions book trip largest_statement) ≡ nothing
  none_then e = clear_with_room largest_statement e (few_bytes e)

-- ---- The table of a posting.

module _ (file : List ℕ) (editions : Editions) (book trip offered : List ℕ) where
  pub posting_distinct : distinct (posting_rows file editions book trip offered) ≡ true
  unfolding posting_rows distinct has
  posting_distinct = refl

  pub posting_range : in_range (refusal OtherRecord) (posting_rows file editions book trip offered) ≡ true
  unfolding posting_rows in_range numbered
  posting_range = refl

  -- 12 does not stand in it
  pub no_room_row : has refusal (refusal NoRoom) (posting_rows file editions book trip offered) ≡ false
  unfolding posting_rows has
  no_room_row = refl

-- ---- What a posting comes to.

module _ (file : List ℕ) (editions : Editions) (book trip offered : List ℕ) where
  pub posting_found : {why : Refusal} → first_of (posting_rows file editions book trip offered) ≡ found why → posted_under file editions book trip offered ≡ unposted (refusal why) 0
  unfolding posted_under
  posting_found e = rw (e, posted_under)

  pub posting_none : first_of (posting_rows file editions book trip offered) ≡ nothing → posted_under file editions book trip offered ≡ renewed (book_with file editions book trip)
  unfolding posted_under
  posting_none e = rw (e, posted_under)

  -- one of 4 to 11
  pub posting_earlier : {why : Refusal} → earlier file editions book trip ≡ found why → first_of (posting_rows file editions book trip offered) ≡ found why
  unfolding posting_rows
  posting_earlier e = earlier_decides (earlier_rows file editions book trip) _ e

  -- or none of them, and then 13 or nothing
  pub posting_last :
      earlier file editions book trip ≡ nothing
      → first_of (posting_rows file editions book trip offered)
      ≡ cond (same_bytes (present_quote file editions book trip) offered) nothing (found OtherRecord)
  unfolding posting_rows first_of
  posting_last e =
      later_decides (earlier_rows file editions book trip) (row OtherRecord (not (same_bytes (present_quote file editions book trip) offered)) ∷ []) e
      ∙ turned (same_bytes (present_quote file editions book trip) offered)
    where
      turned : (t : Bool) → cond (not t) (found OtherRecord) nothing ≡ cond t nothing (found OtherRecord)
      turned true = refl
      turned false = refl

  -- by what is decided with room for the largest statement
  pub posted_refused :
      {why : Refusal} → decided_under file editions book trip largest_statement ≡ Refused why → posted_under file editions book trip offered ≡ unposted (refusal why) 0
  posted_refused e =
      posting_found (posting_earlier (enough_room file editions book trip (refused_found file editions book trip largest_statement e)))

  pub unsound_posting : sound_in editions book ≡ false → posted_under file editions book trip offered ≡ unposted (refusal UnsoundBook) 0
  unfolding posting_rows
  unsound_posting is = posting_found (stop _ _ (rw is))

  pub posted_clear :
      (fields : Trip) (window : Window) {breaking : Breaking} → decided_under file editions book trip largest_statement ≡ Clear fields window breaking
      → posted_under file editions book trip offered ≡ clear_posting (tariff_in file editions window.edition) (counts_in editions window.edition) book trip fields window offered
  posted_clear fields window e =
      let (no_one, (fields_are, (window_is, broken))) = clear_found file editions book trip largest_statement e in
      let quote = ap quote_bytes (priced_under file editions book trip largest_statement fields window e) in
      let last = posting_last (none_earlier file editions book trip largest_statement no_one) in
      let book_is : book_with file editions book trip ≡ trip_posted (tariff_in file editions window.edition) (counts_in editions window.edition) book trip fields window = rw (fields_are, window_is) in
      go (same_bytes (statement_of (parts_under file editions book trip fields window)) offered) (rw quote at last) book_is
    where
      go : (t : Bool) → first_of (posting_rows file editions book trip offered) ≡ cond t nothing (found OtherRecord)
          → book_with file editions book trip ≡ trip_posted (tariff_in file editions window.edition) (counts_in editions window.edition) book trip fields window
          → posted_under file editions book trip offered
          ≡ cond t (renewed (trip_posted (tariff_in file editions window.edition) (counts_in editions window.edition) book trip fields window)) (unposted (refusal OtherRecord) 0)
      go true is book_is = posting_none is ∙ ap renewed book_is
      go false is book_is = posting_found is

module _ (file book trip offered : List ℕ) where
  pub fault_posting : (number at : ℕ) → read_file file ≡ Fault number at → posting_of file book trip offered ≡ unposted number at
  unfolding posting_of
  fault_posting number at e = rw (e, posting_of)

  pub faultless_posting : (editions : Editions) → ReadFile file editions → posting_of file book trip offered ≡ posted_under file editions book trip offered
  unfolding posting_of
  faultless_posting editions read = rw (read, posting_of)

-- ---- The answers.

-- A refusal's answer, with nothing written.
pub posting_refusal_told :
    (p : Posting) (book : List ℕ) (number place : ℕ) → p ≡ unposted number place → place < 2 ^ 32 → PostingTold p book book (answer.Refused number place)
posting_refusal_told p book number place e near = rw e (record { answer = refl; fits = near; book_is = refl })

-- Another record than the quote's is refused; with the quote's the book has the trip.
module _ (tariff : List ℕ) (counts : Counts) (book bytes : List ℕ) (trip : Trip) (window : Window) {breaking : Breaking}
    (clear : AllClear tariff counts book bytes trip window breaking largest_statement) (offered : List ℕ) where
  pub other_told :
      same_bytes (statement_of (trip_parts tariff counts book bytes trip window)) offered ≡ false
      → PostingTold (clear_posting tariff counts book bytes trip window offered) book book (answer.Refused (refusal OtherRecord) 0)
  other_told e = rw e (record { answer = refl; fits = omega arith; book_is = refl })

  pub posted_told :
      same_bytes (statement_of (trip_parts tariff counts book bytes trip window)) offered ≡ true → {book' : List ℕ}
      → book' ≡ trip_posted tariff counts book bytes trip window
      → PostingTold (clear_posting tariff counts book bytes trip window offered) book book' (answer.Written (length book'))
  posted_told e book_is =
      let sound_again = (parts_right tariff counts book bytes trip window largest_statement clear).1 in
      let size = (sound_has (trip_posted tariff counts book bytes trip window) counts.areas sound_again).size in
      rw (e, book_is) (record { answer = refl; fits = omega (arith, size); book_is = refl })
