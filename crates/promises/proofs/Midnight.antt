-- Midnight: windows look at minutes, never at dates but for an edition's first. A trip opens a new window exactly when none is open or its
-- check-out is over 1,440 minutes after the opening; and a night moved on the calendar, over midnight, a month's end or a year's end, is settled
-- and posted alike, where its windows open under the same editions.
-- Assumes nothing.
use Prim.Native.Nat.{ℕ, ◌+◌, ◌<◌}
use native.Mathlib.Nat.{add-zero}
use native.Mathlib.Omega.{arith}
use mathlib.Core.Path.{◌≡◌, refl, sym, ap, ◌∙◌}
use mathlib.Core.Logic.{◌↔◌, ◌⊎◌, inl, inr, ⊎_elim}
use mathlib.Core.List.{List}
use mathlib.Core.Bool.{Bool, true, false, cond, not, ◌&&◌, false≢true}
use borrow.Author.Tests.{leb-true, leb-false, le-leb, eq-eqb, ne_eqb, eqb-true, eqb-false}
use lib.Dec.{leb, eqb}
use Rattle.units.specs.Day.{day_minutes}
use Rattle.calendar.specs.Stamps.{last_minute}
use Rattle.editions.specs.declared.Editions.{Editions}
use Rattle.editions.specs.declared.FileReading.{FileReading}
use Rattle.editions.specs.declared.FileReading.TheVariants.{Fault, Faultless}
use Rattle.editions.specs.Editions.{in_force}
use Rattle.editions.specs.Reading.{read_file, ReadFile}
use Rattle.trip.specs.Moments.{checkin_of, checkout_of}
use Rattle.ledger.specs.Words.{fresh_book, trips_of, opening_of, last_out_of, edition_of}
use Rattle.ledger.specs.Windows.{belongs, window_of}
use Rattle.ledger.proofs.WordLaws.{word_fresh}
use Rattle.statement.specs.Record.{Part, largest_statement, statement_of}
use Rattle.deciding.specs.declared.refusals.Refusal.TheVariants.{OtherRecord}
use Rattle.deciding.specs.Refusals.{refusal, rows, Verdict, nothing, found, first_of}
use Rattle.settle.specs.Outcome.{priced, Outcome, refused, accepted, accepted_trip, quoted, settled, parts_priced, book_after}
use Rattle.settle.specs.Posting.{same_bytes, unposted, renewed, posting_of}
use Rattle.deciding.proofs.Decisions.{clear_first, refused_first}
use Rattle.settle.proofs.Ways.{fault_way, refused_way, accepted_way}
use Rattle.settle.proofs.Postings.{same_exactly}
use Rattle.settle.specs.Runs.{Offer}
use Rattle.settle.specs.Steps.{Step, offer_of, posted_in, step_outcome, book_after_each, under, book_after_steps}
use Rattle.promises.specs.Runs.{book_of}
use Rattle.promises.specs.Moved.{
  MovedTrip,
  MovedBook,
  MovedParts,
  MovedOutcome,
  both_refused,
  both_accepted,
  MovedRecord,
  MovedStep,
  moved_settling,
  moved_posting,
  moved_none,
  moved_more,
  MovedRun,
  OpensAlike,
  OpenAlike,
  alike_none,
  alike_more,
}
use Rattle.promises.proofs.Answers.{accepted-is}
use Rattle.promises.proofs.Quotes.{quote_refuses_alike, Present, refuses, quotes, present}
use Rattle.promises.proofs.ReadBack.{settled_readable}
use Rattle.promises.proofs.Shifts.{Shifted, rows_same, moved_parts, moved_book}
use Rattle.promises.proofs.Alike.{fresh_same}

-- ---- Windows.

module _ (book : List ℕ) (checkin checkout next : ℕ) where
  by_window : (none : Bool) → eqb (trips_of book) 0 ≡ none → (soon : Bool) → leb checkout (opening_of book + day_minutes) ≡ soon
      → (not none && soon ≡ false) ↔ ((trips_of book ≡ 0) ⊎ (opening_of book + day_minutes < checkout))
  by_window true e soon e' = (λ _. inl (eqb-true _ _ e), λ _. refl)
  by_window false e true e' = (
    λ never. absurd (false≢true (sym never)),
    ⊎_elim (λ is. absurd (eqb-false _ _ e is)) (λ late. absurd (let soon = leb-true checkout (opening_of book + day_minutes) e' in omega arith)),
  )
  by_window false e false e' = (λ _. inr (leb-false checkout (opening_of book + day_minutes) e'), λ _. refl)

  -- A trip opens a new window exactly when none is open, or its check-out is over 1,440 minutes after the opening of the open one.
  pub new_window : (window_of book checkin checkout next).current ≡ false ↔ ((trips_of book ≡ 0) ⊎ (opening_of book + day_minutes < checkout))
  unfolding window_of belongs
  new_window = by_window (eqb (trips_of book) 0) refl (leb checkout (opening_of book + day_minutes)) refl

  -- The new window opens at the trip's check-in, and the trip is its first; its edition is the next one, which is in force then.
  pub new_window_opens :
      (window_of book checkin checkout next).current ≡ false
      → ((window_of book checkin checkout next).opening.0 ≡ checkin)
      × ((window_of book checkin checkout next).trips ≡ 0)
      × ((window_of book checkin checkout next).edition ≡ next)
  unfolding window_of
  new_window_opens e = (rw e, rw e, rw e)

  -- In the open window the opening stays, the book's trips are before this one, and the edition is the book's, whatever is in force now.
  pub same_window_stays :
      (window_of book checkin checkout next).current ≡ true
      → ((window_of book checkin checkout next).opening.0 ≡ opening_of book)
      × ((window_of book checkin checkout next).trips ≡ trips_of book)
      × ((window_of book checkin checkout next).edition ≡ edition_of book)
  unfolding window_of
  same_window_stays e = (rw e, rw e, rw e)

-- ---- A night moved.

-- a trip and a book so moved
shifted :
    {d : ℕ} {book bytes book' bytes' : List ℕ} → MovedTrip d bytes bytes' → MovedBook d book book' → Shifted 0 d book bytes book' bytes'
shifted {d} {book} t b =
    record {
      trip = t.same;
      stamps = t.stamps;
      stamps' = t.stamps';
      checkin = omega (arith, t.checkin);
      checkout = omega (arith, t.checkout);
      others = b.same;
      opening = λ used. omega (arith, rw (ne_eqb (trips_of book) 0 used) at b.opening);
      last = λ used. omega (arith, rw (ne_eqb (trips_of book) 0 used) at b.last);
      unused = λ none.
          (omega (arith, rw (eq-eqb (trips_of book) 0 none) at b.opening), omega (arith, rw (eq-eqb (trips_of book) 0 none) at b.last));
      in-calendar =
          le-leb _ last_minute b.in-calendar ∙ sym (le-leb (last_out_of book) last_minute (omega (arith, b.last, b.in-calendar)));
    }

module _ (file : List ℕ) (room d : ℕ) {book bytes book' bytes' : List ℕ} (trip : MovedTrip d bytes bytes') (moved : MovedBook d book book')
    (opens : OpensAlike file d book bytes) where
  -- a window that the trip opens has the same edition
  in-force :
      {editions : Editions} → ReadFile file editions → belongs book (checkout_of bytes) ≡ false
      → in_force editions (checkin_of bytes') ≡ in_force editions (checkin_of bytes)
  in-force {editions} read is = ap (in_force editions) trip.checkin ∙ opens.in-force editions read is

  s : Shifted 0 d book bytes book' bytes'
  s = shifted trip moved

  both_taken : {new new' : List ℕ} {parts parts' : List Part} → settled file book bytes room ≡ accepted new parts
      → settled file book' bytes' room ≡ accepted new' parts' → MovedOutcome d (settled file book bytes room) (settled file book' bytes' room)
  both_taken e e' =
      let a = accepted-is file book bytes room e in
      let a' = accepted-is file book' bytes' room e' in
      rw (e, e') (both_accepted (moved_book s a a' (in-force a.read)) (moved_parts s a a' (in-force a.read)))

  -- the two tables are one, so what is found first is
  by_table :
      (editions : Editions) → ReadFile file editions → (f : Verdict) → first_of (rows file editions book bytes room) ≡ f
      → first_of (rows file editions book' bytes' room) ≡ f → MovedOutcome d (settled file book bytes room) (settled file book' bytes' room)
  unfolding accepted_trip
  by_table editions read (found why) e e' =
      rw (
        refused_way file book bytes room editions read (refused_first file editions book bytes room e),
        refused_way file book' bytes' room editions read (refused_first file editions book' bytes' room e'),
      )
      (both_refused (refusal why) 0)
  by_table editions read nothing e e' =
      both_taken (accepted_way file book bytes room editions read _ _ (clear_first file editions book bytes room e))
      (accepted_way file book' bytes' room editions read _ _ (clear_first file editions book' bytes' room e'))

  -- Windows do not look at dates. Where a trip's stamps, and with them the opening and the last check-out of the book, are moved by one number
  -- of minutes, over midnight, a month's end or a year's end, and a window that the trip opens has the same edition, the outcome is the same but
  -- for the opening: the same refusal; or the same area, kilometres, minutes and charges, and a book with the same sums and covering areas.
  pub moved_alike : MovedOutcome d (settled file book bytes room) (settled file book' bytes' room)
  moved_alike = go (read_file file) refl
    where
      go : (r : FileReading) → read_file file ≡ r → MovedOutcome d (settled file book bytes room) (settled file book' bytes' room)
      go (Fault n place) e =
          rw (fault_way file book bytes room n place e, fault_way file book' bytes' room n place e) (both_refused n place)
      go (Faultless editions) e =
          by_table editions e (first_of (rows file editions book bytes room)) refl (ap first_of (rows_same s editions (in-force e) file room))

-- the same of a trip offered with room for its record
offer_moved :
    (file : List ℕ) {d : ℕ} {o o' : Offer} {book book' : List ℕ} → MovedTrip d o.bytes o'.bytes → o'.room ≡ o.room
    → MovedBook d book book' → OpensAlike file d book o.bytes
    → MovedOutcome d (settled file book o.bytes o.room) (settled file book' o'.bytes o'.room)
offer_moved file {d} {o} trip room books opens = rw room (moved_alike file o.room d trip books opens)

-- ---- A trip posted.

-- two tests that hold alike
both_alike : (a b c d : List ℕ) → a ≡ b ↔ c ≡ d → same_bytes c d ≡ same_bytes a b
both_alike a b c d alike = go (same_bytes a b) (same_bytes c d) refl refl
  where
    go : (t t' : Bool) → same_bytes a b ≡ t → same_bytes c d ≡ t' → t' ≡ t
    go true true e e' = refl
    go false false e e' = refl
    go true false e e' = sym e' ∙ (same_exactly c d).1 (alike.0 ((same_exactly a b).0 e))
    go false true e e' = sym (sym e ∙ (same_exactly a b).1 (alike.1 ((same_exactly c d).0 e')))

-- two outcomes so moved are both acceptances or both refusals
abbrev taken : Outcome → ℕ
taken (refused number place) = 0
taken (accepted new parts) = 1

taken_alike : {d : ℕ} {o o' : Outcome} → MovedOutcome d o o' → taken o ≡ taken o'
taken_alike (both_refused n place) = refl
taken_alike (both_accepted books parts) = refl

module _ (file : List ℕ) {d : ℕ} {trip trip' offered offered' book book' : List ℕ} (m : MovedTrip d trip trip') (r : MovedRecord d offered offered')
    (books : MovedBook d book book') (opens : OpensAlike file d book trip) where
  abbrev posted : Outcome
  posted = posted_in (parts_priced (quoted file book trip largest_statement)) (posting_of file book trip offered)

  abbrev posted' : Outcome
  posted' = posted_in (parts_priced (quoted file book' trip' largest_statement)) (posting_of file book' trip' offered')

  -- both quotes are refused alike, and so is every record
  none_posted :
      (n place : ℕ) → posting_of file book trip offered ≡ unposted n place → (n' place' : ℕ) → posting_of file book' trip' offered' ≡ unposted n' place'
      → MovedOutcome d (refused n place) (refused n' place') → MovedOutcome d posted posted'
  none_posted n place e n' place' e' alike = rw (e, e') alike

  -- or both are accepted, and each record is that of the present quote or not
  by_record :
      {parts parts' : List Part} {new new' : List ℕ} (same : Bool)
      → posting_of file book trip offered ≡ cond same (renewed new) (unposted (refusal OtherRecord) 0)
      → posting_of file book' trip' offered' ≡ cond same (renewed new') (unposted (refusal OtherRecord) 0)
      → quoted file book trip largest_statement ≡ priced parts → quoted file book' trip' largest_statement ≡ priced parts'
      → MovedOutcome d (accepted new parts) (accepted new' parts') → MovedOutcome d posted posted'
  by_record true e e' q q' alike = rw (e, e', q, q') alike
  by_record false e e' q q' alike = rw (e, e') (both_refused (refusal OtherRecord) 0)

  parts_moved : {new new' : List ℕ} {parts parts' : List Part} → MovedOutcome d (accepted new parts) (accepted new' parts') → MovedParts d parts parts'
  parts_moved (both_accepted books parts) = parts

  posting_moved : MovedOutcome d posted posted'
  posting_moved = go (present file book trip) (present file book' trip') (moved_alike file largest_statement d m books opens)
    where
      go :
          Present file book trip → Present file book' trip'
          → MovedOutcome d (settled file book trip largest_statement) (settled file book' trip' largest_statement) → MovedOutcome d posted posted'
      go (refuses n place posts q) (refuses n' place' posts' q') alike =
          none_posted n place (posts offered) n' place' (posts' offered')
          (rw
          ((quote_refuses_alike file book trip largest_statement n place).0 q, (quote_refuses_alike file book' trip' largest_statement n' place').0 q')
          at alike)
      go (refuses n place posts q) (quotes parts' new' posts' q' s') alike =
          absurd (omega (arith, taken_alike (rw ((quote_refuses_alike file book trip largest_statement n place).0 q, s') at alike)))
      go (quotes parts new posts q s) (refuses n' place' posts' q') alike =
          absurd (omega (arith, taken_alike (rw (s, (quote_refuses_alike file book' trip' largest_statement n' place').0 q') at alike)))
      go (quotes parts new posts q s) (quotes parts' new' posts' q' s') alike =
          let alike' : MovedOutcome d (accepted new parts) (accepted new' parts') = rw (s, s') at alike in
          let readable = settled_readable file book trip largest_statement s in
          let readable' = settled_readable file book' trip' largest_statement s' in
          let same =
          both_alike (statement_of parts) offered (statement_of parts') offered' (r.alike readable readable' (parts_moved alike'))
          in
          by_record (same_bytes (statement_of parts) offered) (posts offered) (posts' offered' ∙ rw same) q q' alike'

-- ---- A night.

-- the same of a step
step_moved :
    (file : List ℕ) {d : ℕ} {step step' : Step} {book book' : List ℕ} → MovedStep d (MovedTrip d) step step' → MovedBook d book book'
    → OpensAlike file d book (offer_of step).bytes → MovedOutcome d (step_outcome file book step) (step_outcome file book' step')
unfolding step_outcome
step_moved file (moved_settling {o} {o'} trip room) books opens = offer_moved file {o = o} {o' = o'} trip room books opens
step_moved file (moved_posting trip records) books opens = posting_moved file trip records books opens

-- the books that two such outcomes leave
book-after :
    {d : ℕ} {o o' : Outcome} {book book' : List ℕ} → MovedOutcome d o o' → MovedBook d book book' → MovedBook d (book_after o book) (book_after o' book')
book-after (both_refused n place) before = before
book-after (both_accepted books parts) before = books

-- a fresh book is a fresh book, whenever
fresh_moved : (d : ℕ) → MovedBook d fresh_book fresh_book
fresh_moved d =
    record {
      same = fresh_same;
      opening = rw (word_fresh 0, add-zero);
      last = rw (word_fresh 0, add-zero);
      in-calendar = omega (arith, word_fresh 2);
    }

-- a run of such steps, from such books on
run_moved :
    (file : List ℕ) {d : ℕ} {run run' : List Step} → MovedRun d run run' → {book book' : List ℕ} → MovedBook d book book'
    → OpenAlike file d book run → MovedBook d (book_after_steps file book run) (book_after_steps file book' run')
unfolding book_after_each under
run_moved file moved_none before alike_none = before
run_moved file (moved_more step later) before (alike_more opens others) =
    run_moved file later (book-after (step_moved file step before opens) before) others

-- One cap for one night, whatever the dates. Where every trip of a run from a fresh book, settled or posted, is moved by the same number of
-- minutes, and each that opens a window opens it under the same edition, the books differ in the opening and the last check-out alone.
pub night_alike :
    (file : List ℕ) {d : ℕ} {run run' : List Step} → MovedRun d run run' → OpenAlike file d fresh_book run
    → MovedBook d (book_of file run) (book_of file run')
night_alike file {d} moved alike = run_moved file moved (fresh_moved d) alike

-- And each trip of the night is refused or accepted as before, with the same charges.
pub night_outcomes :
    (file : List ℕ) {d : ℕ} {step step' : Step} {run run' : List Step} → MovedStep d (MovedTrip d) step step' → MovedRun d run run'
    → OpenAlike file d fresh_book run → OpensAlike file d (book_of file run) (offer_of step).bytes
    → MovedOutcome d (step_outcome file (book_of file run) step) (step_outcome file (book_of file run') step')
night_outcomes file step before alike opens = step_moved file step (night_alike file before alike) opens
