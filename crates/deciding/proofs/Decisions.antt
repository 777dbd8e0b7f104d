-- From file and book to whether they are ready, from the table to the decision, and back; and what a clear decision says.
-- Assumes nothing.
use Prim.Native.Nat.{ℕ, ◌+◌, ◌≤◌}
use native.Mathlib.Omega.{arith}
use mathlib.Core.Path.{◌≡◌, refl, sym, ◌∙◌}
use mathlib.Core.Bool.{Bool, true, false, cond, false≢true}
use mathlib.Core.List.{List}
use borrow.Author.Tests.{eq-eqb, le-leb, leb-true, ltb-false, not-false}
use lib.ListN.{length}
use lib.Dec.{eqb, leb}
use Rattle.layout.specs.declared.Counts.{Counts}
use Rattle.editions.specs.declared.Editions.{Editions}
use Rattle.editions.specs.declared.FileReading.{FileReading}
use Rattle.editions.specs.declared.FileReading.TheVariants.{Fault, Faultless}
use Rattle.editions.specs.Reading.{read_file, ReadFile}
use Rattle.editions.specs.Editions.{many_of, counts_in, tariff_in, in_force}
use Rattle.editions.proofs.Parts.{edition_read}
use Rattle.editions.proofs.InForceLaws.{in-force-most}
use Rattle.editions.proofs.Places.{many_most}
use Rattle.trip.specs.declared.Trip.{Trip}
use Rattle.trip.specs.Record.{count_at}
use Rattle.trip.specs.Moments.{checkin_of, checkout_of}
use Rattle.trip.specs.Trips.{is_trip, stamps_right, in_order, is_mistap, trip_of}
use Rattle.trip.specs.Clauses.{GoodTrip}
use Rattle.fare.specs.declared.Breaking.{Breaking}
use Rattle.fare.specs.Parts.{break_of}
use Rattle.fare.specs.Towns.{town_refuses}
use Rattle.ledger.specs.declared.Window.{Window}
use Rattle.ledger.specs.Words.{trips_of, edition_of}
use Rattle.ledger.specs.Sound.{sound_alone, covers_sound, sound}
use Rattle.ledger.specs.Windows.{belongs, too_early, window_of}
use Rattle.ledger.proofs.SoundLaws.{alone_has, sound-alone, sound_covers}
use Rattle.ledger.proofs.WindowLaws.{edition_most}
use Rattle.wire.proofs.Tests.{both_left, both_right}
use Rattle.statement.specs.Record.{statement_size}
use Rattle.deciding.specs.declared.decide.Decision.TheVariants.{Refused, Clear}
use Rattle.deciding.specs.declared.groups.Fields.{Fields}
use Rattle.deciding.specs.declared.groups.Span.{Span}
use Rattle.deciding.specs.declared.ready.Readiness.TheVariants as readiness
use Rattle.deciding.specs.declared.refusals.Refusal.{Refusal}
use Rattle.deciding.specs.declared.refusals.Refusal.TheVariants as why
use Rattle.deciding.specs.Refusals.{
  refusal,
  last_refusal,
  Numbered,
  sound_in,
  window_in,
  tariff_for,
  counts_for,
  rides_for,
  rows,
  Verdict,
  nothing,
  found,
  first_of,
  test_of,
}
use Rattle.deciding.specs.Deciding.{fields_of, span_of, trip_with, readiness_of, decided_under}
use Rattle.deciding.specs.Clauses.{Ready, AllClear}
use Rattle.deciding.proofs.Rows.{comes_refused, comes_clear, told_refused, told_clear, none-holds, first_range, rows_range}

-- ---- File and book.

module _ (file book : List ℕ) where
  pub at_fault : {number at : ℕ} → read_file file ≡ Fault number at → readiness_of file book ≡ readiness.Refused number at
  unfolding readiness_of
  at_fault e = rw (e, readiness_of)

  pub not_sound :
      {editions : Editions} → ReadFile file editions → sound_in editions book ≡ false → readiness_of file book ≡ readiness.Refused (refusal why.UnsoundBook) 0
  unfolding readiness_of
  not_sound read unsound = rw (read, readiness_of, unsound)

  pub made_ready : {editions : Editions} → ReadFile file editions → sound_in editions book ≡ true → readiness_of file book ≡ readiness.Ready editions
  unfolding readiness_of
  made_ready read is = rw (read, readiness_of, is)

  -- and only then
  pub data Unready (number place : ℕ) : Type 0 where
    faulty : read_file file ≡ Fault number place → Unready number place
    unsound :
        (editions : Editions) → ReadFile file editions → sound_in editions book ≡ false → number ≡ refusal why.UnsoundBook → place ≡ 0 → Unready number place

  pub unready : {number place : ℕ} → readiness_of file book ≡ readiness.Refused number place → Unready number place
  unready {number} {place} e = go (read_file file) refl
    where
      by_sound : (editions : Editions) → ReadFile file editions → (t : Bool) → sound_in editions book ≡ t → Unready number place
      by_sound editions read true is = absurd (let z : ◌≡◌ {A = ℕ} 0 1 = cc (made_ready read is) in omega arith)
      by_sound editions read false is = unsound editions read is (cc (not_sound read is)) (cc (not_sound read is))

      go : (r : FileReading) → read_file file ≡ r → Unready number place
      go (Fault n at) is = let same-n : n ≡ number = cc (at_fault is) in let same_at : at ≡ place = cc (at_fault is) in faulty (rw (is, same-n, same_at))
      go (Faultless editions) is = by_sound editions is (sound_in editions book) refl

  pub ready_then : {editions : Editions} → readiness_of file book ≡ readiness.Ready editions → Ready file editions book
  ready_then {editions} e = go (read_file file) refl
    where
      by_sound : (other : Editions) → ReadFile file other → (t : Bool) → sound_in other book ≡ t → Ready file editions book
      by_sound other read true is =
          let same : other ≡ editions = cc (made_ready read is) in rw (← same) (record { read = read; sound_book = is })
      by_sound other read false is = absurd (let z : ◌≡◌ {A = ℕ} 0 1 = cc (not_sound read is) in omega arith)

      go : (r : FileReading) → read_file file ≡ r → Ready file editions book
      go (Fault n at) is = absurd (let z : ◌≡◌ {A = ℕ} 0 1 = cc (at_fault is) in omega arith)
      go (Faultless other) is = by_sound other is (sound_in other book) refl

-- ---- A sound book's parts.

module _ (editions : Editions) (book : List ℕ) (is : sound_in editions book ≡ true) where
  pub in-alone : sound_alone book ≡ true
  unfolding sound_in
  in-alone = both_left (sound_alone book) _ is

  pub in-known : edition_of book ≤ many_of editions
  unfolding sound_in
  in-known = leb-true (edition_of book) (many_of editions) (both_left _ _ (both_right (sound_alone book) _ is))

  pub in-covers : covers_sound book (counts_in editions (edition_of book)).areas ≡ true
  unfolding sound_in
  in-covers = both_right (leb (edition_of book) (many_of editions)) _ (both_right (sound_alone book) _ is)

-- And back: a book that is sound under the tariff of an edition of the file, which it names.
pub in-back :
    (editions : Editions) (book : List ℕ) {edition : ℕ} → edition_of book ≡ edition → edition ≤ many_of editions
    → sound book (counts_in editions edition).areas ≡ true → sound_in editions book ≡ true
unfolding sound_in
in-back editions book {edition} is known s =
    rw (sound-alone book (counts_in editions edition).areas s, is, le-leb edition (many_of editions) known)
    (sound_covers book (counts_in editions edition).areas s)

-- ---- A trip.

module _ (file : List ℕ) (editions : Editions) (book trip : List ℕ) (room : ℕ) where
  abbrev found_first : Verdict
  found_first = first_of (rows file editions book trip room)

  abbrev window : Window
  window = window_in editions book trip

  abbrev tariff : List ℕ
  tariff = tariff_for file editions book trip

  abbrev counts : Counts
  counts = counts_for editions book trip

  abbrev breaking : Breaking
  breaking = break_of tariff counts trip (count_at trip 0)

  -- the first row that holds is refused; where none does, the decision is clear
  pub refused_first : {why : Refusal} → found_first ≡ found why → decided_under file editions book trip room ≡ Refused why
  unfolding decided_under
  refused_first e = comes_refused Refused _ e

  pub clear_first : found_first ≡ nothing → decided_under file editions book trip room ≡ Clear (trip_of trip) window breaking
  unfolding decided_under
  clear_first e = comes_clear Refused _ e

  -- by what the groups of rows have found
  pub clear_with :
      {fields : Fields} {span : Span} {here : Window} {broken : Breaking} → found_first ≡ nothing → fields ≡ fields_of trip → span ≡ span_of trip
      → here ≡ window → broken ≡ breaking → Clear (trip_with fields span) here broken ≡ decided_under file editions book trip room
  clear_with no_one fields_are span-is here-is broken_is = rw (broken_is, here-is, fields_are, span-is, clear_first no_one)

  -- and only then
  pub refused_found : {why : Refusal} → decided_under file editions book trip room ≡ Refused why → found_first ≡ found why
  unfolding decided_under
  refused_found e = told_refused Refused _ _ (λ a b is. cc) (λ a is. let z : ◌≡◌ {A = ℕ} 0 1 = cc in omega arith) e

  pub clear_found :
      {fields : Trip} {here : Window} {broken : Breaking} → decided_under file editions book trip room ≡ Clear fields here broken
      → (found_first ≡ nothing) × ((fields ≡ trip_of trip) × ((here ≡ window) × (broken ≡ breaking)))
  unfolding decided_under
  clear_found e =
      let (none, same) = told_clear Refused _ _ (λ why is. let z : ◌≡◌ {A = ℕ} 0 1 = cc in omega arith) e in (none, (cc, (cc, cc)))

  -- What it says that no row holds.
  pub record NoneHolds : Type 0 where
    pub sound_book : sound_in editions book ≡ true
    pub good : GoodTrip trip counts.stops
    pub class_there : town_refuses tariff counts trip (trip_of trip) ≡ false
    pub no_mistap : is_mistap trip (count_at trip 0) (checkin_of trip) (checkout_of trip) ≡ false
    pub on_time : too_early book (checkin_of trip) ≡ false
    pub some_edition : 1 ≤ window.edition
    pub few : window.trips + length (rides_for file editions book trip) ≤ 256
    pub fits : statement_size (rides_for file editions book trip) ≤ room

  pub no_row : found_first ≡ nothing → NoneHolds
  unfolding rows test_of
  no_row e =
      let off = none-holds (rows file editions book trip room) e in
      record {
        sound_book = not-false (sound_in editions book) (off why.UnsoundBook);
        good = record {
          whole = not-false (is_trip trip) (off why.NoTrip);
          party = not-false _ (off why.WrongParty);
          stops = not-false _ (off why.UnknownStop);
          stamps = not-false (stamps_right trip) (off why.WrongStamp);
          order = not-false (in_order (checkin_of trip) (checkout_of trip)) (off why.WrongOrder);
        };
        class_there = off why.NoFirstClass;
        no_mistap = off why.Mistap;
        on_time = off why.TooEarly;
        some_edition = some window.edition (off why.NoEdition);
        few = ltb-false 256 (window.trips + length (rides_for file editions book trip)) (off why.FullWindow);
        fits = ltb-false room (statement_size (rides_for file editions book trip)) (off why.NoRoom);
      }
    where
      some : (n : ℕ) → eqb n 0 ≡ false → 1 ≤ n
      some n other = let apart : n ≡ 0 → ⊥ = λ is. false≢true (sym other ∙ eq-eqb n 0 is) in omega arith

-- The numbers of the table are 4 to the last row's, and 17 and 22.
pub refusal_range :
    (file : List ℕ) (editions : Editions) (book trip : List ℕ) (room : ℕ) {why : Refusal} → decided_under file editions book trip room ≡ Refused why
    → (4 ≤ refusal why) × Numbered last_refusal (refusal why)
refusal_range file editions book trip room e =
    first_range last_refusal (rows file editions book trip room) (rows_range file editions book trip room) (refused_found file editions book trip room e)

-- A trip's window has at most 256 trips.
pub trips_most : (editions : Editions) (book trip : List ℕ) → sound_in editions book ≡ true → (window_in editions book trip).trips ≤ 256
unfolding window_of
trips_most editions book trip is = go (belongs book (checkout_of trip))
  where
    go : (current : Bool) → cond current (trips_of book) 0 ≤ 256
    go true = (alone_has book (in-alone editions book is)).trips
    go false = omega arith

-- In the open window the edition is the book's, so its bicycles are within that edition's areas.
pub covers_there :
    (editions : Editions) (book trip : List ℕ) → sound_in editions book ≡ true → (window_in editions book trip).current ≡ true
    → covers_sound book (counts_for editions book trip).areas ≡ true
unfolding window_of
covers_there editions book trip is current = rw current (in-covers editions book is)

-- The window's edition is one of the file's, or none is in force.
pub edition_known : (editions : Editions) (book trip : List ℕ) → sound_in editions book ≡ true → (window_in editions book trip).edition ≤ many_of editions
edition_known editions book trip is =
    edition_most book (checkin_of trip) (checkout_of trip) (in_force editions (checkin_of trip)) (many_of editions) (in-known editions book is)
    (in-force-most editions (checkin_of trip))

edition_small : (editions : Editions) (book trip : List ℕ) → sound_in editions book ≡ true → (window_in editions book trip).edition ≤ 255
edition_small editions book trip is = omega (arith, edition_known editions book trip is, many_most editions)

-- A clear decision is all that writing asks.
pub all_clear :
    (file : List ℕ) (editions : Editions) (book bytes : List ℕ) (trip : Trip) (window : Window) (breaking : Breaking) (room : ℕ)
    → Ready file editions book → decided_under file editions book bytes room ≡ Clear trip window breaking
    → AllClear (tariff_in file editions window.edition) (counts_in editions window.edition) book bytes trip window breaking room
all_clear file editions book bytes trip window breaking room ready e =
    let (no_one, (trip_is, (window_is, breaking_is))) = clear_found file editions book bytes room e in
    let clear = no_row file editions book bytes room no_one in
    record {
      read = edition_read file editions ready.read window.edition;
      alone = in-alone editions book ready.sound_book;
      covers = rw window_is (covers_there editions book bytes ready.sound_book);
      good = rw window_is clear.good;
      trip_is = trip_is;
      next = in_force editions (checkin_of bytes);
      window_is = rw trip_is window_is;
      some_edition = rw window_is clear.some_edition;
      small = rw window_is (edition_small editions book bytes ready.sound_book);
      breaking_is = rw (window_is, trip_is) breaking_is;
      on_time = rw trip_is clear.on_time;
      few = rw (window_is, trip_is) clear.few;
      fits = rw (window_is, trip_is) clear.fits;
    }
