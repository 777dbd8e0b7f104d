-- Each row of the table in the rules' words; and what each outcome says: a refusal that its condition is the first to hold, an acceptance
-- that none does.
-- Assumes nothing.
use Prim.Native.Nat.{ℕ, ◌+◌, ◌≤◌, ◌<◌}
use native.Mathlib.Omega.{arith}
use native.Mathlib.Decide.{dec_lt}
use mathlib.Core.Path.{◌≡◌, refl, sym, ap, subst, ◌∙◌}
use mathlib.Core.Logic.{◌↔◌}
use mathlib.Core.List.{List, [], ◌∷◌}
use mathlib.Core.Bool.{Bool, true, false, not, ◌&&◌, false≢true}
use borrow.Author.Tests.{ltb-true, lt-ltb, le-leb, lt-leb, eqb-true, eqb-false, eq-eqb, ne_eqb, not-true}
use lib.ListN.{length}
use lib.Dec.{eqb, ltb}
use Rattle.wire.proofs.Tests.{both_left}
use Rattle.layout.specs.declared.Counts.{Counts}
use Rattle.layout.specs.Scan.{FaultSays}
use Rattle.layout.specs.Scan as scan
use Rattle.editions.specs.declared.Editions.{Editions}
use Rattle.editions.specs.declared.Editions.TheVariants.{One, Two}
use Rattle.editions.specs.declared.FileReading.{FileReading}
use Rattle.editions.specs.declared.FileReading.TheVariants.{Fault, Faultless}
use Rattle.editions.specs.Editions.{edition_in, since_of, in_force}
use Rattle.editions.specs.Reading.{read_file, ReadFile}
use Rattle.editions.specs.Openings.{OpeningSays, broken_off, ended, other-record, no_date, too-early}
use Rattle.editions.specs.InWords.{FileSays, first_opening, first-tariff, second_opening, second-tariff}
use Rattle.editions.proofs.FileLaws.{file_exactly}
use Rattle.editions.proofs.InForceLaws.{dates_rise}
use Rattle.trip.specs.Record.{class_at, level_at, party_at, count_at}
use Rattle.trip.specs.Moments.{checkin_of, checkout_of}
use Rattle.trip.specs.Trips.{trip_of}
use Rattle.trip.proofs.Shapes.{five}
use Rattle.trip.proofs.Ranges.{six, nine}
use Rattle.trip.proofs.Known.{seven, seventeen}
use Rattle.trip.proofs.Stamps.{eight}
use Rattle.fare.proofs.TownLaws.{refused_says, said_refused}
use Rattle.ledger.specs.Words.{trips_of, last_out_of, edition_of}
use Rattle.ledger.specs.Windows.{belongs, too_early}
use Rattle.ledger.proofs.SoundLaws.{alone_has}
use Rattle.ledger.proofs.WindowLaws.{edition_kept, edition_next}
use Rattle.statement.specs.Record.{Part, statement_size}
use Rattle.deciding.specs.declared.refusals.Refusal.{Refusal}
use Rattle.deciding.specs.declared.refusals.Refusal.TheVariants as why
use Rattle.deciding.specs.Refusals.{
  Row,
  row,
  sound_in,
  window_in,
  tariff_for,
  counts_for,
  rides_for,
  rows_to,
  rows,
  Verdict,
  nothing,
  found,
  first_of,
  test_of,
  First,
  here,
  later,
}
use Rattle.settle.specs.Outcome.{Outcome, refused, accepted, accepted_trip, settled}
use Rattle.settle.specs.Posting.{same_bytes, present_quote, posting_rows}
use Rattle.deciding.proofs.Rows.{stop, distinct, rows_distinct}
use Rattle.deciding.proofs.Rows as table
use Rattle.settle.proofs.Postings.{posting_distinct, same_exactly}
use Rattle.deciding.proofs.Decisions.{in-alone, refused_first, clear_first}
use Rattle.settle.proofs.Ways.{fault_way, refused_way, accepted_way}
use Rattle.promises.specs.Conditions.{
  TooEarly,
  BeforeFirst,
  condition_with,
  condition,
  posting_condition,
  RefusedBy,
  by_file,
  by_others,
  AcceptedBy,
}

-- ---- The rows in the rules' words.

-- a test that is negated
negated : (t : Bool) {says : Type 0} → (t ≡ false ↔ says) → not t ≡ true ↔ says
negated true law = (λ e. absurd (false≢true e), λ w. absurd (false≢true (sym (law.1 w))))
negated false law = (λ _. law.0 refl, λ _. refl)

-- a test of two numbers
below : (m n : ℕ) → ltb m n ≡ true ↔ m < n
below m n = (ltb-true m n, lt-ltb m n)

ten : (book : List ℕ) (checkin : ℕ) → too_early book checkin ≡ true ↔ TooEarly book checkin
unfolding too_early
ten book checkin =
    (go (eqb (trips_of book) 0) refl, λ w. rw (ne_eqb (trips_of book) 0 w.in_use, lt-ltb checkin (last_out_of book) w.early))
  where
    go : (t : Bool) → eqb (trips_of book) 0 ≡ t → not t && ltb checkin (last_out_of book) ≡ true → TooEarly book checkin
    go true is e = absurd (false≢true e)
    go false is e = record { in_use = eqb-false (trips_of book) 0 is; early = ltb-true checkin (last_out_of book) e }

-- in a file that was read, no edition is in force exactly before the first's first minute
pub before_first : (file : List ℕ) (editions : Editions) → ReadFile file editions → (minute : ℕ) → in_force editions minute ≡ 0 ↔ minute < since_of editions 1
unfolding in_force edition_in
before_first file (One first) read minute =
    elim (dec_lt minute first.since.0) [
      | yes early ↦ rw (lt-leb first.since.0 minute early) (λ _. early, λ _. refl)
      | no late ↦ rw (le-leb first.since.0 minute (omega arith)) (λ e. absurd (omega arith), λ early. absurd (late early))
    ]
before_first file (Two first second) read minute =
    let rises = dates_rise file read in
    elim (dec_lt minute second.since.0) [
      | no late ↦
          rw (le-leb second.since.0 minute (omega arith)) (λ e. absurd (omega arith), λ (early : minute < first.since.0). absurd (omega arith))
      | yes before ↦
          elim (dec_lt minute first.since.0) [
            | yes early ↦ rw (lt-leb second.since.0 minute before, lt-leb first.since.0 minute early) (λ _. early, λ _. refl)
            | no late ↦
                rw (lt-leb second.since.0 minute before, le-leb first.since.0 minute (omega arith))
                (λ e. absurd (omega arith), λ early. absurd (late early))
          ]
    ]

-- a trip belongs to a window only where one is open
pub open_there : (book : List ℕ) (checkout : ℕ) → belongs book checkout ≡ true → trips_of book ≡ 0 → ⊥
unfolding belongs
open_there book checkout e = eqb-false (trips_of book) 0 (not-true _ (both_left (not (eqb (trips_of book) 0)) _ e))

-- under a file that was read, on a sound book: the open window has an edition, and another opens where none is in force
twenty_two :
    (file : List ℕ) (editions : Editions) → ReadFile file editions → (book trip : List ℕ) → sound_in editions book ≡ true
    → eqb (window_in editions book trip).edition 0 ≡ true ↔ BeforeFirst editions book trip
twenty_two file editions read book trip is = go (belongs book (checkout_of trip)) refl
  where
    go : (t : Bool) → belongs book (checkout_of trip) ≡ t → eqb (window_in editions book trip).edition 0 ≡ true ↔ BeforeFirst editions book trip
    go true e =
        let kept = edition_kept book (checkin_of trip) (checkout_of trip) (in_force editions (checkin_of trip)) e in
        let used = open_there book (checkout_of trip) e in
        let some : 1 ≤ edition_of book = (alone_has book (in-alone editions book is)).edition (omega (arith, used)) in (
          λ none. absurd (omega (arith, some, sym kept ∙ eqb-true (window_in editions book trip).edition 0 none)),
          λ w. absurd (false≢true (sym w.opens ∙ e)),
        )
    go false e =
        let opened = edition_next book (checkin_of trip) (checkout_of trip) (in_force editions (checkin_of trip)) e in
        let exactly = before_first file editions read (checkin_of trip) in (
          λ none. record { opens = e; before = exactly.0 (sym opened ∙ eqb-true (window_in editions book trip).edition 0 none) },
          λ w. eq-eqb (window_in editions book trip).edition 0 (opened ∙ exactly.1 w.before),
        )

-- the rows 4 to 11, with a last one for 12 or for 13, where the book is sound under a file that was read
words-with :
    (file : List ℕ) (editions : Editions) → ReadFile file editions → (book trip : List ℕ) (last : Row) {no_room other_record : Type 0}
    → (test_of why.NoRoom (last ∷ []) ≡ true ↔ no_room) → (test_of why.OtherRecord (last ∷ []) ≡ true ↔ other_record) → sound_in editions book ≡ true
    → (r : Refusal) → test_of r (rows_to file editions book trip last) ≡ true
    ↔ condition_with editions (tariff_for file editions book trip) (counts_for editions book trip) book trip no_room other_record r
unfolding test_of condition_with
words-with file editions read book trip last twelve thirteen is why.UnsoundBook = negated (sound_in editions book) (λ e. e, λ e. e)
words-with file editions read book trip last twelve thirteen is why.NoTrip = negated _ (five trip)
words-with file editions read book trip last twelve thirteen is why.WrongParty =
    negated _ (six (class_at trip 0) (level_at trip 0) (party_at trip 0) (count_at trip 0))
words-with file editions read book trip last twelve thirteen is why.WrongStamp = negated _ (eight trip)
words-with file editions read book trip last twelve thirteen is why.WrongOrder = negated _ (nine (checkin_of trip) (checkout_of trip))
words-with file editions read book trip last twelve thirteen is why.Mistap = seventeen trip (count_at trip 0) (checkin_of trip) (checkout_of trip)
words-with file editions read book trip last twelve thirteen is why.TooEarly = ten book (checkin_of trip)
words-with file editions read book trip last twelve thirteen is why.NoEdition = twenty_two file editions read book trip is
words-with file editions read book trip last twelve thirteen is why.UnknownStop =
    negated _ (seven trip (counts_for editions book trip).stops (count_at trip 0))
words-with file editions read book trip last twelve thirteen is why.NoFirstClass = (
  refused_says (tariff_for file editions book trip) (counts_for editions book trip) trip (trip_of trip),
  said_refused (tariff_for file editions book trip) (counts_for editions book trip) trip (trip_of trip),
)
words-with file editions read book trip last twelve thirteen is why.FullWindow =
    below 256 ((window_in editions book trip).trips + length (rides_for file editions book trip))
words-with file editions read book trip last twelve thirteen is why.NoRoom = twelve
words-with file editions read book trip last twelve thirteen is why.OtherRecord = thirteen

-- a test that never holds
never : false ≡ true ↔ ⊥
never = (false≢true, λ none. absurd none)

-- A table that begins with the row of the book: where that holds it decides, whatever the others say; so these need mean what they say only on a
-- sound book.
module _ (holds : Refusal → Type 0) (sound : Bool) (rest : List Row) (unsound : sound ≡ false ↔ holds why.UnsoundBook)
    (d : distinct (row why.UnsoundBook (not sound) ∷ rest) ≡ true)
    (words : sound ≡ true → (r : Refusal) → test_of r (row why.UnsoundBook (not sound) ∷ rest) ≡ true ↔ holds r) where
  abbrev all : List Row
  all = row why.UnsoundBook (not sound) ∷ rest

  decides : sound ≡ false → first_of all ≡ found why.UnsoundBook
  decides e = stop (row why.UnsoundBook (not sound)) rest (rw e)

  behind_first : (r : Refusal) → first_of all ≡ found r ↔ First holds r all
  behind_first r = go sound refl
    where
      back : sound ≡ false → First holds r all → first_of all ≡ found r
      back e (here same h) = decides e ∙ ap found same
      back e (later not-here after) = absurd (not-here (unsound.0 e))

      go : (t : Bool) → sound ≡ t → first_of all ≡ found r ↔ First holds r all
      go true e = table.first_exactly holds all d (words e) r
      go false e = (
        λ f. let same : why.UnsoundBook ≡ r = cc (decides e, f) in here same (subst holds same (unsound.0 e)),
        back e,
      )

  behind_none : first_of all ≡ nothing ↔ ((r : Refusal) → holds r → ⊥)
  behind_none = go sound refl
    where
      go : (t : Bool) → sound ≡ t → first_of all ≡ nothing ↔ ((r : Refusal) → holds r → ⊥)
      go true e = table.none_exactly holds all d (words e)
      go false e = (
        λ f. absurd (let z : ◌≡◌ {A = ℕ} 0 1 = cc (decides e, f) in omega arith),
        λ none. absurd (none why.UnsoundBook (unsound.0 e)),
      )

-- A posting's rows.
module _ (file : List ℕ) (editions : Editions) (read : ReadFile file editions) (book trip offered : List ℕ) where
  posting_words :
      sound_in editions book ≡ true → (r : Refusal)
      → test_of r (posting_rows file editions book trip offered) ≡ true ↔ posting_condition file editions book trip offered r
  unfolding posting_rows test_of
  posting_words =
      words-with file editions read book trip (row why.OtherRecord (not (same_bytes (present_quote file editions book trip) offered))) never
      (negated (same_bytes (present_quote file editions book trip) offered) other)
    where
      other : same_bytes (present_quote file editions book trip) offered ≡ false ↔ (present_quote file editions book trip ≡ offered → ⊥)
      other = (
        λ differ same. false≢true (sym differ ∙ (same_exactly (present_quote file editions book trip) offered).1 same),
        λ differ. go (same_bytes (present_quote file editions book trip) offered) (λ same. differ ((same_exactly (present_quote file editions book trip) offered).0 same)),
      )
        where
          go : (t : Bool) → (t ≡ true → ⊥) → t ≡ false
          go true differ = absurd (differ refl)
          go false differ = refl

  pub posting_first_exactly :
      (r : Refusal)
      → first_of (posting_rows file editions book trip offered) ≡ found r
      ↔ First (posting_condition file editions book trip offered) r (posting_rows file editions book trip offered)
  unfolding posting_rows condition_with
  posting_first_exactly =
      behind_first (posting_condition file editions book trip offered) (sound_in editions book) _ (λ e. e, λ e. e)
      (posting_distinct file editions book trip offered) posting_words

  pub posting_none_exactly :
      first_of (posting_rows file editions book trip offered) ≡ nothing ↔ ((r : Refusal) → posting_condition file editions book trip offered r → ⊥)
  unfolding posting_rows condition_with
  posting_none_exactly =
      behind_none (posting_condition file editions book trip offered) (sound_in editions book) _ (λ e. e, λ e. e)
      (posting_distinct file editions book trip offered) posting_words

module _ (file : List ℕ) (editions : Editions) (read : ReadFile file editions) (book trip : List ℕ) (room : ℕ) where
  -- On a sound book each row's test holds exactly when its condition does.
  pub words :
      sound_in editions book ≡ true → (r : Refusal) → test_of r (rows file editions book trip room) ≡ true ↔ condition file editions book trip room r
  unfolding rows test_of
  words =
      words-with file editions read book trip (row why.NoRoom (ltb room (statement_size (rides_for file editions book trip))))
      (below room (statement_size (rides_for file editions book trip))) never

  -- So a refusal is found exactly when its condition is the first of the table to hold, and none where none holds.
  pub first_exactly :
      (r : Refusal)
      → first_of (rows file editions book trip room) ≡ found r ↔ First (condition file editions book trip room) r (rows file editions book trip room)
  unfolding rows condition_with
  first_exactly =
      behind_first (condition file editions book trip room) (sound_in editions book) _ (λ e. e, λ e. e) (rows_distinct file editions book trip room) words

  pub none_exactly : first_of (rows file editions book trip room) ≡ nothing ↔ ((r : Refusal) → condition file editions book trip room r → ⊥)
  unfolding rows condition_with
  none_exactly =
      behind_none (condition file editions book trip room) (sound_in editions book) _ (λ e. e, λ e. e) (rows_distinct file editions book trip room) words

-- ---- The outcomes.

-- a fault has a number
opening_some : {file : List ℕ} {at least number : ℕ} → OpeningSays file at least number → 1 ≤ number
opening_some (broken_off e inside frame) = omega arith
opening_some (ended e past) = omega arith
opening_some (other-record kind body e frame other) = omega arith
opening_some (no_date e frame none) = omega arith
opening_some (too-early e frame date early) = omega arith

tariff_some : {tariff : List ℕ} {place number : ℕ} {so_far : Counts} → FaultSays tariff place so_far number → 1 ≤ number
tariff_some (scan.one e w) = omega arith
tariff_some (scan.two e w) = omega arith
tariff_some (scan.three e w) = omega arith

pub fault_some : {file : List ℕ} {number place : ℕ} → FileSays file (Fault number place) → 1 ≤ number
fault_some (first_opening wrong) = opening_some wrong
fault_some (first-tariff opened passed wrong none) = tariff_some wrong
fault_some (second_opening opened begins wrong) = opening_some wrong
fault_some (second-tariff opened begins opened₂ passed wrong) = tariff_some wrong

-- A faultless file has no first fault, and its editions.
module _ (file : List ℕ) (editions : Editions) (read : ReadFile file editions) where
  pub no_fault : (n place : ℕ) → FileSays file (Fault n place) → ⊥
  no_fault n place says =
      let e = (file_exactly file (Fault n place)).1 says in
      let z : ◌≡◌ {A = ℕ} 0 1 = cc in
      omega arith

  pub editions_one : (other : Editions) → ReadFile file other → editions ≡ other
  editions_one other read' = cc

pub data Answered (file book bytes : List ℕ) (room : ℕ) : Outcome → Type 0 where
  refusing : {n place : ℕ} → RefusedBy file book bytes room n place → Answered file book bytes room (refused n place)
  accepting : {new : List ℕ} {parts : List Part} → AcceptedBy file book bytes room new parts → Answered file book bytes room (accepted new parts)

module _ (file book bytes : List ℕ) (room : ℕ) where
  by_table :
      (editions : Editions) → ReadFile file editions → (f : Verdict) → first_of (rows file editions book bytes room) ≡ f
      → Answered file book bytes room (settled file book bytes room)
  unfolding accepted_trip
  by_table editions read (found r) e =
      rw (refused_way file book bytes room editions read (refused_first file editions book bytes room e))
      (refusing (by_others editions read r refl refl ((first_exactly file editions read book bytes room r).0 e)))
  by_table editions read nothing e =
      rw (accepted_way file book bytes room editions read _ _ (clear_first file editions book bytes room e))
      (accepting
      (record { editions = editions; read = read; none = (none_exactly file editions read book bytes room).0 e; new_is = refl; parts_is = refl }))

  -- Every outcome says what it means.
  pub answered : Answered file book bytes room (settled file book bytes room)
  answered = go (read_file file) refl
    where
      go : (r : FileReading) → read_file file ≡ r → Answered file book bytes room (settled file book bytes room)
      go (Fault n place) e = rw (fault_way file book bytes room n place e) (refusing (by_file ((file_exactly file (Fault n place)).0 e)))
      go (Faultless editions) e = by_table editions e (first_of (rows file editions book bytes room)) refl
