-- Two settlings whose minutes are all moved by one number, where a window that is opened has the same edition in both: each row of the table
-- holds of both or of neither, and two acceptances have the same rides, the same charges and cuts, and books and records alike but for the
-- minutes.
-- Assumes nothing.
use Prim.Native.Nat.{ℕ, zero, suc, ◌+◌, ◌-◌, ◌*◌, ◌≤◌, ◌<◌}
use native.Mathlib.Nat.{add-zero}
use native.Mathlib.Omega.{arith}
use native.Mathlib.Decide.{ℕ_discrete, dec_lt}
use mathlib.Core.Path.{◌≡◌, refl, sym, ap, subst, ◌∙◌, fun_ext}
use mathlib.Core.List.{List, [], ◌∷◌}
use mathlib.Core.Bool.{Bool, true, false, cond, not, ◌&&◌, false≢true}
use borrow.Author.Tests.{le-leb, lt-leb, lt-ltb, le-ltb, eq-eqb, ne_eqb}
use lib.ListN.{length}
use lib.Dec.{leb, ltb, eqb}
use Rattle.wire.specs.Each.{each}
use Rattle.units.specs.Day.{day_minutes}
use Rattle.calendar.specs.Stamps.{last_minute}
use Rattle.layout.specs.declared.Counts.{Counts}
use Rattle.areas.specs.Areas.{FaultlessTariff}
use Rattle.editions.specs.declared.Editions.{Editions}
use Rattle.editions.specs.Editions.{counts_in, tariff_in, in_force}
use Rattle.areas.proofs.Faultless.{faultless}
use Rattle.trip.specs.Record.{count_at, stop_number}
use Rattle.trip.specs.Moments.{checkin_of, checkout_of}
use Rattle.trip.specs.Trips.{stops_known, stamps_right, in_order, one_stop, is_mistap, trip_of}
use Rattle.trip.proofs.Shapes.{trip_same}
use Rattle.trip.specs.declared.Ride.{Ride}
use Rattle.units.specs.Price.{most_price}
use Rattle.fare.specs.Towns.{town_refuses}
use Rattle.fare.specs.Clauses.{EachRide}
use Rattle.fare.specs.Clauses as riding
use Rattle.fare.proofs.SameStops.{rides_same}
use Rattle.ledger.specs.declared.Window.{Window}
use Rattle.ledger.specs.Words.{book_size, book_words, edition_place, word, trips_of, opening_of, last_out_of, edition_of, cover_word, paid_place, paid_word}
use Rattle.ledger.specs.Sound.{all_zero, head_sound, pairs_sound, covers_sound, most_paid, payments_sound, sound_alone}
use Rattle.ledger.specs.Windows.{belongs, too_early, window_of, in_window}
use Rattle.charging.specs.Clauses.{Rideable}
use Rattle.statement.specs.Record.{Part}
use Rattle.deciding.specs.Refusals.{sound_in, window_in, tariff_for, counts_for, rows}
use Rattle.settle.specs.Outcome.{part_of, one_more, parts_of, posted_all}
use Rattle.promises.specs.Conditions.{trip_rides, AcceptedBy}
use Rattle.promises.specs.Moved.{SameTrip, SameWords, MovedBook, MovedPart, MovedParts, one_part, no_part}
use Rattle.promises.proofs.Refusing.{editions_one}
use Rattle.promises.proofs.Answers.{windowBy, tariffBy, countsBy, read_by, charged-rides, some-parts, right-window}
use Rattle.promises.proofs.Books.{book_head}
use Rattle.promises.proofs.Alike.{window_same, charges_same, cuts_same, posted_same}

-- no trip belongs to a window where none is open
unopened : (book : List ℕ) (checkout : ℕ) → trips_of book ≡ 0 → belongs book checkout ≡ false
unfolding belongs
unopened book checkout none = rw (eq-eqb (trips_of book) 0 none)

-- ---- Trips and books moved by one number of minutes.

-- m' is m, moved by d minutes on and c back
abbrev pub Moved : ℕ → ℕ → ℕ → ℕ → Type 0
Moved c d m m' = m' + c ≡ m + d

-- the two settlings: so moved, it can be read either way
pub record Shifted (c d : ℕ) (book bytes book' bytes' : List ℕ) : Type 0 where
  pub trip : SameTrip bytes bytes'
  pub stamps : stamps_right bytes ≡ true
  pub stamps' : stamps_right bytes' ≡ true
  pub checkin : Moved c d (checkin_of bytes) (checkin_of bytes')
  pub checkout : Moved c d (checkout_of bytes) (checkout_of bytes')
  pub others : SameWords book book'
  pub opening : (trips_of book ≡ 0 → ⊥) → Moved c d (opening_of book) (opening_of book')
  pub last : (trips_of book ≡ 0 → ⊥) → Moved c d (last_out_of book) (last_out_of book')
  pub unused : trips_of book ≡ 0 → (opening_of book' ≡ opening_of book) × (last_out_of book' ≡ last_out_of book)
  pub in-calendar : leb (last_out_of book') last_minute ≡ leb (last_out_of book) last_minute

-- a test of two numbers holds of two others alike
leb_alike : (a b a' b' : ℕ) → (a ≤ b → a' ≤ b') → (a' ≤ b' → a ≤ b) → leb a' b' ≡ leb a b
leb_alike a b a' b' there back =
    elim (dec_lt b a) [
      | yes more ↦
          elim (dec_lt b' a') [
            | yes more' ↦ lt-leb a' b' more' ∙ sym (lt-leb a b more)
            | no less ↦ absurd (omega (arith, back (omega arith)))
          ]
      | no less ↦ le-leb a' b' (there (omega arith)) ∙ sym (le-leb a b (omega arith))
    ]

ltb_alike : (a b a' b' : ℕ) → (a < b → a' < b') → (a' < b' → a < b) → ltb a' b' ≡ ltb a b
ltb_alike a b a' b' there back =
    elim (dec_lt a b) [
      | yes less ↦ lt-ltb a' b' (there less) ∙ sym (lt-ltb a b less)
      | no more ↦
          elim (dec_lt a' b') [
            | yes less' ↦ absurd (more (back less'))
            | no more' ↦ le-ltb a' b' (omega arith) ∙ sym (le-ltb a b (omega arith))
          ]
    ]

-- a test at each of the first numbers goes by the tests
each_alike : (n : ℕ) (test test' : ℕ → Bool) → ((i : ℕ) → test' i ≡ test i) → each n test' ≡ each n test
each_alike n test test' same = ap (each n) (fun_ext same)

module _ {c d : ℕ} {book bytes book' bytes' : List ℕ} (s : Shifted c d book bytes book' bytes') where
  trips_same : trips_of book' ≡ trips_of book
  trips_same = s.others.trips

  -- the book is sound or not alike
  zeros_same : trips_of book ≡ 0 → all_zero book' ≡ all_zero book
  unfolding all_zero
  zeros_same none = each_alike book_words (λ i. eqb (word book i) 0) (λ i. eqb (word book' i) 0) (λ i. ap (λ v. eqb v 0) (same i))
    where
      same : (i : ℕ) → word book' i ≡ word book i
      same zero = trips_same
      same (suc zero) = (s.unused none).0
      same (suc (suc zero)) = (s.unused none).1
      same (suc (suc (suc i))) = s.others.sums (suc (suc (suc i))) (omega arith)

  pairs_same : (most : ℕ) → pairs_sound book' most ≡ pairs_sound book most
  unfolding pairs_sound
  pairs_same most =
      each_alike 672 (λ i. leb (word book (3 + 2 * i)) (word book (3 + 2 * i + 1)) && leb (word book (3 + 2 * i + 1)) most)
      (λ i. leb (word book' (3 + 2 * i)) (word book' (3 + 2 * i + 1)) && leb (word book' (3 + 2 * i + 1)) most)
      (λ i. rw (s.others.sums (3 + 2 * i) (omega arith), s.others.sums (3 + 2 * i + 1) (omega arith)))

  covers_same : (areas : ℕ) → covers_sound book' areas ≡ covers_sound book areas
  unfolding covers_sound
  covers_same areas =
      each_alike 10 (λ i. leb (cover_word book i) areas) (λ i. leb (cover_word book' i) areas)
      (λ i. ap (λ v. leb v areas) (s.others.sums (1347 + i) (omega arith)))

  payments_same : payments_sound book' ≡ payments_sound book
  unfolding payments_sound
  payments_same =
      each_alike 10 (λ i. leb (paid_word book i) most_paid) (λ i. leb (paid_word book' i) most_paid)
      (λ i. ap (λ v. leb v most_paid) (s.others.sums (paid_place i) (omega arith)))

  -- the edition that it names is one
  edition_word : edition_of book' ≡ edition_of book
  edition_word = s.others.sums edition_place (omega arith)

  head_same :
      (trips_of book ≡ 0 → ⊥) → head_sound (trips_of book') (opening_of book') (last_out_of book') ≡ head_sound (trips_of book) (opening_of book) (last_out_of book)
  head_same used =
      let o = s.opening used in
      let l = s.last used in
      rw (
        trips_same,
        leb_alike (opening_of book) (last_out_of book) (opening_of book') (last_out_of book') (λ h. omega arith) (λ h. omega arith),
        s.in-calendar,
        leb_alike (last_out_of book) (opening_of book + day_minutes) (last_out_of book') (opening_of book' + day_minutes) (λ h. omega arith) (λ h. omega arith),
      )

  alone_same : sound_alone book' ≡ sound_alone book
  unfolding sound_alone
  alone_same = rw (s.others.size, trips_same) (go (ℕ_discrete (trips_of book) 0))
    where
      go : Dec (trips_of book ≡ 0)
          → eqb (length book) book_size
          && cond (eqb (trips_of book) 0) (all_zero book')
          (head_sound (trips_of book) (opening_of book') (last_out_of book')
          && (pairs_sound book' (trips_of book * most_price) && (payments_sound book' && leb 1 (edition_of book'))))
          ≡ eqb (length book) book_size
          && cond (eqb (trips_of book) 0) (all_zero book)
          (head_sound (trips_of book) (opening_of book) (last_out_of book)
          && (pairs_sound book (trips_of book * most_price) && (payments_sound book && leb 1 (edition_of book))))
      go (yes none) = rw (eq-eqb (trips_of book) 0 none, zeros_same none)
      go (no used) =
          rw (
            ne_eqb (trips_of book) 0 used,
            rw trips_same at (head_same used),
            pairs_same (trips_of book * most_price),
            payments_same,
            edition_word,
          )

  sound_same : (editions : Editions) → sound_in editions book' ≡ sound_in editions book
  unfolding sound_in
  sound_same editions = rw (alone_same, edition_word, covers_same (counts_in editions (edition_of book)).areas)

  -- the trip belongs to the open window or not alike
  belongs_same : belongs book' (checkout_of bytes') ≡ belongs book (checkout_of bytes)
  unfolding belongs
  belongs_same = rw trips_same (go (ℕ_discrete (trips_of book) 0))
    where
      go : Dec (trips_of book ≡ 0)
          → not (eqb (trips_of book) 0) && leb (checkout_of bytes') (opening_of book' + day_minutes)
          ≡ not (eqb (trips_of book) 0) && leb (checkout_of bytes) (opening_of book + day_minutes)
      go (yes none) = rw (eq-eqb (trips_of book) 0 none)
      go (no used) =
          let o = s.opening used in
          let out = s.checkout in
          rw (leb_alike (checkout_of bytes) (opening_of book + day_minutes) (checkout_of bytes') (opening_of book' + day_minutes) (λ h. omega arith) (λ h. omega arith))

  trips_alike :
      (next next' : ℕ) → (window_of book' (checkin_of bytes') (checkout_of bytes') next').trips ≡ (window_of book (checkin_of bytes) (checkout_of bytes) next).trips
  unfolding window_of
  trips_alike next next' = rw (belongs_same, trips_same)

  stops_same : (n known : ℕ) → stops_known bytes' n known ≡ stops_known bytes n known
  unfolding stops_known
  stops_same n known =
      each_alike n (λ i. ltb (stop_number bytes i) known) (λ i. ltb (stop_number bytes' i) known) (λ i. ap (λ v. ltb v known) (s.trip.stop i))

  order_same : in_order (checkin_of bytes') (checkout_of bytes') ≡ in_order (checkin_of bytes) (checkout_of bytes)
  order_same =
      let i = s.checkin in
      let o = s.checkout in
      rw (
        leb_alike (checkin_of bytes) (checkout_of bytes) (checkin_of bytes') (checkout_of bytes') (λ h. omega arith) (λ h. omega arith),
        leb_alike (checkout_of bytes) (checkin_of bytes + day_minutes) (checkout_of bytes') (checkin_of bytes' + day_minutes) (λ h. omega arith) (λ h. omega arith),
      )

  -- the stops are one or not alike, and the duration is the same
  one_same : (n : ℕ) → one_stop bytes' n ≡ one_stop bytes n
  unfolding one_stop
  one_same n =
      each_alike n (λ i. eqb (stop_number bytes i) (stop_number bytes 0)) (λ i. eqb (stop_number bytes' i) (stop_number bytes' 0))
      (λ i. rw (s.trip.stop i, s.trip.stop 0))

  mistap_same : (n : ℕ) → is_mistap bytes' n (checkin_of bytes') (checkout_of bytes') ≡ is_mistap bytes n (checkin_of bytes) (checkout_of bytes)
  mistap_same n =
      let duration : checkout_of bytes' - checkin_of bytes' ≡ checkout_of bytes - checkin_of bytes = omega (arith, s.checkin, s.checkout) in
      rw (one_same n, duration)

  early_same : too_early book' (checkin_of bytes') ≡ too_early book (checkin_of bytes)
  unfolding too_early
  early_same = rw trips_same (go (ℕ_discrete (trips_of book) 0))
    where
      go : Dec (trips_of book ≡ 0)
          → not (eqb (trips_of book) 0) && ltb (checkin_of bytes') (last_out_of book') ≡ not (eqb (trips_of book) 0) && ltb (checkin_of bytes) (last_out_of book)
      go (yes none) = rw (eq-eqb (trips_of book) 0 none)
      go (no used) =
          let l = s.last used in
          let i = s.checkin in
          rw (ltb_alike (checkin_of bytes) (last_out_of book) (checkin_of bytes') (last_out_of book') (λ h. omega arith) (λ h. omega arith))

  -- ---- The rides.

  -- the two trips are the same rides
  pub rides_alike : (tariff : List ℕ) (counts : Counts) → trip_rides tariff counts bytes' ≡ trip_rides tariff counts bytes
  rides_alike tariff counts =
      rides_same bytes bytes' s.trip.stop tariff counts (trip_of bytes) (trip_of bytes')
      (record {
        class = s.trip.class;
        level = s.trip.level;
        party = s.trip.party;
        stops = s.trip.count;
        duration = omega (arith, s.checkin, s.checkout);
      })

  -- in first class in a marked town or not alike
  town_same : (tariff : List ℕ) (counts : Counts) → town_refuses tariff counts bytes' (trip_of bytes') ≡ town_refuses tariff counts bytes (trip_of bytes)
  unfolding town_refuses
  town_same tariff counts = rw (rides_alike tariff counts, s.trip.class)

  -- ---- The window.

  current_same :
      (next next' : ℕ) → (window_of book' (checkin_of bytes') (checkout_of bytes') next').current ≡ (window_of book (checkin_of bytes) (checkout_of bytes) next).current
  unfolding window_of
  current_same next next' = belongs_same

  opening_moved :
      (next next' : ℕ)
      → Moved c d (window_of book (checkin_of bytes) (checkout_of bytes) next).opening.0 (window_of book' (checkin_of bytes') (checkout_of bytes') next').opening.0
  unfolding window_of
  opening_moved next next' = rw belongs_same (go (belongs book (checkout_of bytes)) refl)
    where
      go : (t : Bool) → belongs book (checkout_of bytes) ≡ t
          → cond t (opening_of book') (checkin_of bytes') + c ≡ cond t (opening_of book) (checkin_of bytes) + d
      go true e = s.opening (λ none. false≢true (sym (unopened book (checkout_of bytes) none) ∙ e))
      go false e = s.checkin

  -- where the trip opens one, the edition in force is the same
  module _ (editions : Editions)
      (in-force : belongs book (checkout_of bytes) ≡ false → in_force editions (checkin_of bytes') ≡ in_force editions (checkin_of bytes)) where
    pub edition_same : (window_in editions book' bytes').edition ≡ (window_in editions book bytes).edition
    unfolding window_of
    edition_same = rw (belongs_same, edition_word) (go (belongs book (checkout_of bytes)) refl)
      where
        go :
            (t : Bool) → belongs book (checkout_of bytes) ≡ t
            → cond t (edition_of book) (in_force editions (checkin_of bytes')) ≡ cond t (edition_of book) (in_force editions (checkin_of bytes))
        go true e = refl
        go false e = in-force e

    -- so the table is the same
    pub rows_same : (file : List ℕ) (room : ℕ) → rows file editions book' bytes' room ≡ rows file editions book bytes room
    unfolding rows
    rows_same file room =
        let tariff = tariff_for file editions book bytes in
        let counts = counts_for editions book bytes in
        rw (
          edition_same,
          town_same tariff counts,
          rides_alike tariff counts,
          sound_same editions,
          trip_same bytes bytes' s.trip.frame s.trip.count s.trip.size,
          s.trip.class,
          s.trip.level,
          s.trip.party,
          s.trip.count,
          stops_same (count_at bytes 0) counts.stops,
          s.stamps,
          s.stamps',
          order_same,
          mistap_same (count_at bytes 0),
          early_same,
          trips_alike (in_force editions (checkin_of bytes)) (in_force editions (checkin_of bytes')),
        )

-- ---- The outcomes.

-- two windows alike but for the opening, which is d minutes later in the second
record MovedWindow (d : ℕ) (window window' : Window) : Type 0 where
  current : window'.current ≡ window.current
  trips : window'.trips ≡ window.trips
  edition : window'.edition ≡ window.edition
  opening : window'.opening.0 ≡ window.opening.0 + d

moved_more : {d : ℕ} {window window' : Window} → MovedWindow d window window' → MovedWindow d (one_more window) (one_more window')
unfolding one_more
moved_more w = record { current = refl; trips = ap (λ (n : ℕ). n + 1) w.trips; edition = w.edition; opening = w.opening }

-- the same rides, charged in two such windows on books that are the same but for their minutes, leave such books, in parts so moved
module _ {tariff : List ℕ} {counts : Counts} (t : FaultlessTariff tariff counts) {d : ℕ} (checkout checkout' : ℕ) where
  rides_moved :
      {first : List ℕ} {current : Bool} (rides : List Ride) → EachRide (Rideable tariff counts first current) rides → {book book' : List ℕ} → SameWords book book'
      → {window window' : Window} → MovedWindow d window window'
      → MovedParts d (parts_of tariff counts book window checkout rides) (parts_of tariff counts book' window' checkout' rides)
      × SameWords (posted_all tariff counts book window checkout rides) (posted_all tariff counts book' window' checkout' rides)
  unfolding parts_of posted_all part_of
  rides_moved [] oks same moved = (no_part, same)
  rides_moved (ride ∷ rides) (riding.more ok oks) {book} {book'} same {window} {window'} moved =
      let (parts, books) =
      rides_moved rides oks
      (posted_same t ride ok.area window window' checkout checkout' same moved.current moved.trips moved.edition)
      (moved_more moved)
      in
      let here : MovedPart d (part_of tariff counts book window ride) (part_of tariff counts book' window' ride) =
      record {
        ride = refl;
        charges =
            rw moved.current
            (charges_same t ride ok.area (in_window window.current book) (in_window window.current book') (window_same window.current same));
        cuts =
            rw moved.current
            (cuts_same t ride ok.area (in_window window.current book) (in_window window.current book') (window_same window.current same));
        opening = moved.opening;
      }
      in
      (one_part here parts, books)

-- two acceptances so moved
module _ {file : List ℕ} {room d : ℕ} {book bytes book' bytes' : List ℕ} (s : Shifted 0 d book bytes book' bytes') {new new' : List ℕ} {parts parts' : List Part}
    (a : AcceptedBy file book bytes room new parts) (a' : AcceptedBy file book' bytes' room new' parts')
    (in-force : belongs book (checkout_of bytes) ≡ false → in_force a.editions (checkin_of bytes') ≡ in_force a.editions (checkin_of bytes)) where
  editions_same : a'.editions ≡ a.editions
  editions_same = editions_one file a'.editions a'.read a.editions a.read

  abbrev tariff : List ℕ
  tariff = tariffBy a

  abbrev counts : Counts
  counts = countsBy a

  abbrev window : Window
  window = windowBy a

  abbrev window' : Window
  window' = window_in a.editions book' bytes'

  later_opening : window'.opening.0 ≡ window.opening.0 + d
  later_opening =
      sym (add-zero _) ∙ opening_moved s (in_force a.editions (checkin_of bytes)) (in_force a.editions (checkin_of bytes'))

  moved_window : MovedWindow d window window'
  moved_window =
      let next = in_force a.editions (checkin_of bytes) in
      let next' = in_force a.editions (checkin_of bytes') in
      record {
        current = current_same s next next';
        trips = trips_alike s next next';
        edition = edition_same s a.editions in-force;
        opening = later_opening;
      }

  both :
      MovedParts d (parts_of tariff counts book window (checkout_of bytes) (trip_rides tariff counts bytes))
      (parts_of tariff counts book' window' (checkout_of bytes') (trip_rides tariff counts bytes))
      × SameWords (posted_all tariff counts book window (checkout_of bytes) (trip_rides tariff counts bytes))
      (posted_all tariff counts book' window' (checkout_of bytes') (trip_rides tariff counts bytes))
  both =
      rides_moved (faultless tariff counts (read_by a)) (checkout_of bytes) (checkout_of bytes') (trip_rides tariff counts bytes) (charged-rides a) s.others
      moved_window

  -- the second's parts and book, by the first's editions and by the edition of its window
  parts_by : parts' ≡ parts_of tariff counts book' window' (checkout_of bytes') (trip_rides tariff counts bytes)
  parts_by =
      subst
      (λ (n : ℕ).
      parts'
      ≡ parts_of (tariff_in file a.editions n) (counts_in a.editions n) book' window' (checkout_of bytes')
      (trip_rides (tariff_in file a.editions n) (counts_in a.editions n) bytes'))
      (edition_same s a.editions in-force) (rw editions_same at a'.parts_is)
      ∙ ap (parts_of tariff counts book' window' (checkout_of bytes')) (rides_alike s tariff counts)

  new_by : new' ≡ posted_all tariff counts book' window' (checkout_of bytes') (trip_rides tariff counts bytes)
  new_by =
      subst
      (λ (n : ℕ).
      new'
      ≡ posted_all (tariff_in file a.editions n) (counts_in a.editions n) book' window' (checkout_of bytes')
      (trip_rides (tariff_in file a.editions n) (counts_in a.editions n) bytes'))
      (edition_same s a.editions in-force) (rw editions_same at a'.new_is)
      ∙ ap (posted_all tariff counts book' window' (checkout_of bytes')) (rides_alike s tariff counts)

  pub moved_parts : MovedParts d parts parts'
  moved_parts = rw (a.parts_is, parts_by) both.0

  pub moved_book : MovedBook d new new'
  moved_book =
      let l = book_head a in
      let l' = rw editions_same at (book_head a') in
      let some = some-parts a in
      let head = (right-window a').head in
      let used : trips_of new ≡ 0 → ⊥ = λ none. omega (arith, l.trips) in
      record {
        same = rw (a.new_is, new_by) both.1;
        opening = rw (ne_eqb (trips_of new) 0 used) (omega (arith, l.opening, l'.opening, later_opening));
        last = rw (ne_eqb (trips_of new) 0 used) (omega (arith, l.last_out, l'.last_out, s.checkout));
        in-calendar = omega (arith, l'.last_out, head.last);
      }
