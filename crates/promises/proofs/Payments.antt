-- A bicycle's payments are what it was charged: after every run of trips settled and posted, its payments word is the total of its charges under
-- areas of kind 8 in the open window; and in each window of the run that total is within the cap of the area that covered it at last, by the
-- edition in force at the window's opening.
-- Assumes nothing.
use Prim.Native.Nat.{ℕ, ◌+◌, ◌≤◌, ◌<◌}
use native.Mathlib.Omega.{arith}
use native.Mathlib.Decide.{dec_lt}
use mathlib.Core.Path.{◌≡◌, refl, sym, ap, subst, ◌∙◌}
use mathlib.Core.Bool.{Bool, true, false, cond, not, ◌&&◌, false≢true}
use mathlib.Core.List.Memᴰ
use mathlib.Core.List.{List, [], ◌∷◌, Memᴰ}
use lib.ListN.{length}
use lib.Dec.{leb, ltb, eqb}
use borrow.Author.Tests.{lt-ltb, le-ltb, eq-eqb, ne_eqb}
use Rattle.units.specs.Day.{day_minutes}
use Rattle.layout.specs.declared.Counts.{Counts}
use Rattle.areas.specs.Areas.{is_aachen}
use Rattle.editions.specs.declared.Editions.{Editions}
use Rattle.editions.specs.Editions.{counts_in, tariff_in, in_force}
use Rattle.editions.specs.Reading.{ReadFile}
use Rattle.areas.proofs.Faultless.{faultless}
use Rattle.trip.specs.Moments.{checkin_of, checkout_of}
use Rattle.trip.specs.declared.Ride.{Ride}
use Rattle.fare.specs.Clauses.{EachRide}
use Rattle.fare.specs.Clauses as each
use Rattle.ledger.specs.declared.Window.{Window}
use Rattle.ledger.specs.Words.{fresh_book, trips_of, opening_of, edition_of, cover_place, cover_word, paid_place, paid_word}
use Rattle.ledger.specs.Windows.{belongs, window_of, in_window}
use Rattle.charging.specs.Clauses.{Rideable}
use Rattle.cycles.specs.Bicycles.{new_cover}
use Rattle.cycles.specs.InWords.{WithinCap}
use Rattle.charging.specs.After.{posted}
use Rattle.ledger.proofs.WordLaws.{word_fresh}
use Rattle.charging.proofs.ChargeLaws.{ride_words}
use Rattle.cycles.proofs.InWords.{cover_says, cover_one}
use Rattle.posting.proofs.Paying.{within_fresh}
use Rattle.ledger.specs.Clauses.{WindowRight}
use Rattle.posting.proofs.SoundAgain.{posted_sound}
use Rattle.statement.specs.Record.{Part}
use Rattle.settle.specs.Outcome.{Outcome, refused, accepted, part_of, one_more, parts_of, posted_all, book_after}
use Rattle.settle.specs.Steps.{Step, offer_of, step_outcome, each_from, book_after_each, under, steps_from, book_after_steps}
use Rattle.promises.specs.Conditions.{trip_rides, AcceptedBy}
use Rattle.promises.specs.Runs.{book_of, tariff_at, counts_at}
use Rattle.promises.specs.Books.{BicycleTakes}
use Rattle.promises.specs.Payments.{
  Cycled,
  unused,
  cycled_on,
  cycled_with,
  BicycleWindow,
  cycled_in,
  cycles_with,
  cycles_after,
  cycles_over,
  cycles_of,
  total_of,
  WordsAre,
}
use Rattle.posting.proofs.NextPart.{next_right}
use Rattle.promises.proofs.RideLaws.{on_another}
use Rattle.promises.proofs.Answers.{windowBy, tariffBy, countsBy, clear, charged-rides, some-rides, some-parts, right-window}
use Rattle.promises.proofs.Books.{ride_says, book_head}
use Rattle.promises.proofs.RunLaws.{edition_by, step_by}
use Rattle.promises.proofs.Bicycles.{WithinIn, within_outcome}

-- a fresh book is that of an unused bicycle
fresh_words : (k : ℕ) → WordsAre k fresh_book unused
unfolding total_of
fresh_words k = record { cover = word_fresh (cover_place k); payments = word_fresh (paid_place k) }

-- ---- One ride.

module _ {tariff : List ℕ} {counts : Counts} {checkout k : ℕ} (few : k < 10) where
  one_cycled :
      {book : List ℕ} {ride : Ride} {window : Window} → Rideable tariff counts book window.current ride → WindowRight book window checkout → (c : Cycled)
      → WordsAre k (in_window window.current book) c
      → WordsAre k (posted tariff counts book window checkout ride)
      (cond (ltb k ride.party.bicycles) (cycled_on tariff counts k (part_of tariff counts book window ride) c) c)
  unfolding part_of total_of
  one_cycled {book} {ride} {window} ok right c are =
      let w = in_window window.current book in
      let t = faultless tariff counts ok.read in
      let says = ride_says ok right in
      elim (dec_lt k ride.party.bicycles) [
        | yes on ↦
            let known = (ride_words ok).covers k few in
            let takes = says.covered k on in
            let same = cover_one t takes.covers (cover_says t ride.area (cover_word w k) ok.area known) in
            let new : takes.new ≡ new_cover tariff counts ride.area c.cover = same ∙ ap (new_cover tariff counts ride.area) are.cover in
            let (cover, paid) = by_kind takes (is_aachen tariff takes.new) refl in
            rw (lt-ltb k ride.party.bicycles on, ← new) (record { cover = cover; payments = paid })
        | no off ↦
            let past : ride.party.bicycles ≤ k = omega arith in
            let (cover, paid) = says.uncovered k past few in
            rw (le-ltb k ride.party.bicycles past)
            (record { cover = cover ∙ are.cover; payments = paid ∙ are.payments })
      ]
    where
      by_kind :
          {charge cover' paid' : ℕ}
          (takes : BicycleTakes tariff counts ride.area charge (cover_word (in_window window.current book) k) (paid_word (in_window window.current book) k) cover' paid')
          (aachen : Bool) → is_aachen tariff takes.new ≡ aachen
          → (cover' ≡ 1 + takes.new) × (paid' ≡ total_of (cond aachen (charge ∷ c.charged) c.charged))
      by_kind takes true e = (takes.cover_is, takes.payments.grows e ∙ omega (arith, are.payments))
      by_kind takes false e = (takes.cover_is, takes.payments.stays (λ is. false≢true (sym e ∙ is)) ∙ are.payments)

  -- the rides of a trip
  rides_cycled :
      (ride : Ride) (rides : List Ride) {book : List ℕ} {window : Window} → EachRide (Rideable tariff counts book window.current) (ride ∷ rides)
      → WindowRight book window checkout → window.trips + (1 + length rides) ≤ 256 → (c : Cycled) → WordsAre k (in_window window.current book) c
      → WordsAre k (posted_all tariff counts book window checkout (ride ∷ rides))
      (cycled_with tariff counts k (parts_of tariff counts book window checkout (ride ∷ rides)) c)
  unfolding parts_of posted_all one_more cycled_with part_of
  rides_cycled ride [] {book} {window} (each.more ok oks) right room c are = one_cycled ok right c are
  rides_cycled ride (next ∷ rides) {book} {window} (each.more ok oks) right room c are =
      rides_cycled next rides (on_another (posted tariff counts book window checkout ride) (posted_sound ok right) oks)
      (next_right ok right (omega arith)) (omega arith) _ (one_cycled ok right c are)

-- ---- An accepted trip.

-- what it leaves, where it belongs to the open window or opens the next
record TripCycled (file : List ℕ) (editions : Editions) (k : ℕ) (book bytes new : List ℕ) (parts : List Part) (current : Bool) : Type 0 where
  in_use : 1 ≤ trips_of new
  since : opening_of new ≡ cond current (opening_of book) (checkin_of bytes)
  edition : edition_of new ≡ edition_by editions book bytes current
  words :
      (c : Cycled) → WordsAre k (in_window current book) c
      → WordsAre k new
      (cycled_with (tariff_in file editions (edition_by editions book bytes current)) (counts_in editions (edition_by editions book bytes current)) k parts c)

module _ {file book bytes : List ℕ} {room : ℕ} {new : List ℕ} {parts : List Part} (a : AcceptedBy file book bytes room new parts) {k : ℕ}
    (few : k < 10) where
  abbrev tariff : List ℕ
  tariff = tariffBy a

  abbrev counts : Counts
  counts = countsBy a

  abbrev window : Window
  window = windowBy a

  trip_words : (c : Cycled) → WordsAre k (in_window window.current book) c → WordsAre k new (cycled_with tariff counts k parts c)
  trip_words c are = rw (a.new_is, a.parts_is) (go (trip_rides tariff counts bytes) (charged-rides a) (some-rides a) (clear a).few)
    where
      go :
          (rides : List Ride) → EachRide (Rideable tariff counts book window.current) rides → 1 ≤ length rides → window.trips + length rides ≤ 256
          → WordsAre k (posted_all tariff counts book window (checkout_of bytes) rides)
          (cycled_with tariff counts k (parts_of tariff counts book window (checkout_of bytes) rides) c)
      go [] oks some fits = absurd (omega arith)
      go (ride ∷ rides) oks some fits = rides_cycled few ride rides oks (right-window a) (omega arith) c are

  trip-cycled : TripCycled file a.editions k book bytes new parts (belongs book (checkout_of bytes))
  unfolding window_of
  trip-cycled =
      let head = book_head a in
      record { in_use = omega (arith, head.trips, some-parts a); since = head.opening; edition = head.edition; words = trip_words }

-- ---- The windows so far.

-- the first is the one that the book has open, under the edition in force at its opening, and the book's words are its
data OpenCycle (editions : Editions) (k : ℕ) (book : List ℕ) : List BicycleWindow → Type 0 where
  none_open : trips_of book ≡ 0 → OpenCycle editions k book []
  one_open :
      {latest : BicycleWindow} {earlier : List BicycleWindow} → 1 ≤ trips_of book → opening_of book ≡ latest.opening
      → edition_of book ≡ in_force editions latest.opening → WordsAre k book latest.cycled → OpenCycle editions k book (latest ∷ earlier)

-- a window's total is within the cap, by the edition in force at its opening
abbrev WithinAt : List ℕ → Editions → BicycleWindow → Type 0
WithinAt file editions window =
    WithinCap (tariff_at file editions window.opening) (counts_at editions window.opening) window.cycled.cover (total_of window.cycled.charged)

record Cycles (file : List ℕ) (editions : Editions) (k : ℕ) (book : List ℕ) (windows : List BicycleWindow) : Type 0 where
  within : WithinIn file editions k book
  opened : OpenCycle editions k book windows
  each_within : (window : BicycleWindow) → Memᴰ window windows → WithinAt file editions window

module _ {file : List ℕ} {editions : Editions} {k : ℕ} where
  -- a window whose words the new book has, before windows within their caps
  cycles-with :
      {new : List ℕ} {window : BicycleWindow} {others : List BicycleWindow} → 1 ≤ trips_of new → opening_of new ≡ window.opening
      → edition_of new ≡ in_force editions window.opening → WordsAre k new window.cycled → WithinIn file editions k new
      → ((other : BicycleWindow) → Memᴰ other others → WithinAt file editions other) → Cycles file editions k new (window ∷ others)
  cycles-with {new} {window} {others} in_use since edition are within rest =
      record { within = within; opened = one_open in_use since edition are; each_within = λ other there. of_each other there }
    where
      own : WithinAt file editions window
      own = rw (← edition, ← are.cover, ← are.payments) within

      of_each : (other : BicycleWindow) → Memᴰ other (window ∷ others) → WithinAt file editions other
      of_each other (Memᴰ.head is) = subst (WithinAt file editions) (sym is) own
      of_each other (Memᴰ.tail there) = rest other there

  -- with an accepted trip
  after_trip :
      {book bytes new : List ℕ} {parts : List Part} (windows : List BicycleWindow) → Cycles file editions k book windows → WithinIn file editions k new
      → TripCycled file editions k book bytes new parts (belongs book (checkout_of bytes))
      → Cycles file editions k new (cycles_with file editions k bytes parts windows)
  unfolding cycles_with belongs
  after_trip {book} {bytes} {new} {parts} windows s within t = go windows s s.opened
    where
      opens : {others : List BicycleWindow} → TripCycled file editions k book bytes new parts false
          → ((other : BicycleWindow) → Memᴰ other others → WithinAt file editions other)
          → Cycles file editions k new (cycled_in file editions k parts (record { opening = checkin_of bytes; cycled = unused }) ∷ others)
      opens t rest = cycles-with t.in_use t.since t.edition (t.words unused (fresh_words k)) within rest

      go :
          (windows : List BicycleWindow) → Cycles file editions k book windows → OpenCycle editions k book windows
          → Cycles file editions k new (cycles_with file editions k bytes parts windows)
      go [] s (none_open zero) =
          let e : not (eqb (trips_of book) 0) && leb (checkout_of bytes) (opening_of book + day_minutes) ≡ false = rw (eq-eqb (trips_of book) 0 zero) in
          opens (rw e at t) (λ other there. absurd (Memᴰ.not-nil there))
      go (latest ∷ earlier) s (one_open some opening edition are) =
          let e : not (eqb (trips_of book) 0) && leb (checkout_of bytes) (opening_of book + day_minutes) ≡ leb (checkout_of bytes) (latest.opening + day_minutes) =
          rw (ne_eqb (trips_of book) 0 (λ zero. omega arith), opening)
          in
          by (leb (checkout_of bytes) (latest.opening + day_minutes)) (rw e at t)
        where
          by :
              (current : Bool) → TripCycled file editions k book bytes new parts current
              → Cycles file editions k new
              (cond current (cycled_in file editions k parts latest ∷ earlier)
              (cycled_in file editions k parts (record { opening = checkin_of bytes; cycled = unused }) ∷ latest ∷ earlier))
          by true t' =
              cycles-with t'.in_use (t'.since ∙ opening) (t'.edition ∙ edition) (rw edition at (t'.words latest.cycled are)) within
              (λ other there. s.each_within other (Memᴰ.tail there))
          by false t' = opens t' s.each_within

-- ---- The run.

module _ (file : List ℕ) (editions : Editions) (read : ReadFile file editions) (k : ℕ) (few : k < 10) where
  after_outcome :
      (book : List ℕ) (windows : List BicycleWindow) → Cycles file editions k book windows → (step : Step) (outcome : Outcome)
      → step_outcome file book step ≡ outcome
      → Cycles file editions k (book_after outcome book) (cycles_after file editions k (offer_of step).bytes outcome windows)
  unfolding cycles_after
  after_outcome book windows s step (refused number place) e = s
  after_outcome book windows s step (accepted new parts) e =
      let (a, same) = step_by read book step e in
      let taken = rw same at (trip-cycled a few) in
      after_trip windows s (within_outcome file editions read k few book step (accepted new parts) e s.within) taken

  cycles_from :
      (run : List Step) (book : List ℕ) (windows : List BicycleWindow) → Cycles file editions k book windows
      → Cycles file editions k (book_after_steps file book run) (cycles_over file editions k (steps_from file book run) windows)
  unfolding book_after_each each_from under cycles_over
  cycles_from [] book windows s = s
  cycles_from (step ∷ run) book windows s =
      cycles_from run (book_after (step_outcome file book step) book) _ (after_outcome book windows s step (step_outcome file book step) refl)

  cycles : (run : List Step) → Cycles file editions k (book_of file run) (cycles_of file editions k run)
  cycles run =
      cycles_from run fresh_book []
      (record {
        within = within_fresh (tariff_in file editions (edition_of fresh_book)) (counts_in editions (edition_of fresh_book)) k;
        opened = none_open (word_fresh 0);
        each_within = λ window there. absurd (Memᴰ.not-nil there);
      })

  -- The book's words for the bicycle are those of the open window: its covering area, and as payments the total of what it was charged there.
  pub payments_are_charges :
      (run : List Step) {latest : BicycleWindow} {earlier : List BicycleWindow} → cycles_of file editions k run ≡ latest ∷ earlier
      → WordsAre k (book_of file run) latest.cycled
  payments_are_charges run {latest} {earlier} is = met (subst (OpenCycle editions k (book_of file run)) is (cycles run).opened)
    where
      met : OpenCycle editions k (book_of file run) (latest ∷ earlier) → WordsAre k (book_of file run) latest.cycled
      met (one_open some opening edition are) = are

  -- In each window of a run what it was charged under areas of kind 8 is within the cap, by the edition in force at the window's opening.
  pub charges_within_cap :
      (run : List Step) (window : BicycleWindow) → Memᴰ window (cycles_of file editions k run)
      → WithinCap (tariff_at file editions window.opening) (counts_at editions window.opening) window.cycled.cover
      (total_of window.cycled.charged)
  charges_within_cap run = (cycles run).each_within
