-- A run from a fresh book under one file, trip by trip: after each the book is kept with each rider's rides in its window (RideLaws: Kept),
-- which is the first of the run's windows, by the tariff of the edition that the book names; and that is the one in force at the window's
-- opening, since a trip that opens a window takes it and every other keeps it. In each window the rider's rides were charged what the caps had
-- left over those before them in it, and every trip lies within a day of the opening.
-- Assumes nothing.
use Prim.Native.Nat.{ℕ, ◌+◌, ◌≤◌, ◌<◌}
use native.Mathlib.Nat.{le_refl}
use native.Mathlib.Omega.{arith}
use native.Mathlib.Decide.{dec_lt}
use mathlib.Core.Path.{◌≡◌, refl, sym, ap, subst, ◌∙◌}
use mathlib.Core.Bool.{Bool, true, false, cond, not, ◌&&◌}
use mathlib.Core.List.Memᴰ
use mathlib.Core.List.{List, [], ◌∷◌, Memᴰ}
use borrow.Author.Tests.{leb-true, eq-eqb, ne_eqb}
use lib.Dec.{leb, eqb}
use Rattle.units.specs.Day.{day_minutes}
use Rattle.caps.specs.Tree.{Tree}
use Rattle.caps.specs.Rides.{ChargedRide, ChargedInTurn}
use Rattle.editions.specs.declared.Editions.{Editions}
use Rattle.editions.specs.Editions.{counts_in, tariff_in, in_force}
use Rattle.editions.specs.Reading.{ReadFile}
use Rattle.trip.specs.Moments.{checkin_of, checkout_of}
use Rattle.trip.proofs.Clear.{good_fields}
use Rattle.ledger.specs.Words.{fresh_book, trips_of, opening_of, last_out_of, edition_of}
use Rattle.ledger.specs.Windows.{belongs, window_of, in_window}
use Rattle.ledger.proofs.WordLaws.{word_fresh}
use Rattle.ledger.proofs.SoundLaws.{alone_has}
use Rattle.statement.specs.Record.{Part}
use Rattle.deciding.specs.declared.refusals.Refusal.TheVariants as why
use Rattle.deciding.specs.Refusals.{tariff_for, counts_for}
use Rattle.settle.specs.Outcome.{Outcome, refused, accepted, book_after}
use Rattle.settle.specs.Runs.{Settlement}
use Rattle.settle.specs.Steps.{Step, offer_of, step_outcome, each_from, book_after_each, under, steps_from, book_after_steps}
use Rattle.settle.proofs.Steps.{step_settles}
use Rattle.promises.specs.Conditions.{trip_rides, condition_with, AcceptedBy}
use Rattle.promises.specs.Runs.{
  book_of,
  rides_with,
  rides_after,
  rides_over,
  rides_of,
  Span,
  span_of,
  RiderWindow,
  opens_at,
  with_trip,
  windows_with,
  windows_after,
  windows_over,
  tariff_at,
  counts_at,
  tree_at,
  CutsFull,
  WithinDay,
  OpenFirst,
  none_open,
  one_open,
  trips_in,
  accepted_after,
  accepted_over,
  windows_of,
}
use Rattle.promises.proofs.Refusing.{editions_one}
use Rattle.promises.proofs.Answers.{
  accepted-is,
  windowBy,
  tariffBy,
  countsBy,
  clear,
  alone-by,
  charged-rides,
  some-rides,
  right-window,
}
use Rattle.promises.proofs.RideLaws.{Kept, kept_fresh, KeptSince, kept_rides, cuts_full}

-- ---- An accepted trip.

-- a book kept by the tariff of the edition that it names
abbrev KeptIn : List ℕ → Editions → ℕ → List ℕ → List ChargedRide → Type 0
KeptIn file editions rider book rides = Kept (tariff_in file editions (edition_of book)) (counts_in editions (edition_of book)) rider book rides

-- the words that count for a trip are kept by the tariff of its window's edition: in the open window that is the book's, and another has no rides
kept_words :
    (file : List ℕ) (editions : Editions) {rider : ℕ} {book : List ℕ} {rides : List ChargedRide} (next : ℕ) (current : Bool)
    → KeptIn file editions rider book rides
    → Kept (tariff_in file editions (cond current (edition_of book) next)) (counts_in editions (cond current (edition_of book) next)) rider
    (in_window current book) (cond current rides [])
kept_words file editions next true k = k
kept_words file editions {rider} next false k = kept_fresh (tariff_in file editions next) (counts_in editions next) rider

module _ {file book bytes : List ℕ} {room : ℕ} {new : List ℕ} {parts : List Part} (a : AcceptedBy file book bytes room new parts) {rider : ℕ}
    {rides : List ChargedRide} (known : rider < 21) (k : KeptIn file a.editions rider book rides) where
  words : Kept (tariffBy a) (countsBy a) rider (in_window (windowBy a).current book) (cond (belongs book (checkout_of bytes)) rides [])
  unfolding window_of
  words = kept_words file a.editions (in_force a.editions (checkin_of bytes)) (belongs book (checkout_of bytes)) k

  -- The new book is kept with the rider's rides after the trip.
  kept_trip :
      KeptSince (tariffBy a) (countsBy a) rider new
      (rides_with (tariffBy a) (countsBy a) rider parts (cond (belongs book (checkout_of bytes)) rides [])) (windowBy a).opening.0 (windowBy a).edition
  kept_trip =
      rw (a.new_is, a.parts_is)
      (kept_rides (trip_rides (tariffBy a) (countsBy a) bytes) known (charged-rides a) (some-rides a) words (right-window a) (clear a).few)

  -- And the caps that the rider's cuts name are exactly full.
  cuts_trip : CutsFull (tariffBy a) (countsBy a) rider parts (cond (belongs book (checkout_of bytes)) rides [])
  cuts_trip =
      rw a.parts_is (cuts_full (trip_rides (tariffBy a) (countsBy a) bytes) known (charged-rides a) words (right-window a) (clear a).few)

-- ---- A book and the windows so far.

-- what holds of the first and of each other holds of each
each_more :
    {A : Type 0} (P : A → Type 0) {first : A} {others : List A} → P first → ((x : A) → Memᴰ x others → P x)
    → (x : A) → Memᴰ x (first ∷ others) → P x
each_more P this rest x (Memᴰ.head same) = subst P (sym same) this
each_more P this rest x (Memᴰ.tail there) = rest x there

-- the rides of a window were charged in turn, and its trips lie within its day
pub record RightWindow (t : Tree) (window : RiderWindow) : Type 0 where
  pub charged : ChargedInTurn t window.rides
  pub inside : (trip : Span) → Memᴰ trip window.trips → WithinDay window.opening trip

-- the book is kept with these rides, which are those of the first window, and each window is right by the tree of its own edition
pub record KeptRun (file : List ℕ) (editions : Editions) (rider : ℕ) (book : List ℕ) (rides : List ChargedRide) (windows : List RiderWindow) : Type 0 where
  pub in-book : KeptIn file editions rider book rides
  pub in_step : OpenFirst editions book rides windows
  pub each : (window : RiderWindow) → Memᴰ window windows → RightWindow (tree_at file editions window.opening rider) window

pub fresh_run : (file : List ℕ) (editions : Editions) (rider : ℕ) → KeptRun file editions rider fresh_book [] []
fresh_run file editions rider =
    record {
      in-book = kept_fresh (tariff_in file editions (edition_of fresh_book)) (counts_in editions (edition_of fresh_book)) rider;
      in_step = none_open (word_fresh 0) refl;
      each = λ window there. absurd (Memᴰ.not-nil there);
    }

-- ---- One accepted trip.

-- the edition of its window: the book's where it belongs to the open window (`current`), else the one in force at its check-in
abbrev pub edition_by : Editions → List ℕ → List ℕ → Bool → ℕ
edition_by editions book bytes current = cond current (edition_of book) (in_force editions (checkin_of bytes))

-- the rider's rides after it
abbrev rides_by : List ℕ → Editions → ℕ → List ℕ → List ℕ → List Part → List ChargedRide → Bool → List ChargedRide
rides_by file editions rider book bytes parts rides current =
    let edition = edition_by editions book bytes current in
    rides_with (tariff_in file editions edition) (counts_in editions edition) rider parts (cond current rides [])

-- what it leaves, where it belongs to the open window or opens the next
record Taken (file : List ℕ) (editions : Editions) (rider : ℕ) (book bytes new : List ℕ) (parts : List Part) (rides : List ChargedRide) (current : Bool) : Type 0 where
  after :
      KeptSince (tariff_in file editions (edition_by editions book bytes current)) (counts_in editions (edition_by editions book bytes current)) rider new
      (rides_by file editions rider book bytes parts rides current) (cond current (opening_of book) (checkin_of bytes)) (edition_by editions book bytes current)
  forward : checkin_of bytes ≤ checkout_of bytes
  short : checkout_of bytes ≤ checkin_of bytes + day_minutes
  on_time : 1 ≤ trips_of book → opening_of book ≤ checkin_of bytes

module _ {file : List ℕ} {editions : Editions} {rider : ℕ} {book bytes new : List ℕ} {parts : List Part} {rides : List ChargedRide} where
  -- the new book names the window's edition
  kept_new :
      {current : Bool} → Taken file editions rider book bytes new parts rides current
      → KeptIn file editions rider new (rides_by file editions rider book bytes parts rides current)
  kept_new {current} t =
      subst
      (λ (edition : ℕ).
      Kept (tariff_in file editions edition) (counts_in editions edition) rider new (rides_by file editions rider book bytes parts rides current))
      (sym t.after.edition_is) t.after.kept

  -- it opens the next window, and the others stay
  opens :
      {windows : List RiderWindow} → KeptRun file editions rider book rides windows
      → Taken file editions rider book bytes new parts rides false
      → KeptRun file editions rider new (rides_by file editions rider book bytes parts rides false)
      (with_trip file editions rider bytes parts (opens_at (checkin_of bytes)) ∷ windows)
  opens s t =
      let day : WithinDay (checkin_of bytes) (span_of bytes) = record { since = le_refl (checkin_of bytes); forward = t.forward; till = t.short } in
      record {
        in-book = kept_new t;
        in_step = one_open t.after.in_use t.after.since t.after.edition_is refl;
        each =
            each_more (λ (window : RiderWindow). RightWindow (tree_at file editions window.opening rider) window)
            (record {
              charged = t.after.kept.charged;
              inside = each_more (WithinDay (checkin_of bytes)) day (λ trip there. absurd (Memᴰ.not-nil there));
            })
            s.each;
      }

  -- it belongs to the open window
  joins :
      {latest : RiderWindow} {earlier : List RiderWindow} → KeptRun file editions rider book rides (latest ∷ earlier)
      → Taken file editions rider book bytes new parts rides true → 1 ≤ trips_of book → opening_of book ≡ latest.opening
      → edition_of book ≡ in_force editions latest.opening → rides ≡ latest.rides → checkout_of bytes ≤ latest.opening + day_minutes
      → KeptRun file editions rider new (rides_by file editions rider book bytes parts rides true) (with_trip file editions rider bytes parts latest ∷ earlier)
  joins {latest} s t some opening edition rides_are till =
      let day : WithinDay latest.opening (span_of bytes) = record { since = omega (arith, t.on_time some); forward = t.forward; till = till } in
      let same :
      rides_by file editions rider book bytes parts rides true
      ≡ rides_with (tariff_at file editions latest.opening) (counts_at editions latest.opening) rider parts latest.rides =
      rw (edition, rides_are)
      in
      record {
        in-book = kept_new t;
        in_step = one_open t.after.in_use (t.after.since ∙ opening) (t.after.edition_is ∙ edition) same;
        each =
            each_more (λ (window : RiderWindow). RightWindow (tree_at file editions window.opening rider) window)
            (record {
              charged = rw (edition, rides_are) at t.after.kept.charged;
              inside = each_more (WithinDay latest.opening) day (s.each latest (Memᴰ.head refl)).inside;
            })
            (λ window there. s.each window (Memᴰ.tail there));
      }

  -- So the windows with the trip are right, and the first is the one that the new book has open.
  after_trip :
      {windows : List RiderWindow} → KeptRun file editions rider book rides windows
      → Taken file editions rider book bytes new parts rides (belongs book (checkout_of bytes))
      → KeptRun file editions rider new (rides_by file editions rider book bytes parts rides (belongs book (checkout_of bytes)))
      (windows_with file editions rider bytes parts windows)
  unfolding windows_with belongs
  after_trip {windows} s t = go windows s s.in_step
    where
      go :
          (windows : List RiderWindow) → KeptRun file editions rider book rides windows → OpenFirst editions book rides windows
          → KeptRun file editions rider new (rides_by file editions rider book bytes parts rides (belongs book (checkout_of bytes)))
          (windows_with file editions rider bytes parts windows)
      go [] s (none_open zero is) =
          let e : not (eqb (trips_of book) 0) && leb (checkout_of bytes) (opening_of book + day_minutes) ≡ false = rw (eq-eqb (trips_of book) 0 zero) in
          rw e (opens s (rw e at t))
      go (latest ∷ earlier) s (one_open some opening edition is) =
          let e : not (eqb (trips_of book) 0) && leb (checkout_of bytes) (opening_of book + day_minutes) ≡ leb (checkout_of bytes) (latest.opening + day_minutes) =
          rw (ne_eqb (trips_of book) 0 (λ zero. omega arith), opening)
          in
          rw e (by (leb (checkout_of bytes) (latest.opening + day_minutes)) refl (rw e at t))
        where
          by :
              (current : Bool) → leb (checkout_of bytes) (latest.opening + day_minutes) ≡ current
              → Taken file editions rider book bytes new parts rides current
              → KeptRun file editions rider new (rides_by file editions rider book bytes parts rides current)
              (cond current (with_trip file editions rider bytes parts latest ∷ earlier)
              (with_trip file editions rider bytes parts (opens_at (checkin_of bytes)) ∷ latest ∷ earlier))
          by true e t = joins s t some opening edition is (leb-true (checkout_of bytes) (latest.opening + day_minutes) e)
          by false e t = opens s t

-- ---- The run.

-- where a window is open, an accepted trip's check-in is not before its opening
not_before :
    {file book bytes : List ℕ} {room : ℕ} {new : List ℕ} {parts : List Part} → AcceptedBy file book bytes room new parts
    → 1 ≤ trips_of book → opening_of book ≤ checkin_of bytes
unfolding condition_with
not_before {file} {book} {bytes} a some =
    let head = (alone_has book (alone-by a)).opened some in
    elim (dec_lt (checkin_of bytes) (last_out_of book)) [
      | yes early ↦ absurd (a.none why.TooEarly (record { in_use = λ zero. omega arith; early = early }))
      | no late ↦ omega (arith, head.order)
    ]

trip_taken :
    {file book bytes : List ℕ} {room : ℕ} {new : List ℕ} {parts : List Part} (a : AcceptedBy file book bytes room new parts) {rider : ℕ}
    {rides : List ChargedRide} → rider < 21 → KeptIn file a.editions rider book rides
    → Taken file a.editions rider book bytes new parts rides (belongs book (checkout_of bytes))
unfolding window_of
trip_taken a known k =
    let fields = good_fields (clear a).good in
    record { after = kept_trip a known k; forward = fields.forward; short = fields.short; on_time = not_before a }

-- an accepted step is an accepted trip, under the file's editions
pub step_by :
    {file : List ℕ} {editions : Editions} → ReadFile file editions → (book : List ℕ) (step : Step) {new : List ℕ} {parts : List Part}
    → step_outcome file book step ≡ accepted new parts
    → (a : AcceptedBy file book (offer_of step).bytes (offer_of step).room new parts) × (a.editions ≡ editions)
step_by {file} {editions} read book step e =
    let a = accepted-is file book (offer_of step).bytes (offer_of step).room (step_settles file book step e) in
    (a, editions_one file a.editions a.read editions read)

-- After every outcome.
pub after_outcome :
    {file : List ℕ} {editions : Editions} {rider : ℕ} {book : List ℕ} {rides : List ChargedRide} {windows : List RiderWindow} → ReadFile file editions
    → rider < 21 → KeptRun file editions rider book rides windows → (step : Step) (outcome : Outcome) → step_outcome file book step ≡ outcome
    → KeptRun file editions rider (book_after outcome book) (rides_after file editions rider book (offer_of step).bytes outcome rides)
    (windows_after file editions rider (offer_of step).bytes outcome windows)
unfolding rides_after windows_after window_of
after_outcome read known s step (refused number place) e = s
after_outcome {file} {editions} {rider} {book} {rides} {windows} read known s step (accepted after parts) e =
    let (a, same) = step_by read book step e in
    let s' : KeptRun file a.editions rider book rides windows = rw (← same) at s in
    rw (← same) (after_trip s' (trip_taken a known s'.in-book))

-- Whatever is settled or posted, one trip after another.
kept_from :
    {file : List ℕ} {editions : Editions} → ReadFile file editions → {rider : ℕ} → rider < 21 → (run : List Step) {book : List ℕ} {rides : List ChargedRide}
    {windows : List RiderWindow} → KeptRun file editions rider book rides windows
    → KeptRun file editions rider (book_after_steps file book run) (rides_over file editions rider (steps_from file book run) rides)
    (windows_over file editions rider (steps_from file book run) windows)
unfolding book_after_each each_from under rides_over windows_over
kept_from read known [] s = s
kept_from {file} read known (step ∷ run) {book} s =
    kept_from read known run (after_outcome read known s step (step_outcome file book step) refl)

-- From a fresh book.
pub kept :
    (file : List ℕ) (editions : Editions) → ReadFile file editions → (rider : ℕ) → rider < 21 → (run : List Step)
    → KeptRun file editions rider (book_of file run) (rides_of file editions rider run) (windows_of file editions rider run)
kept file editions read rider known run = kept_from read known run (fresh_run file editions rider)

-- A trip that is accepted behind a run: the cuts of each of its parts.
pub cuts_behind :
    (file : List ℕ) (editions : Editions) → ReadFile file editions → (rider : ℕ) → rider < 21 → (run : List Step) (step : Step)
    {new : List ℕ} {parts : List Part} → step_outcome file (book_of file run) step ≡ accepted new parts
    → CutsFull (tariff_for file editions (book_of file run) (offer_of step).bytes) (counts_for editions (book_of file run) (offer_of step).bytes) rider parts
    (cond (belongs (book_of file run) (checkout_of (offer_of step).bytes)) (rides_of file editions rider run) [])
cuts_behind file editions read rider known run step e =
    let (a, same) = step_by read (book_of file run) step e in
    let k = (kept file editions read rider known run).in-book in
    rw (← same) (cuts_trip a known (rw (← same) at k))

-- ---- Every accepted trip counts in one of the windows.

trips_with :
    (file : List ℕ) (editions : Editions) (rider : ℕ) (bytes : List ℕ) (parts : List Part) (windows : List RiderWindow)
    → trips_in (windows_with file editions rider bytes parts windows) ≡ span_of bytes ∷ trips_in windows
unfolding trips_in windows_with
trips_with file editions rider bytes parts [] = refl
trips_with file editions rider bytes parts (latest ∷ earlier) = go (leb (checkout_of bytes) (latest.opening + day_minutes))
  where
    go :
        (current : Bool)
        → trips_in
        (cond current (with_trip file editions rider bytes parts latest ∷ earlier)
        (with_trip file editions rider bytes parts (opens_at (checkin_of bytes)) ∷ latest ∷ earlier))
        ≡ span_of bytes ∷ trips_in (latest ∷ earlier)
    go true = refl
    go false = refl

trips_after :
    (file : List ℕ) (editions : Editions) (rider : ℕ) (bytes : List ℕ) (outcome : Outcome) (windows : List RiderWindow)
    → trips_in (windows_after file editions rider bytes outcome windows) ≡ accepted_after bytes outcome (trips_in windows)
unfolding windows_after accepted_after
trips_after file editions rider bytes (refused number place) windows = refl
trips_after file editions rider bytes (accepted new parts) windows = trips_with file editions rider bytes parts windows

-- The trips of all windows together are those that were accepted, in their order.
pub trips_over :
    (file : List ℕ) (editions : Editions) (rider : ℕ) (settlements : List Settlement) (windows : List RiderWindow)
    → trips_in (windows_over file editions rider settlements windows) ≡ accepted_over settlements (trips_in windows)
unfolding windows_over accepted_over
trips_over file editions rider [] windows = refl
trips_over file editions rider (s ∷ more) windows =
    trips_over file editions rider more (windows_after file editions rider s.offer.bytes s.outcome windows)
    ∙ ap (accepted_over more) (trips_after file editions rider s.offer.bytes s.outcome windows)
