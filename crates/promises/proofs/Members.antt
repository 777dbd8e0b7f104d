-- The promises for each member of an association, from adding to closing.
--
-- A member is added on any page that passes 18 for the association, lacks the member in its places and has a free one; then any calls of both
-- associations follow, for this member and for others, each under any file, but none by which the association closes this account. The
-- member's settlements are those of the trips that are settled for the member or posted in the member's place among these calls, each with the
-- book that stood there before it. They are a run from a fresh book, each step under its own file; and where that is one file of editions,
-- whatever the others' is, what is promised of runs is promised of them. That there is such a run, whatever else the page holds, is
-- `shared_from_adding_to_closing` (accounts/proofs/Sharing.antt).
-- Assumes nothing.
use Prim.Native.Nat.{ℕ, ◌≤◌, ◌<◌}
use mathlib.Core.Path.{◌≡◌, refl, sym, ap, subst, ◌∙◌}
use mathlib.Core.Logic.{◌↔◌}
use mathlib.Core.Bool.{true, cond}
use mathlib.Core.List.Memᴰ
use mathlib.Core.List.{List, [], ◌∷◌, ◌++◌, Memᴰ}
use Rattle.caps.specs.Limits.{Full}
use Rattle.caps.specs.Named.{name_in, NamedCap, cap_named, sum_named}
use Rattle.caps.specs.Rides.{ChargedRide, all_total, second_total, charges, one_class, Reordered, PromiseThree}
use Rattle.editions.specs.declared.Editions.{Editions}
use Rattle.editions.specs.Editions.{counts_in, tariff_in, in_force}
use Rattle.editions.specs.Reading.{ReadFile}
use Rattle.trip.specs.Moments.{checkout_of}
use Rattle.ledger.specs.Words.{fresh_book, trips_of, opening_of, edition_of, second_sum, all_sum, cover_word, paid_word}
use Rattle.ledger.specs.Windows.{belongs}
use Rattle.charging.specs.Caps.{tree_of}
use Rattle.charging.specs.Charging.{is_child}
use Rattle.cycles.specs.InWords.{WithinCap}
use Rattle.statement.specs.Record.{Part}
use Rattle.deciding.specs.Refusals.{sound_in, window_in, tariff_for, counts_for}
use Rattle.settle.specs.Outcome.{Outcome, refused, accepted, settled_under, book_after, Settled}
use Rattle.settle.specs.Runs.{Settlement}
use Rattle.settle.specs.Steps.{Step, offer_of, step_outcome, StepUnder, each_from, book_after_each, under, steps_from}
use Rattle.settle.proofs.Ways.{faultless_way}
use Rattle.page.specs.Pages.{book_at, Change}
use Rattle.accounts.specs.Members.{Changed}
use Rattle.accounts.specs.Calls.{steps_of}
use Rattle.accounts.specs.Associations.{Association}
use Rattle.accounts.specs.Sharing.{Asked, page_shared, calls_of, settlements_for}
use Rattle.accounts.proofs.Sharing.{OwnBookFor}
use Rattle.promises.specs.Conditions.{words_before, RefusedBy}
use Rattle.promises.specs.Runs.{
  book_of,
  rides_over,
  rides_of,
  CutsFull,
  PaysInTurn,
  Span,
  RiderWindow,
  tree_at,
  WithinDay,
  OpenFirst,
  windows_over,
  windows_of,
  trips_in,
  accepted_over,
  UnderOpening,
}
use Rattle.promises.specs.Moved.{MovedTrip, MovedBook, MovedOutcome, MovedStep, MovedRun, OpensAlike, OpenAlike}
use Rattle.promises.proofs.Answers.{refused-exactly}
use Rattle.promises.proofs.Promises.{
  promise_three,
  named_cap_full,
  cuts_name_full_caps,
  trips_within_a_day,
  every_trip_counts,
  open_window,
  words_are_totals,
  any_order,
  book_names_edition,
  book_stays_sound,
  under_opening,
}
use Rattle.promises.proofs.Bicycles.{payments_within_cap, bicycle_pays_per_trip}
use Rattle.promises.proofs.Midnight.{night_alike, night_outcomes}

-- ---- What comes back.

-- Two results that the exported contracts allow for the same input are equal: the answer and every byte of the page; of a trip settled, of the
-- statement too.
pub change_determined :
    {change : Change} {page p₁ p₂ : List ℕ} {r₁ r₂ : ℕ} → Changed change page p₁ r₁ → Changed change page p₂ r₂ → (r₁ ≡ r₂) × (p₁ ≡ p₂)
change_determined one other = (one.answer ∙ sym other.answer, one.page_is ∙ sym other.page_is)

pub member_determined :
    {outcome : Outcome} {page statement p₁ p₂ s₁ s₂ : List ℕ} {r₁ r₂ : ℕ} → Settled outcome page p₁ statement s₁ r₁
    → Settled outcome page p₂ statement s₂ r₂ → (r₁ ≡ r₂) × (p₁ ≡ p₂) × (s₁ ≡ s₂)
member_determined one other = (
  one.answer ∙ sym other.answer,
  one.book_is ∙ sym other.book_is,
  one.statement_is ∙ sym other.statement_is,
)

-- What is refused behind 19, on the book of the member's place (page/specs/InWords.antt: SettlingRefused), says what a refusal of settling says:
-- 4 to 12, by the first row of the table that holds.
pub on_its_book :
    (file : List ℕ) (editions : Editions) → ReadFile file editions → (book trip : List ℕ) (room n at : ℕ)
    → settled_under file editions book trip room ≡ refused n at ↔ RefusedBy file book trip room n at
on_its_book file editions read book trip room n at = (
  λ e. (refused-exactly file book trip room n at).0 (faultless_way file book trip room editions read ∙ e),
  λ w. sym (faultless_way file book trip room editions read) ∙ (refused-exactly file book trip room n at).1 w,
)

-- ---- From adding to closing.

-- a settlement of some steps: one of them, on the book before it, under the step's file
pub record CameTo (steps : List StepUnder) (s : Settlement) : Type 0 where
  pub asked : StepUnder
  pub there : Memᴰ asked steps
  pub offer : s.offer ≡ offer_of asked.step
  pub outcome : s.outcome ≡ step_outcome asked.file s.book asked.step

pub each_came_to : (steps : List StepUnder) (book : List ℕ) (s : Settlement) → Memᴰ s (each_from book steps) → CameTo steps s
unfolding each_from
each_came_to [] book s there = absurd (Memᴰ.not-nil there)
each_came_to (asked ∷ later) book s (Memᴰ.head is) =
    rw is (record { asked = asked; there = Memᴰ.head refl; offer = refl; outcome = refl })
each_came_to (asked ∷ later) book s (Memᴰ.tail there) =
    let c = each_came_to later (book_after (step_outcome asked.file book asked.step) book) s there in
    record { asked = c.asked; there = Memᴰ.tail c.there; offer = c.offer; outcome = c.outcome }

module _ (association : ℕ) (is : Association association) (page : List ℕ) (member : ℕ) (calls : List Asked)
    (own : OwnBookFor association is page member calls) where
  -- the member's steps among the association's calls, what they came to, and the member's book afterwards
  abbrev its_steps : List StepUnder
  its_steps = steps_of member own.place (calls_of association calls)

  abbrev its : List Settlement
  its = settlements_for association own.page_added member own.place calls

  abbrev its_book : List ℕ
  its_book = book_at (page_shared own.page_added calls) own.place

  -- Promise 2: each of them came to what settling or posting it on the book before it comes to; what `Answers` and `Quotes` say of these, they
  -- say of each.
  pub member_settled : (s : Settlement) → Memᴰ s its → CameTo its_steps s
  member_settled s there = each_came_to its_steps fresh_book s (subst (λ (l : List Settlement). Memᴰ s l) own.settlements there)

  -- The rest where the member's own trips are under one file.
  module _ (file : List ℕ) (run : List Step) (one : its_steps ≡ under file run) where
    pub its_run : its ≡ steps_from file fresh_book run
    its_run = own.settlements ∙ ap (each_from fresh_book) one

    pub its_book_is : its_book ≡ book_of file run
    its_book_is = own.book ∙ ap (book_after_each fresh_book) one

    module _ (editions : Editions) (read : ReadFile file editions) where
      -- The member's book is sound whenever it is looked at.
      pub member_book_sound : sound_in editions its_book ≡ true
      member_book_sound = ap (sound_in editions) its_book_is ∙ book_stays_sound file editions read run

      -- Where it has a window open, it names the edition in force at the window's opening;
      pub member_book_names_edition : 1 ≤ trips_of its_book → edition_of its_book ≡ in_force editions (opening_of its_book)
      member_book_names_edition some = rw its_book_is (book_names_edition file editions read run (rw its_book_is at some))

      -- and the next trip, settled or posted, is charged by the edition in force at its window's opening, which the book names afterwards, too.
      pub member_under_opening :
          (step : Step) {new : List ℕ} {parts : List Part} → step_outcome file its_book step ≡ accepted new parts
          → UnderOpening file editions its_book (offer_of step).bytes new parts
      member_under_opening step e = rw its_book_is (under_opening file editions read run step (rw its_book_is at e))

      -- Bicycles: after each trip the payments are within the cap of the covering area, where that is of kind 8;
      pub member_payments_within_cap :
          (k : ℕ) → k < 10
          → WithinCap (tariff_in file editions (edition_of its_book)) (counts_in editions (edition_of its_book)) (cover_word its_book k) (paid_word its_book k)
      member_payments_within_cap k few = rw its_book_is (payments_within_cap file editions read k few run)

      -- and the next trip, settled or posted, is paid part by part, from the words that count for it to those that it leaves.
      pub member_bicycle_pays :
          (k : ℕ) → k < 10 → (step : Step) {new : List ℕ} {parts : List Part} → step_outcome file its_book step ≡ accepted new parts
          → let words = words_before (window_in editions its_book (offer_of step).bytes) its_book in
          PaysInTurn (tariff_for file editions its_book (offer_of step).bytes) (counts_for editions its_book (offer_of step).bytes) k (cover_word words k)
          (paid_word words k) parts (cover_word new k) (paid_word new k)
      member_bicycle_pays k few step e = rw its_book_is (bicycle_pays_per_trip file editions read k few run step (rw its_book_is at e))

      module _ (rider : ℕ) (known : rider < 21) where
        -- the windows of the member's trips, with a rider's rides in each; and those in the open one
        abbrev its_windows : List RiderWindow
        its_windows = windows_over file editions rider its []

        abbrev its_rides : List ChargedRide
        its_rides = rides_over file editions rider its []

        windows_are : its_windows ≡ windows_of file editions rider run
        windows_are = ap (λ (l : List Settlement). windows_over file editions rider l []) its_run

        rides_are : its_rides ≡ rides_of file editions rider run
        rides_are = ap (λ (l : List Settlement). rides_over file editions rider l []) its_run

        of_run : {window : RiderWindow} → Memᴰ window its_windows → Memᴰ window (windows_of file editions rider run)
        of_run {window} there = subst (λ (l : List RiderWindow). Memᴰ window l) windows_are there

        -- Promise 3, in each window, by the tree of the edition in force at its opening: charges at most prices, no cap passed, a cut only at a full
        -- cap, and the sum of one class.
        pub member_promise_three :
            (window : RiderWindow) → Memᴰ window its_windows
            → PromiseThree (tree_at file editions window.opening rider) window.rides
        member_promise_three window there = promise_three file editions read rider known run window (of_run there)

        -- The cap that is named for a cut is exactly full,
        pub member_named_cap_full :
            (window : RiderWindow) → Memᴰ window its_windows → (later : List ChargedRide) (e : ChargedRide) (es : List ChargedRide)
            → window.rides ≡ later ++ e ∷ es → e.charge < e.price
            → let tree = tree_at file editions window.opening rider in
            let name = name_in tree (λ a. second_total tree a es) (λ a. all_total tree a es) e.class e.area e.price in
            NamedCap tree (λ a. second_total tree a es) (λ a. all_total tree a es) e.class e.area e.charge name
            × Full (sum_named (λ a. second_total tree a (e ∷ es)) (λ a. all_total tree a (e ∷ es)) name) (cap_named tree name)
        member_named_cap_full window there = named_cap_full file editions read rider known run window (of_run there)

        -- as the parts of the next trip, settled or posted, tell it.
        pub member_cuts_name_full_caps :
            (step : Step) {new : List ℕ} {parts : List Part} → step_outcome file its_book step ≡ accepted new parts
            → CutsFull (tariff_for file editions its_book (offer_of step).bytes) (counts_for editions its_book (offer_of step).bytes) rider parts
            (cond (belongs its_book (checkout_of (offer_of step).bytes)) its_rides [])
        member_cuts_name_full_caps step e =
            rw (its_book_is, rides_are) (cuts_name_full_caps file editions read rider known run step (rw its_book_is at e))

        -- Each window is one of 24 hours,
        pub member_trips_within_a_day :
            (window : RiderWindow) → Memᴰ window its_windows → (trip : Span) → Memᴰ trip window.trips → WithinDay window.opening trip
        member_trips_within_a_day window there = trips_within_a_day file editions read rider known run window (of_run there)

        -- every accepted trip counts in one,
        pub member_trips_count : trips_in its_windows ≡ accepted_over its []
        member_trips_count = rw its_run (every_trip_counts file editions read rider known run)

        -- the first is the one that the book has open,
        pub member_open_window : OpenFirst editions its_book its_rides its_windows
        member_open_window = rw (its_book_is, its_run) (open_window file editions read rider known run)

        -- and the book's words for the rider are the totals of the charges in it.
        pub member_words_are_totals :
            (x : ℕ) → x < (counts_in editions (edition_of its_book)).areas
            → let tree = tree_of (tariff_in file editions (edition_of its_book)) (counts_in editions (edition_of its_book)) (is_child rider) in
            (all_sum its_book rider x ≡ all_total tree x its_rides) × (second_sum its_book rider x ≡ second_total tree x its_rides)
        member_words_are_totals x h = rw (its_book_is, its_run) (words_are_totals file editions read rider known run x (rw its_book_is at h))

-- ---- Two members, of one page or of two, of one association or of two; or one member twice.

module _ (association association' : ℕ) (is : Association association) (is' : Association association') (page page' : List ℕ) (member member' : ℕ)
    (calls calls' : List Asked) (own : OwnBookFor association is page member calls) (own' : OwnBookFor association' is' page' member' calls')
    (file : List ℕ) (run run' : List Step) (one : its_steps association is page member calls own ≡ under file run)
    (other : its_steps association' is' page' member' calls' own' ≡ under file run') where
  abbrev book : List ℕ
  book = its_book association is page member calls own

  abbrev book' : List ℕ
  book' = its_book association' is' page' member' calls' own'

  -- The order of rides of one class does not change their sum, in windows under one edition.
  pub member_any_order :
      (editions : Editions) (read : ReadFile file editions) (rider : ℕ) (known : rider < 21) (window window' : RiderWindow)
      → Memᴰ window (its_windows association is page member calls own file run one editions read rider known)
      → Memᴰ window' (its_windows association' is' page' member' calls' own' file run' other editions read rider known)
      → in_force editions window'.opening ≡ in_force editions window.opening → (class : ℕ) → one_class class window.rides ≡ true
      → one_class class window'.rides ≡ true → Reordered window.rides window'.rides
      → charges window.rides ≡ charges window'.rides
  member_any_order editions read rider known window window' there there' =
      any_order file editions read rider known run run' window window'
      (of_run association is page member calls own file run one editions read rider known there)
      (of_run association' is' page' member' calls' own' file run' other editions read rider known there')

  -- A night moved on the calendar, whose windows open under the same editions, leaves books that differ in the opening and the last check-out
  -- alone,
  pub member_night_alike : {d : ℕ} → MovedRun d run run' → OpenAlike file d fresh_book run → MovedBook d book book'
  member_night_alike moved alike =
      rw (its_book_is association is page member calls own file run one, its_book_is association' is' page' member' calls' own' file run' other)
      (night_alike file moved alike)

  -- and each trip of it is refused or accepted as before, with the same charges.
  pub member_night_outcomes :
      {d : ℕ} {step step' : Step} → MovedStep d (MovedTrip d) step step' → MovedRun d run run' → OpenAlike file d fresh_book run
      → OpensAlike file d book (offer_of step).bytes → MovedOutcome d (step_outcome file book step) (step_outcome file book' step')
  member_night_outcomes step before alike opens =
      rw (its_book_is association is page member calls own file run one, its_book_is association' is' page' member' calls' own' file run' other)
      (night_outcomes file step before alike
      (rw (its_book_is association is page member calls own file run one) at opens))
