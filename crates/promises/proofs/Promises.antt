-- Promise 3, about settling itself.
--
-- A run is any list of trips, each offered to `settled` or, with any bytes as a record, to `posting_of`, the definitions that the exported
-- functions' contracts cite, one after another from a fresh book under one faultless file of editions. A rider is the account holder (0), a
-- carried adult (1 to 10) or a carried child (11 to 20). The windows of a run are read off the check-ins and check-outs of its accepted trips
-- alone, and the edition in force at a window's opening settles all of it; a ride's area, class and price are those of the accepted trip's part,
-- and its charge is the one at the rider's place among the part's (specs/Runs.antt). A trip that was broken has two parts, and is two rides
-- here. Every beginning of a run is a run: so what is said here of every run holds after each of its trips.
-- Assumes nothing.
use Prim.Native.Nat.{ℕ, ◌≤◌, ◌<◌}
use native.Mathlib.Omega.{arith}
use mathlib.Core.Path.{◌≡◌, refl, sym, ap, subst, ◌∙◌}
use mathlib.Core.Bool.{Bool, true, false, cond}
use mathlib.Core.List.{List, [], ◌∷◌, ◌++◌, Memᴰ}
use borrow.Author.Tests.{le-leb}
use lib.ListN.{length}
use Rattle.caps.specs.Limits.{AtMost, Full}
use Rattle.caps.specs.Named.{name_in, NamedCap, cap_named, sum_named}
use Rattle.caps.specs.Tree.{Tree, IsTree}
use Rattle.caps.specs.Rides.{
  ChargedRide,
  ChargedInTurn,
  all_total,
  second_total,
  charges,
  CapFull,
  own_prices,
  one_class,
  totals_alone,
  Reordered,
  PromiseThree,
}
use Rattle.caps.proofs.Promise.{promise_three as of-charged}
use Rattle.caps.proofs.Window.{earlier, cut_names_full, state_total}
use Rattle.caps.proofs.OneClass.{order_free, reordered_same}
use Rattle.editions.specs.declared.Editions.{Editions}
use Rattle.editions.specs.Editions.{many_of, counts_in, tariff_in, in_force}
use Rattle.editions.specs.Reading.{ReadFile}
use Rattle.editions.proofs.Parts.{edition_read}
use Rattle.editions.proofs.InForceLaws.{in-force-most}
use Rattle.areas.specs.Areas.{area_at}
use Rattle.areas.proofs.Faultless.{faultless}
use Rattle.trip.specs.Moments.{checkin_of, checkout_of}
use Rattle.trip.specs.Trips.{trip_of}
use Rattle.ledger.specs.Words.{fresh_book, trips_of, opening_of, edition_of, edition_place, second_sum, all_sum}
use Rattle.ledger.specs.Windows.{belongs, window_of}
use Rattle.ledger.proofs.SoundLaws.{sound-alone, sound_covers, alone_has}
use Rattle.charging.specs.Caps.{second_cap, all_cap, tree_of}
use Rattle.charging.specs.Charging.{is_child}
use Rattle.charging.proofs.Trees.{is_tree}
use Rattle.statement.specs.Record.{Part}
use Rattle.deciding.specs.Refusals.{sound_in, window_in, tariff_for, counts_for}
use Rattle.settle.specs.Outcome.{accepted, trip_parts}
use Rattle.settle.specs.Steps.{Step, offer_of, step_outcome, steps_from}
use Rattle.promises.specs.Conditions.{AcceptedBy}
use Rattle.promises.specs.Runs.{
  book_of,
  rides_of,
  CutsFull,
  Span,
  RiderWindow,
  tariff_at,
  counts_at,
  tree_at,
  WithinDay,
  OpenFirst,
  none_open,
  one_open,
  trips_in,
  accepted_over,
  UnderOpening,
  windows_of,
}
use Rattle.promises.proofs.Refusing.{open_there}
use Rattle.promises.proofs.Books.{book_head}
use Rattle.promises.proofs.RunLaws.{RightWindow, KeptRun, kept, step_by, cuts_behind, trips_over}

module _ (file : List ℕ) (editions : Editions) (read : ReadFile file editions) (rider : ℕ) (known : rider < 21) where
  -- an edition's areas with the rider's caps: a child's for riders 11 to 20
  abbrev tree_in : ℕ → Tree
  tree_in edition = tree_of (tariff_in file editions edition) (counts_in editions edition) (is_child rider)

  pub tree_is : (edition : ℕ) → IsTree (tree_in edition)
  tree_is edition = is_tree (faultless (tariff_in file editions edition) (counts_in editions edition) (edition_read file editions read edition)) (is_child rider)

  run_kept : (run : List Step) → KeptRun file editions rider (book_of file run) (rides_of file editions rider run) (windows_of file editions rider run)
  run_kept run = kept file editions read rider known run

  -- ---- Each window.

  module _ (run : List Step) (window : RiderWindow) (there : Memᴰ window (windows_of file editions rider run)) where
    -- the rider's rides in the window, the latest first; and the tree of the edition in force at its opening
    abbrev rides : List ChargedRide
    rides = window.rides

    abbrev tree : Tree
    tree = tree_at file editions window.opening rider

    window_right : RightWindow tree window
    window_right = (run_kept run).each window there

    -- All of it in one; and each part by itself.
    pub promise_three : PromiseThree tree rides
    promise_three = of-charged (tree_is (in_force editions window.opening)) window_right.charged

    -- No charge exceeds its price.
    pub charges_at_most_prices : (e : ChargedRide) → Memᴰ e rides → e.charge ≤ e.price
    charges_at_most_prices = promise_three.at_most_prices

    -- No cap is ever passed: in every area, the rider's charges of all classes are at most the all-classes cap, and those of second class
    -- at most the second-class cap, a child's where the rider is one.
    pub caps_never_passed :
        (x : ℕ) → x < (counts_at editions window.opening).areas
        → AtMost (all_total tree x rides) (all_cap (area_at (tariff_at file editions window.opening) x) (is_child rider))
        × AtMost (second_total tree x rides)
        (second_cap (area_at (tariff_at file editions window.opening) x) (is_child rider))
    caps_never_passed = promise_three.caps_hold

    -- A charge below its price leaves one of that ride's caps exactly full. `es` are the rides before it, `later` those after it.
    pub cut_only_at_a_full_cap :
        (later : List ChargedRide) (e : ChargedRide) (es : List ChargedRide) → rides ≡ later ++ e ∷ es → e.charge < e.price → CapFull tree e (e ∷ es)
    cut_only_at_a_full_cap = promise_three.cut_at_full

    -- And the cap that is named for it is such a cap: the one that left the least over the rides before it, which had not passed it.
    pub named_cap_full :
        (later : List ChargedRide) (e : ChargedRide) (es : List ChargedRide) → rides ≡ later ++ e ∷ es → e.charge < e.price
        → let name = name_in tree (λ a. second_total tree a es) (λ a. all_total tree a es) e.class e.area e.price in
        NamedCap tree (λ a. second_total tree a es) (λ a. all_total tree a es) e.class e.area e.charge name
        × Full (sum_named (λ a. second_total tree a (e ∷ es)) (λ a. all_total tree a (e ∷ es)) name) (cap_named tree name)
    named_cap_full later e es is =
        cut_names_full (tree_is (in_force editions window.opening)) (earlier later (subst (ChargedInTurn tree) is window_right.charged))

    -- No ride with a price is free while none of its caps is full: who charges the first trip and zero for the rest breaks this.
    pub no_free_ride :
        (later : List ChargedRide) (e : ChargedRide) (es : List ChargedRide) → rides ≡ later ++ e ∷ es → e.charge ≡ 0 → 0 < e.price
        → (CapFull tree e (e ∷ es) → ⊥) → ⊥
    no_free_ride later e es is free price none-full = none-full (cut_only_at_a_full_cap later e es is (omega arith))

    -- Where all of a rider's rides in the window are of one class, the charges add up to what totals alone give: from the cities up, in each
    -- area the smaller of its cap and its own rides' prices with the results of the areas right below it.
    pub one_class_sum : (class : ℕ) → one_class class rides ≡ true → charges rides ≡ totals_alone tree class rides
    one_class_sum = promise_three.one_class_adds

    -- It is a window of 24 hours: each trip that counts in it has its check-in not before the opening, and its check-out at most 1,440
    -- minutes after it.
    pub trips_within_a_day : (trip : Span) → Memᴰ trip window.trips → WithinDay window.opening trip
    trips_within_a_day = window_right.inside

  -- ---- Each trip.

  -- What caps took off, as a trip's parts tell it, where the trip is settled or posted behind a run: each cut of the rider makes up the price with the
  -- charge. Where it is nothing, no cap is named; else the named cap is the one that left the least over the rider's rides before it in the
  -- window. These had not passed it, and with this ride it is exactly full: from a fresh book under one file no cut names a passed cap.
  pub cuts_name_full_caps :
      (run : List Step) (step : Step) {new : List ℕ} {parts : List Part} → step_outcome file (book_of file run) step ≡ accepted new parts
      → CutsFull (tariff_for file editions (book_of file run) (offer_of step).bytes) (counts_for editions (book_of file run) (offer_of step).bytes) rider parts
      (cond (belongs (book_of file run) (checkout_of (offer_of step).bytes)) (rides_of file editions rider run) [])
  cuts_name_full_caps = cuts_behind file editions read rider known

  -- ---- All windows.

  module _ (run : List Step) where
    -- Every accepted trip counts in one of them: their trips together are the trips that were accepted, the latest first.
    pub every_trip_counts : trips_in (windows_of file editions rider run) ≡ accepted_over (steps_from file fresh_book run) []
    unfolding trips_in
    every_trip_counts = trips_over file editions rider (steps_from file fresh_book run) []

    -- The first is the one that the book has open at the run's end.
    pub open_window : OpenFirst editions (book_of file run) (rides_of file editions rider run) (windows_of file editions rider run)
    open_window = (run_kept run).in_step

    -- The book's words for the rider are the totals of the charges in it, in every area of the edition that the book names.
    pub words_are_totals :
        (x : ℕ) → x < (counts_in editions (edition_of (book_of file run))).areas
        → (all_sum (book_of file run) rider x ≡ all_total (tree_in (edition_of (book_of file run))) x (rides_of file editions rider run))
        × (second_sum (book_of file run) rider x ≡ second_total (tree_in (edition_of (book_of file run))) x (rides_of file editions rider run))
    words_are_totals x h = ((run_kept run).in-book.sums false x h, (run_kept run).in-book.sums true x h)

    -- The rider's all-classes sum in area 0 is the total of every charge made to the rider in it.
    pub state_word : all_sum (book_of file run) rider 0 ≡ charges (rides_of file editions rider run)
    state_word =
        let is = tree_is (edition_of (book_of file run)) in
        (run_kept run).in-book.sums false 0 is.state ∙ state_total is (run_kept run).in-book.charged

  -- ---- The order of the rides.

  -- two windows under one edition, of two runs or of one, in which the rider's rides are of one class
  module _ (run run' : List Step) (window window' : RiderWindow) (there : Memᴰ window (windows_of file editions rider run))
      (there' : Memᴰ window' (windows_of file editions rider run'))
      (same : in_force editions window'.opening ≡ in_force editions window.opening) (class : ℕ) (one : one_class class window.rides ≡ true)
      (other : one_class class window'.rides ≡ true) where
    charged' : ChargedInTurn (tree_at file editions window.opening rider) window'.rides
    charged' = subst (λ (edition : ℕ). ChargedInTurn (tree_in edition) window'.rides) same (window_right run' window' there').charged

    -- So the order does not change the sum: where the prices in each area are the same in all, so are the charges.
    pub order_does_not_matter :
        ((x : ℕ) → x < (counts_at editions window.opening).areas → own_prices x window.rides ≡ own_prices x window'.rides)
        → charges window.rides ≡ charges window'.rides
    order_does_not_matter =
        order_free (tree_is (in_force editions window.opening)) class (window_right run window there).charged charged' one other

    -- And so it is where the rides of the one, each with its area and its price, are those of the other in another order.
    pub any_order : Reordered window.rides window'.rides → charges window.rides ≡ charges window'.rides
    any_order =
        reordered_same (tree_is (in_force editions window.opening)) class (window_right run window there).charged charged' one other

-- ---- The book.

module _ (file : List ℕ) (editions : Editions) (read : ReadFile file editions) (run : List Step) where
  abbrev book : List ℕ
  book = book_of file run

  the-run : KeptRun file editions 0 book (rides_of file editions 0 run) (windows_of file editions 0 run)
  the-run = kept file editions read 0 (omega arith) run

  -- Where it has a window open, it names the edition in force at the window's opening.
  pub book_names_edition : 1 ≤ trips_of book → edition_of book ≡ in_force editions (opening_of book)
  book_names_edition some = go (windows_of file editions 0 run) the-run.in_step
    where
      go : (windows : List RiderWindow) → OpenFirst editions book (rides_of file editions 0 run) windows → edition_of book ≡ in_force editions (opening_of book)
      go [] (none_open zero is) = absurd (omega arith)
      go (latest ∷ earlier) (one_open used opening edition is) = edition ∙ ap (in_force editions) (sym opening)

  edition_least : edition_of book ≤ many_of editions
  edition_least = go (windows_of file editions 0 run) the-run.in_step
    where
      go : (windows : List RiderWindow) → OpenFirst editions book (rides_of file editions 0 run) windows → edition_of book ≤ many_of editions
      go [] (none_open zero is) =
          let unused = (alone_has book (sound-alone book _ the-run.in-book.sound_book)).fresh zero edition_place (omega arith) in
          omega (arith, unused)
      go (latest ∷ earlier) (one_open used opening edition is) = omega (arith, edition, in-force-most editions latest.opening)

  -- It stays sound, whatever is settled or posted on it: by itself, by its edition, and by its bicycles under that edition.
  pub book_stays_sound : sound_in editions book ≡ true
  unfolding sound_in
  book_stays_sound =
      let is = the-run.in-book.sound_book in
      rw (sound-alone book _ is, le-leb (edition_of book) (many_of editions) edition_least, sound_covers book _ is)

  -- Each part of an accepted trip counts as a trip of its window: the book's first word is the number of the holder's rides in the window that
  -- is open, of which a trip that was broken has two.
  pub parts_count : trips_of book ≡ length (rides_of file editions 0 run)
  parts_count = the-run.in-book.each_counts refl

  -- A run's window never changes its edition, which is the one in force at its opening: a trip that is accepted behind the run, settled or posted,
  -- is charged by it, and leaves a book that names it.
  pub under_opening :
      (step : Step) {new : List ℕ} {parts : List Part} → step_outcome file book step ≡ accepted new parts
      → UnderOpening file editions book (offer_of step).bytes new parts
  unfolding window_of
  under_opening step {new} {parts} e = go (step_by read book step e)
    where
      by_window :
          (current : Bool) → belongs book (checkout_of (offer_of step).bytes) ≡ current
          → cond current (edition_of book) (in_force editions (checkin_of (offer_of step).bytes))
          ≡ in_force editions (cond current (opening_of book) (checkin_of (offer_of step).bytes))
      by_window true is = book_names_edition (let used = open_there book (checkout_of (offer_of step).bytes) is in omega (arith, used))
      by_window false is = refl

      go :
          (a : AcceptedBy file book (offer_of step).bytes (offer_of step).room new parts) × (a.editions ≡ editions)
          → UnderOpening file editions book (offer_of step).bytes new parts
      go (a, same) =
          let in-force : (window_in editions book (offer_of step).bytes).edition ≡ in_force editions (window_in editions book (offer_of step).bytes).opening.0 =
          by_window (belongs book (checkout_of (offer_of step).bytes)) refl
          in
          let head = book_head a in
          let opening : opening_of new ≡ (window_in editions book (offer_of step).bytes).opening.0 = head.opening in
          let edition : edition_of new ≡ (window_in editions book (offer_of step).bytes).edition = rw same at head.edition in
          record {
            in-force = in-force;
            parts_are =
                subst
                (λ (n : ℕ).
                parts
                ≡ trip_parts (tariff_in file editions n) (counts_in editions n) book (offer_of step).bytes (trip_of (offer_of step).bytes)
                (window_in editions book (offer_of step).bytes))
                in-force (rw same at a.parts_is);
            opening = opening;
            edition = edition ∙ in-force ∙ ap (in_force editions) (sym opening);
            stays = λ is. (opening ∙ rw is, edition ∙ rw is);
          }
