-- Rides charged one after another in a window: the book stays sound, each rider's sums in it are the totals of the rider's rides in its
-- window, and each of these rides was charged what the caps had left over the totals of the rides before it. So none of these caps was
-- passed, and the one that a cut names is exactly full.
-- Assumes nothing.
use Prim.Native.Nat.{ℕ, ◌+◌, ◌≤◌, ◌<◌}
use native.Mathlib.Nat.{add-zero}
use native.Mathlib.Omega.{arith}
use mathlib.Core.Path.{◌≡◌, refl, sym, ap, subst, ◌∙◌}
use mathlib.Core.Bool.{Bool, true, false, cond, ◌&&◌, false≢true}
use mathlib.Core.List.{List, [], ◌∷◌}
use borrow.Author.Tests.{le-leb}
use lib.ListN.{length}
use lib.Dec.{eqb}
use Rattle.units.specs.declared.Cap.{Cap}
use Rattle.units.specs.declared.Cap.TheVariants.{NoCap, UpTo}
use Rattle.caps.specs.declared.Name.{Name}
use Rattle.caps.specs.Limits.{AtMost, Full}
use Rattle.caps.specs.Named.{name_in, NamedCap, cap_named, sum_named, Passed}
use Rattle.caps.specs.Tree.{Tree, within}
use Rattle.caps.specs.Rides.{ChargedRide, ChargedInTurn, none, more, all_total, second_total}
use Rattle.caps.proofs.Charge.{charge_same}
use Rattle.caps.proofs.Climb.{within_there}
use Rattle.caps.proofs.Named.{name_class}
use Rattle.caps.proofs.Window.{no_cap_passed, cut_names_full}
use Rattle.layout.specs.declared.Counts.{Counts}
use Rattle.areas.proofs.Faultless.{faultless}
use Rattle.trip.specs.declared.Party.{Party}
use Rattle.trip.specs.declared.Ride.{Ride}
use Rattle.fare.specs.Clauses.{EachRide}
use Rattle.fare.specs.Clauses as each
use Rattle.ledger.specs.declared.Window.{Window}
use Rattle.ledger.specs.Words.{fresh_book, trips_of, opening_of, edition_of, second_sum, all_sum, pair_place}
use Rattle.ledger.specs.Sound.{sound}
use Rattle.ledger.specs.Windows.{in_window}
use Rattle.charging.specs.Caps.{tree_of}
use Rattle.charging.specs.Charging.{is_child, carries, price_for, rider_charge, charges_of}
use Rattle.charging.specs.Cuts.{rider_cut}
use Rattle.charging.specs.InWords.{CutSays}
use Rattle.charging.specs.After.{posted}
use Rattle.charging.specs.Clauses.{Rideable}
use Rattle.charging.proofs.Trees.{is_tree}
use Rattle.ledger.proofs.WordLaws.{word_fresh}
use Rattle.ledger.proofs.SoundLaws.{fresh_sound, sound-alone, sound_covers}
use Rattle.charging.proofs.SumLaws.{sum_of, counted}
use Rattle.charging.proofs.PostedLaws.{added, own_charge, posted_sum, posted_opening, posted_edition}
use Rattle.ledger.specs.Clauses.{WindowRight}
use Rattle.ledger.proofs.WindowLaws.{window_room}
use Rattle.posting.proofs.NextPart.{next_trips, next_right}
use Rattle.posting.proofs.SoundAgain.{posted_sound}
use Rattle.charging.proofs.ChargeLaws.{rider_stands, rider_cut_stands}
use Rattle.charging.proofs.CutLaws.{cut_says}
use Rattle.statement.specs.Record.{Part, uncut}
use Rattle.settle.specs.Outcome.{part_of, one_more, parts_of, posted_all}
use Rattle.promises.specs.Conditions.{name_of_cut}
use Rattle.promises.specs.Runs.{entry_of, rides_with, cut_of, total_named, CutFull, CutsFull, no_more, part_more}

-- ---- A book and a rider's rides.

-- the one or the other total of a rider's rides within an area
abbrev pub total_of : Bool → Tree → ℕ → List ChargedRide → ℕ
total_of true t x es = second_total t x es
total_of false t x es = all_total t x es

-- one ride more adds its charge where its class counts and its area lies within
total_more :
    (which : Bool) (t : Tree) (x : ℕ) (e : ChargedRide) (es : List ChargedRide)
    → total_of which t x (e ∷ es) ≡ total_of which t x es + cond (counted which e.class && within t e.area x) e.charge 0
unfolding second_total all_total
total_more true t x e es = refl
total_more false t x e es = refl

total_none : (which : Bool) (t : Tree) (x : ℕ) → total_of which t x [] ≡ 0
unfolding second_total all_total
total_none true t x = refl
total_none false t x = refl

fresh_sum : (which : Bool) (rider x : ℕ) → sum_of which fresh_book rider x ≡ 0
fresh_sum true rider x = word_fresh (pair_place rider x)
fresh_sum false rider x = word_fresh (pair_place rider x + 1)

-- the book is sound, the rider's sums in it are the totals of these rides, each was charged what the caps had left, and the holder's are as
-- many as the book has trips
pub record Kept (tariff : List ℕ) (counts : Counts) (rider : ℕ) (book : List ℕ) (rides : List ChargedRide) : Type 0 where
  pub sound_book : sound book counts.areas ≡ true
  pub sums :
      (which : Bool) (x : ℕ) → x < counts.areas → sum_of which book rider x ≡ total_of which (tree_of tariff counts (is_child rider)) x rides
  pub charged : ChargedInTurn (tree_of tariff counts (is_child rider)) rides
  pub each_counts : rider ≡ 0 → trips_of book ≡ length rides

-- a fresh book has no rides
pub kept_fresh : (tariff : List ℕ) (counts : Counts) (rider : ℕ) → Kept tariff counts rider fresh_book []
kept_fresh tariff counts rider =
    record {
      sound_book = fresh_sound counts.areas;
      sums = λ which x h. fresh_sum which rider x ∙ sym (total_none which (tree_of tariff counts (is_child rider)) x);
      charged = none;
      each_counts = λ holder. word_fresh 0;
    }

-- their trips are those of the open window, or none
window_trips : (current : Bool) (book : List ℕ) → trips_of (in_window current book) ≡ cond current (trips_of book) 0
window_trips true book = refl
window_trips false book = word_fresh 0

-- where neither of an area's caps is passed, the named one is not
passed_none : (cap : Cap) (sum : ℕ) → AtMost sum cap → Passed sum cap → ⊥
passed_none NoCap sum fits passed = passed
passed_none (UpTo most) sum fits passed = omega (arith, fits, passed)

neither_passed :
    (two : Bool) (second all : ℕ) (second-cap all-cap : Cap) → AtMost all all-cap × AtMost second second-cap
    → Passed (cond two second all) (cond two second-cap all-cap) → ⊥
neither_passed true second all second-cap all-cap fits passed = passed_none second-cap second fits.1 passed
neither_passed false second all second-cap all-cap fits passed = passed_none all-cap all fits.0 passed

-- the holder is on every trip
holder_on : (party : Party) → carries party 0 ≡ true
holder_on party = le-leb 0 party.adults (omega arith)

-- ---- One ride.

module _ {tariff : List ℕ} {counts : Counts} {book : List ℕ} {ride : Ride} {window : Window} (ok : Rideable tariff counts book window.current ride)
    {checkout : ℕ} (right : WindowRight book window checkout) where
  abbrev new : List ℕ
  new = posted tariff counts book window checkout ride

  -- the book has the window's opening and its edition
  head_opening : opening_of new ≡ window.opening.0
  head_opening = posted_opening window ok checkout (window_room right) (omega (arith, right.head.order, right.head.last))

  head_edition : edition_of new ≡ window.edition
  head_edition = posted_edition window ok checkout (window_room right) (omega (arith, right.small))

  -- the words that count
  abbrev w : List ℕ
  w = in_window window.current book

  -- and the rides in their window
  module _ {rider : ℕ} (known : rider < 21) {before : List ChargedRide} (words : Kept tariff counts rider w before) where
    abbrev part : Part
    part = part_of tariff counts book window ride

    -- the charges of the party, and each sum with what the rider's own adds to it
    abbrev charges : List ℕ
    charges = charges_of tariff counts w ride

    grown :
        (which : Bool) (x : ℕ) → x < counts.areas
        → sum_of which new rider x
        ≡ total_of which (tree_of tariff counts (is_child rider)) x before + added which tariff counts ride x (own_charge ride charges rider)
    grown which x h =
        posted_sum window ok checkout (window_room right) which rider x known (omega (arith, (faultless tariff counts ok.read).few_areas))
        ∙ ap (◌+ added which tariff counts ride x (own_charge ride charges rider)) (words.sums which x h)

    -- a rider who is not carried keeps the rides
    without : carries ride.party rider ≡ false → Kept tariff counts rider new before
    without off =
        record {
          sound_book = posted_sound ok right;
          sums = λ which x h.
              grown which x h ∙ rw off (nothing (counted which ride.class && within (tree_of tariff counts false) ride.area x) _);
          charged = words.charged;
          each_counts = λ holder. absurd (false≢true (sym off ∙ rw holder (holder_on ride.party)));
        }
      where
        nothing : (s : Bool) (n : ℕ) → n + cond s 0 0 ≡ n
        nothing true n = add-zero n
        nothing false n = add-zero n

    -- a rider who is carried has one more
    carried : carries ride.party rider ≡ true → Kept tariff counts rider new (entry_of tariff counts rider part ∷ before)
    unfolding entry_of rider_charge part_of
    carried on =
        record {
          sound_book = posted_sound ok right;
          sums = λ which x h. grown which x h ∙ rw on (sym (total_more which (tree_of tariff counts (is_child rider)) x _ before));
          charged =
              more words.charged ok.area
              (rider_stands tariff counts w ride rider on
              ∙ charge_same (is_tree (faultless tariff counts ok.read) (is_child rider)) _ _ _ _ (words.sums true) (words.sums false) ride.class
              ride.area _ ok.area);
          each_counts = λ holder.
              omega (arith, next_trips ok right, right.trips, words.each_counts holder, window_trips window.current book);
        }

    -- the cut of a rider who is carried names the cap that left the least over the rider's rides before it
    abbrev tree : Tree
    tree = tree_of tariff counts (is_child rider)

    abbrev name : Name
    name =
        name_in tree (λ x. second_total tree x before) (λ x. all_total tree x before) ride.class ride.area (price_for tariff counts ride (is_child rider))

    cut_is : carries ride.party rider ≡ true → cut_of rider part ≡ rider_cut tariff counts w ride (is_child rider) rider
    unfolding cut_of part_of
    cut_is on = rider_cut_stands tariff counts w ride uncut rider on

    cut_name : carries ride.party rider ≡ true → name_of_cut (cut_of rider part) ≡ name
    unfolding rider_cut
    cut_name on =
        ap name_of_cut (cut_is on)
        ∙ name_class (is_tree (faultless tariff counts ok.read) (is_child rider)) (second_sum w rider) (all_sum w rider)
        (λ x. second_total tree x before) (λ x. all_total tree x before) ride.class (λ two. words.sums true) (words.sums false) ride.area
        (price_for tariff counts ride (is_child rider)) ok.area

    cut_said :
        carries ride.party rider ≡ true
        → CutSays tariff counts w ride rider (entry_of tariff counts rider part).charge (cut_of rider part)
    unfolding entry_of part_of
    cut_said on =
        subst (λ (c : ℕ). CutSays tariff counts w ride rider c (cut_of rider part)) (sym (rider_stands tariff counts w ride rider on))
        (subst (CutSays tariff counts w ride rider _) (sym (cut_is on)) (cut_says (faultless tariff counts ok.read) w ride ok.area rider))

    cut_fills :
        carries ride.party rider ≡ true → 0 < (cut_of rider part).reduction.0
        → NamedCap tree (λ x. second_total tree x before) (λ x. all_total tree x before) ride.class ride.area
        (entry_of tariff counts rider part).charge (name_of_cut (cut_of rider part))
        × Full (total_named tree (entry_of tariff counts rider part ∷ before) (cut_of rider part)) (cap_named tree (name_of_cut (cut_of rider part)))
    unfolding entry_of part_of
    cut_fills on some =
        let e = entry_of tariff counts rider part in
        let below : e.charge < e.price = omega (arith, (cut_said on).makes_up, some) in
        subst
        (λ (n : Name).
        NamedCap tree (λ x. second_total tree x before) (λ x. all_total tree x before) ride.class ride.area e.charge n
        × Full (sum_named (λ x. second_total tree x (e ∷ before)) (λ x. all_total tree x (e ∷ before)) n) (cap_named tree n))
        (sym (cut_name on)) (cut_names_full (is_tree (faultless tariff counts ok.read) (is_child rider)) (carried on).charged below)

    cut_full :
        carries ride.party rider ≡ true → CutFull tree (entry_of tariff counts rider part) before (cut_of rider part)
    unfolding entry_of part_of
    cut_full on =
        let cut = cut_of rider part in
        let is = is_tree (faultless tariff counts ok.read) (is_child rider) in
        let says = cut_said on in
        record {
          makes_up = says.makes_up;
          none = says.none;
          named = λ some. (cut_fills on some).0;
          not_passed = λ some.
              neither_passed (eqb cut.class 2) _ _ _ _
              (no_cap_passed is words.charged cut.area
              (within_there is ride.area ok.area cut.area (cut_fills on some).0.one_of_them.inside));
          full = λ some. (cut_fills on some).1;
        }

    -- So the book after the ride is kept with the rider's rides.
    kept_ride : Kept tariff counts rider new (rides_with tariff counts rider (part ∷ []) before)
    unfolding rides_with part_of
    kept_ride = go (carries ride.party rider) refl
      where
        go : (on : Bool) → carries ride.party rider ≡ on → Kept tariff counts rider new (cond on (entry_of tariff counts rider part ∷ before) before)
        go true e = carried e
        go false e = without e

-- ---- Rides, one after another.

-- rides that can be charged on a book can on every other sound book
pub on_another :
    {tariff : List ℕ} {counts : Counts} {book : List ℕ} {current : Bool} {rides : List Ride} (book' : List ℕ) → sound book' counts.areas ≡ true
    → EachRide (Rideable tariff counts book current) rides → EachRide (Rideable tariff counts book' true) rides
on_another book' right each.none = each.none
on_another {counts = counts} book' right (each.more ok oks) =
    each.more
    (record {
      read = ok.read;
      alone = sound-alone book' counts.areas right;
      covers = λ _. sound_covers book' counts.areas right;
      area = ok.area;
      km = ok.km;
      minutes = ok.minutes;
      adults = ok.adults;
      children = ok.children;
      bicycles = ok.bicycles;
    })
    (on_another book' right oks)

-- a book after rides of a window: kept with the rider's rides, and in use since the window's opening under its edition
pub record KeptSince (tariff : List ℕ) (counts : Counts) (rider : ℕ) (book : List ℕ) (rides : List ChargedRide) (opening edition : ℕ) : Type 0 where
  pub kept : Kept tariff counts rider book rides
  pub in_use : 1 ≤ trips_of book
  pub since : opening_of book ≡ opening
  pub edition_is : edition_of book ≡ edition

-- The book after one ride or more is kept with the rider's rides in their parts, behind those that the window had before.
pub kept_rides :
    {tariff : List ℕ} {counts : Counts} {rider : ℕ} (trip : List Ride) {book : List ℕ} {before : List ChargedRide} {window : Window} {checkout : ℕ}
    → rider < 21 → EachRide (Rideable tariff counts book window.current) trip → 1 ≤ length trip
    → Kept tariff counts rider (in_window window.current book) before → WindowRight book window checkout → window.trips + length trip ≤ 256
    → KeptSince tariff counts rider (posted_all tariff counts book window checkout trip)
    (rides_with tariff counts rider (parts_of tariff counts book window checkout trip) before) window.opening.0 window.edition
unfolding posted_all parts_of rides_with one_more
kept_rides [] known oks some k right few = absurd (omega arith)
kept_rides (ride ∷ []) known (each.more ok none_left) some k right few =
    record {
      kept = kept_ride ok right known k;
      in_use = omega (arith, next_trips ok right);
      since = head_opening ok right;
      edition_is = head_edition ok right;
    }
kept_rides (ride ∷ next ∷ later) known (each.more ok oks) some k right few =
    kept_rides (next ∷ later) known (on_another _ (posted_sound ok right) oks) (omega arith) (kept_ride ok right known k)
    (next_right ok right (omega arith)) (omega arith)

-- And each of them that was cut names a cap that is exactly full with it.
pub cuts_full :
    {tariff : List ℕ} {counts : Counts} {rider : ℕ} (trip : List Ride) {book : List ℕ} {before : List ChargedRide} {window : Window} {checkout : ℕ}
    → rider < 21 → EachRide (Rideable tariff counts book window.current) trip → Kept tariff counts rider (in_window window.current book) before
    → WindowRight book window checkout → window.trips + length trip ≤ 256
    → CutsFull tariff counts rider (parts_of tariff counts book window checkout trip) before
unfolding parts_of part_of rides_with one_more
cuts_full [] known oks k right few = no_more
cuts_full (ride ∷ []) known (each.more ok none_left) k right few = part_more (cut_full ok right known k) no_more
cuts_full (ride ∷ next ∷ later) known (each.more ok oks) k right few =
    part_more (cut_full ok right known k)
    (cuts_full (next ∷ later) known (on_another _ (posted_sound ok right) oks) (kept_ride ok right known k) (next_right ok right (omega arith)) (omega arith))
