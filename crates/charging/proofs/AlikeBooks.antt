-- A ride is charged alike on alike books and leaves alike books, whatever "alike" means: as long as the words that the ride touches are the
-- same in both, and the same word written to both leaves them alike.
-- Assumes nothing.
use Prim.Native.Nat.{ℕ, zero, suc, ◌+◌, ◌<◌}
use native.Mathlib.Omega.{arith}
use mathlib.Core.Path.{◌≡◌}
use mathlib.Core.Bool.{Bool, true, false, cond}
use mathlib.Core.List.{List}
use lib.ListN.{get_or}
use lib.Dec.{eqb}
use Rattle.caps.proofs.Climb.{fold_related}
use Rattle.caps.proofs.Charge.{charge_same}
use Rattle.caps.proofs.Named.{name_class}
use Rattle.layout.specs.declared.Counts.{Counts}
use Rattle.layout.specs.Rules.{level_of}
use Rattle.areas.specs.Areas.{parent_of, FaultlessTariff}
use Rattle.areas.proofs.Within.{parent_there}
use Rattle.trip.specs.declared.Ride.{Ride}
use Rattle.ledger.specs.declared.Window.{Window}
use Rattle.ledger.specs.Words.{word, put_word, pair_place, second_sum, all_sum, first_child, cover_place, cover_word, paid_place, paid_word}
use Rattle.ledger.specs.Windows.{in_window, opened}
use Rattle.cycles.specs.Bicycles.{new_cover, paid_with, cover_bicycles}
use Rattle.charging.specs.Charging.{rider_charge, bicycle_of, each_person, charges_of}
use Rattle.charging.specs.Cuts.{rider_cut, cuts_of}
use Rattle.charging.specs.After.{add_here, add_up, add_list, with_charges, posted}
use Rattle.charging.proofs.Trees.{is_tree}
use Rattle.charging.proofs.InTurn.{turn_same}

-- alike books have the same known words, and stay alike with a word put in both
pub record Alike (R : List ℕ → List ℕ → Type 0) (Known : ℕ → Type 0) : Type 0 where
  pub same : (b b' : List ℕ) → R b b' → (p : ℕ) → Known p → word b' p ≡ word b p
  pub put : (b b' : List ℕ) → R b b' → (p v : ℕ) → R (put_word b p v) (put_word b' p v)

-- a rider's two words in every area are known
abbrev pub KnownRider : (ℕ → Type 0) → Counts → ℕ → Type 0
KnownRider Known counts rider = (a : ℕ) → a < counts.areas → Known (pair_place rider a) × Known (pair_place rider a + 1)

-- a bicycle's two words are known
abbrev pub KnownBicycle : (ℕ → Type 0) → ℕ → Type 0
KnownBicycle Known bicycle = Known (cover_place bicycle) × Known (paid_place bicycle)

-- the words that a ride touches are known: those of each rider and of each bicycle that it carries
pub record Touches (Known : ℕ → Type 0) (counts : Counts) (ride : Ride) : Type 0 where
  pub adults : (i : ℕ) → i < 1 + ride.party.adults → KnownRider Known counts (0 + i)
  pub children : (i : ℕ) → i < ride.party.children → KnownRider Known counts (first_child + i)
  pub bicycles : (i : ℕ) → i < ride.party.bicycles → KnownBicycle Known i

module _ {R : List ℕ → List ℕ → Type 0} {Known : ℕ → Type 0} (alike : Alike R Known) {tariff : List ℕ} {counts : Counts}
    (t : FaultlessTariff tariff counts) (ride : Ride) (there : ride.area < counts.areas) where
  -- ---- Charges.

  -- a rider's charge and cut go by the rider's words
  rider_alike :
      (w w' : List ℕ) → R w w' → (child : Bool) (rider : ℕ) → KnownRider Known counts rider
      → rider_charge tariff counts w' ride child rider ≡ rider_charge tariff counts w ride child rider
  unfolding rider_charge
  rider_alike w w' r child rider known =
      charge_same (is_tree t child) (second_sum w' rider) (all_sum w' rider) (second_sum w rider) (all_sum w rider)
      (λ x h. alike.same w w' r _ (known x h).0) (λ x h. alike.same w w' r _ (known x h).1) ride.class ride.area _ there

  cut_alike :
      (w w' : List ℕ) → R w w' → (child : Bool) (rider : ℕ) → KnownRider Known counts rider
      → rider_cut tariff counts w' ride child rider ≡ rider_cut tariff counts w ride child rider
  unfolding rider_cut
  cut_alike w w' r child rider known =
      rw (
        rider_alike w w' r child rider known,
        name_class (is_tree t child) (second_sum w' rider) (all_sum w' rider) (second_sum w rider) (all_sum w rider) ride.class
            (λ two x h. alike.same w w' r _ (known x h).0) (λ x h. alike.same w w' r _ (known x h).1) ride.area _ there,
      )

  -- so does what is of each person
  persons_alike :
      {A : Type 0} (of of' : Bool → ℕ → A) → ((child : Bool) (rider : ℕ) → KnownRider Known counts rider → of' child rider ≡ of child rider)
      → Touches Known counts ride → each_person ride.party of' ≡ each_person ride.party of
  unfolding each_person
  persons_alike of of' same touches =
      rw (
        turn_same (of' false) (of false) 0 0 (1 + ride.party.adults) (λ i h. same false (0 + i) (touches.adults i h)),
        turn_same (of' true) (of true) first_child first_child ride.party.children (λ i h. same true (first_child + i) (touches.children i h)),
      )

  -- A ride's charges go by the words that it touches.
  pub charges_alike : Touches Known counts ride → (w w' : List ℕ) → R w w' → charges_of tariff counts w' ride ≡ charges_of tariff counts w ride
  unfolding charges_of
  charges_alike touches w w' r =
      rw (
        persons_alike (rider_charge tariff counts w ride) (rider_charge tariff counts w' ride) (rider_alike w w' r) touches,
        turn_same (bicycle_of tariff counts w' ride) (bicycle_of tariff counts w ride) 0 0 ride.party.bicycles
            (λ i h.
            let own : KnownBicycle Known (0 + i) = touches.bicycles (0 + i) (omega arith) in
            rw (alike.same w w' r (cover_place (0 + i)) own.0, alike.same w w' r (paid_place (0 + i)) own.1)),
      )

  -- What was taken off, and by which cap, goes by the same words.
  pub cuts_alike : Touches Known counts ride → (w w' : List ℕ) → R w w' → cuts_of tariff counts w' ride ≡ cuts_of tariff counts w ride
  unfolding cuts_of
  cuts_alike touches w w' r = persons_alike (rider_cut tariff counts w ride) (rider_cut tariff counts w' ride) (cut_alike w w' r) touches

  -- ---- The book left behind.

  here_alike :
      (b b' : List ℕ) → R b b' → (rider class a amount : ℕ) → Known (pair_place rider a) × Known (pair_place rider a + 1)
      → R (add_here b rider class a amount) (add_here b' rider class a amount)
  unfolding add_here
  here_alike b b' r rider class a amount known = all _ _ (second (eqb class 2))
    where
      second :
          (two : Bool)
          → R (cond two (put_word b (pair_place rider a) (second_sum b rider a + amount)) b)
          (cond two (put_word b' (pair_place rider a) (second_sum b' rider a + amount)) b')
      second true = rw (alike.same b b' r (pair_place rider a) known.0) (alike.put b b' r (pair_place rider a) (second_sum b rider a + amount))
      second false = r

      all :
          (c c' : List ℕ) → R c c'
          → R (put_word c (pair_place rider a + 1) (all_sum c rider a + amount)) (put_word c' (pair_place rider a + 1) (all_sum c' rider a + amount))
      all c c' s = rw (alike.same c c' s (pair_place rider a + 1) known.1) (alike.put c c' s (pair_place rider a + 1) (all_sum c rider a + amount))

  list_alike :
      (first count : ℕ) (charges : List ℕ) (from : ℕ) (b b' : List ℕ) → R b b' → ((i : ℕ) → i < count → KnownRider Known counts (first + i))
      → R (add_list tariff counts ride.class ride.area first count charges from b) (add_list tariff counts ride.class ride.area first count charges from b')
  unfolding add_list add_up
  list_alike first zero charges from b b' r known = r
  list_alike first (suc count) charges from b b' r known =
      fold_related (parent_of tariff) counts.areas (parent_there t) _ _ R
      (λ a h x y s. here_alike x y s (first + count) ride.class a (get_or charges (from + count) 0) (known count (omega arith) a h))
      (level_of tariff ride.area) ride.area there _ _
      (list_alike first count charges from b b' r (λ i h. known i (omega arith)))

  -- one bicycle's new covering area and its payments
  abbrev bicycle_in : ℕ → List ℕ → List ℕ
  bicycle_in k c =
      let new = new_cover tariff counts ride.area (cover_word c k) in
      put_word (put_word c (cover_place k) (1 + new)) (paid_place k) (paid_with tariff counts new (paid_word c k))

  cover_alike :
      (count : ℕ) (b b' : List ℕ) → R b b' → ((i : ℕ) → i < count → KnownBicycle Known i)
      → R (cover_bicycles tariff counts ride.area count b) (cover_bicycles tariff counts ride.area count b')
  unfolding cover_bicycles
  cover_alike zero b b' r known = r
  cover_alike (suc count) b b' r known = behind _ _ (cover_alike count b b' r (λ i h. known i (omega arith)))
    where
      behind :
          (c c' : List ℕ) → R c c'
          → R (bicycle_in count c) (bicycle_in count c')
      behind c c' s =
          let own = known count (omega arith) in
          let new = new_cover tariff counts ride.area (cover_word c count) in
          rw (alike.same c c' s (cover_place count) own.0, alike.same c c' s (paid_place count) own.1)
          (alike.put _ _ (alike.put c c' s (cover_place count) (1 + new)) (paid_place count) (paid_with tariff counts new (paid_word c count)))

  -- The same charges on alike books give alike books.
  pub with_alike :
      Touches Known counts ride → (charges b b' : List ℕ) → R b b'
      → R (with_charges tariff counts ride charges b) (with_charges tariff counts ride charges b')
  with_alike touches charges b b' r =
      cover_alike ride.party.bicycles _ _
      (list_alike first_child ride.party.children charges _ _ _
      (list_alike 0 (1 + ride.party.adults) charges _ b b' r touches.adults) touches.children)
      touches.bicycles

  -- Posting on alike books gives alike books, where opening their windows leaves them alike.
  pub posted_alike :
      Touches Known counts ride → (window window' : Window) (checkout checkout' : ℕ) (book book' : List ℕ)
      → R (in_window window.current book) (in_window window'.current book')
      → R (opened window checkout (in_window window.current book)) (opened window' checkout' (in_window window'.current book'))
      → R (posted tariff counts book window checkout ride) (posted tariff counts book' window' checkout' ride)
  unfolding posted
  posted_alike touches window window' checkout checkout' book book' words opens =
      rw (charges_alike touches (in_window window.current book) (in_window window'.current book') words) (with_alike touches _ _ _ opens)
