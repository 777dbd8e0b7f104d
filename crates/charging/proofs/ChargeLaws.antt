-- That a chain of three areas gives a charge, what it is at most, and where each of a party stands among the charges.
-- Assumes nothing.
use Prim.Native.Nat.{ℕ, ◌+◌, ◌-◌, ◌≤◌, ◌<◌}
use native.Mathlib.Nat.{le_trans, zero-add}
use native.Mathlib.Omega.{arith}
use mathlib.Core.Path.{◌≡◌, refl, ap, ◌∙◌}
use mathlib.Core.Bool.{Bool, true, false, cond}
use mathlib.Core.List.{List}
use lib.ListN.{length, get_or, length-append, get_or-append}
use lib.Dec.{leb, ltb}
use borrow.Author.Tests.{ltb-true, leb-true}
use Rattle.units.specs.Price.{most_price}
use Rattle.caps.specs.declared.Cut.{Cut}
use Rattle.caps.specs.Tree.{fold_up, charge_in}
use Rattle.caps.specs.Named.{name_in}
use Rattle.caps.specs.Clauses.{name_of}
use Rattle.caps.proofs.Charge.{charge_smallest}
use Rattle.caps.proofs.Named.{amount_past, name_past}
use Rattle.layout.specs.declared.Counts.{Counts}
use Rattle.areas.specs.Areas.{area_at, FaultlessTariff}
use Rattle.areas.proofs.Faultless.{faultless}
use Rattle.trip.specs.declared.Ride.{Ride}
use Rattle.trip.specs.declared.Earlier.{Earlier}
use Rattle.prices.specs.Clauses.{Priceable}
use Rattle.prices.proofs.Steps.{price_most}
use Rattle.ledger.specs.Words.{second_sum, all_sum, first_child, cover_word, paid_word}
use Rattle.ledger.specs.Windows.{in_window}
use Rattle.ledger.specs.Sound.{sound}
use Rattle.ledger.proofs.SoundLaws.{SoundBook, AloneBook, alone_has, sound_has}
use Rattle.ledger.proofs.Counting.{words_sound}
use Rattle.cycles.proofs.BicycleLaws.{bicycle_most}
use Rattle.charging.specs.Caps.{tree_of}
use Rattle.charging.specs.Charging.{is_child, carries, place_of, rider_charge, bicycle_of, in_turn, each_person, charges_of}
use Rattle.charging.specs.Cuts.{rider_cut, cuts_of}
use Rattle.charging.specs.Clauses.{Rideable, pending_in, chain_of, rest_by}
use Rattle.charging.proofs.Trees.{is_tree}
use Rattle.charging.proofs.InTurn.{turn_length, turn_at, turn_most, joined_most, at_second, persons_length, adult_at, child_at, rider_at}

-- A charge by the chain of an area is the charge in the tree, over the rider's sums with what they lack, and the cap named by it is the one
-- named there: in a region's chain the state stands twice, and in its own three times.
module _ {t : List ℕ} {counts : Counts} (f : FaultlessTariff t counts) (w : List ℕ) (rider : ℕ) (child : Bool) (class a : ℕ)
    (there : a < counts.areas) (earlier : Earlier) (paid price : ℕ) where
  pub charge_by :
      (rest_by (chain_of t counts a child earlier) w rider class paid price).amount.0
      ≡ charge_in (tree_of t counts child) (λ x. second_sum w rider x + cond (pending_in t counts earlier x) paid 0)
      (λ x. all_sum w rider x + cond (pending_in t counts earlier x) paid 0) class a price
  unfolding rest_by fold_up
  charge_by =
      let tree = is_tree f child in
      amount_past (tree_of t counts child) _ _ class tree a there 2 (tree.few_levels a there) price

  pub name_by :
      name_of price (rest_by (chain_of t counts a child earlier) w rider class paid price)
      ≡ name_in (tree_of t counts child) (λ x. second_sum w rider x + cond (pending_in t counts earlier x) paid 0)
      (λ x. all_sum w rider x + cond (pending_in t counts earlier x) paid 0) class a price
  unfolding rest_by fold_up
  name_by =
      let tree = is_tree f child in
      name_past (tree_of t counts child) _ _ class tree a there 2 (tree.few_levels a there) price

-- A rider who is carried has a place among the persons.
pub place_there : (ride : Ride) (rider : ℕ) → carries ride.party rider ≡ true → place_of ride.party rider < 1 + ride.party.adults + ride.party.children
place_there ride rider = go (is_child rider) refl
  where
    go :
        (child : Bool) → is_child rider ≡ child → cond child (ltb (rider - first_child) ride.party.children) (leb rider ride.party.adults) ≡ true
        → cond child (1 + ride.party.adults + (rider - first_child)) rider < 1 + ride.party.adults + ride.party.children
    go true e on = omega (arith, ltb-true)
    go false e on = omega (arith, leb-true)

-- The charges of a party: those of its persons, and behind them the bicycles'.
module _ (t : List ℕ) (counts : Counts) (w : List ℕ) (ride : Ride) where
  abbrev persons : List ℕ
  persons = each_person ride.party (rider_charge t counts w ride)

  abbrev bicycles : List ℕ
  bicycles = in_turn (bicycle_of t counts w ride) 0 ride.party.bicycles

  pub charges_length : length (charges_of t counts w ride) ≡ 1 + ride.party.adults + ride.party.children + ride.party.bicycles
  unfolding charges_of
  charges_length =
      omega (
        arith,
        length-append persons bicycles,
        persons_length ride.party (rider_charge t counts w ride),
        turn_length (bicycle_of t counts w ride) 0 ride.party.bicycles,
      )

  person_stands : (i : ℕ) → i < 1 + ride.party.adults + ride.party.children → get_or (charges_of t counts w ride) i 0 ≡ get_or persons i 0
  unfolding charges_of
  person_stands i h = get_or-append persons bicycles 0 i (rw (persons_length ride.party (rider_charge t counts w ride)) h)

  pub adult_stands : (i : ℕ) → i < 1 + ride.party.adults → get_or (charges_of t counts w ride) i 0 ≡ rider_charge t counts w ride false i
  adult_stands i h = person_stands i (omega arith) ∙ adult_at ride.party (rider_charge t counts w ride) 0 i h

  pub child_stands :
      (i : ℕ) → i < ride.party.children → get_or (charges_of t counts w ride) (1 + ride.party.adults + i) 0 ≡ rider_charge t counts w ride true (first_child + i)
  child_stands i h = person_stands (1 + ride.party.adults + i) (omega arith) ∙ child_at ride.party (rider_charge t counts w ride) 0 i h

  pub rider_stands :
      (rider : ℕ) → carries ride.party rider ≡ true
      → get_or (charges_of t counts w ride) (place_of ride.party rider) 0 ≡ rider_charge t counts w ride (is_child rider) rider
  rider_stands rider on =
      person_stands (place_of ride.party rider) (place_there ride rider on) ∙ rider_at ride.party (rider_charge t counts w ride) 0 rider on

  pub bicycle_stands :
      (i : ℕ) → i < ride.party.bicycles
      → get_or (charges_of t counts w ride) (1 + ride.party.adults + ride.party.children + i) 0 ≡ bicycle_of t counts w ride i
  unfolding charges_of
  bicycle_stands i h =
      at_second persons bicycles 0 (1 + ride.party.adults + ride.party.children) i (persons_length ride.party (rider_charge t counts w ride))
      ∙ turn_at (bicycle_of t counts w ride) 0 0 ride.party.bicycles i h ∙ ap (bicycle_of t counts w ride) (zero-add i)

-- The cuts of a party are its persons'.
module _ (t : List ℕ) (counts : Counts) (w : List ℕ) (ride : Ride) where
  pub cuts_length : length (cuts_of t counts w ride) ≡ 1 + ride.party.adults + ride.party.children
  unfolding cuts_of
  cuts_length = persons_length ride.party (rider_cut t counts w ride)

  pub adult_cut_stands : (d : Cut) (i : ℕ) → i < 1 + ride.party.adults → get_or (cuts_of t counts w ride) i d ≡ rider_cut t counts w ride false i
  unfolding cuts_of
  adult_cut_stands = adult_at ride.party (rider_cut t counts w ride)

  pub child_cut_stands :
      (d : Cut) (i : ℕ) → i < ride.party.children
      → get_or (cuts_of t counts w ride) (1 + ride.party.adults + i) d ≡ rider_cut t counts w ride true (first_child + i)
  unfolding cuts_of
  child_cut_stands = child_at ride.party (rider_cut t counts w ride)

  pub rider_cut_stands :
      (d : Cut) (rider : ℕ) → carries ride.party rider ≡ true
      → get_or (cuts_of t counts w ride) (place_of ride.party rider) d ≡ rider_cut t counts w ride (is_child rider) rider
  unfolding cuts_of
  rider_cut_stands = rider_at ride.party (rider_cut t counts w ride)

-- A ride of a faultless tariff can be priced, and no price is above 3,790,000 cents: so no charge is.
module _ {t : List ℕ} {counts : Counts} {b : List ℕ} {current : Bool} {ride : Ride} (r : Rideable t counts b current ride) where
  -- The words that count for it are sound under its tariff.
  pub ride_sound : sound (in_window current b) counts.areas ≡ true
  ride_sound = words_sound current b counts.areas r.alone r.covers

  pub ride_words : SoundBook (in_window current b) counts.areas
  ride_words = sound_has (in_window current b) counts.areas ride_sound

  -- The book is sound by itself.
  pub ride_book : AloneBook b
  ride_book = alone_has b r.alone

  pub priceable : Priceable (area_at t ride.area) ride
  priceable = record { ranges = (faultless t counts r.read).area ride.area r.area; minutes = r.minutes; km = r.km }

  pub rider_charge_most : (w : List ℕ) (child : Bool) (rider : ℕ) → rider_charge t counts w ride child rider ≤ most_price
  unfolding rider_charge
  rider_charge_most w child rider =
      le_trans (charge_smallest (is_tree (faultless t counts r.read) child) _ _ _ ride.area r.area _).most
      (price_most (area_at t ride.area) ride child priceable)

  pub charges_most : (i : ℕ) → get_or (charges_of t counts (in_window current b) ride) i 0 ≤ most_price
  unfolding charges_of each_person
  charges_most =
      let w = in_window current b in
      let riders : (child : Bool) (first n i : ℕ) → get_or (in_turn (rider_charge t counts w ride child) first n) i 0 ≤ most_price =
      λ child first n. turn_most _ first n most_price (λ i _. rider_charge_most w child (first + i))
      in
      joined_most (persons t counts w ride) (bicycles t counts w ride) most_price
      (joined_most (in_turn (rider_charge t counts w ride false) 0 (1 + ride.party.adults))
      (in_turn (rider_charge t counts w ride true) first_child ride.party.children) most_price (riders false 0 _) (riders true first_child _))
      (turn_most (bicycle_of t counts w ride) 0 ride.party.bicycles most_price
      (λ i h.
      let known = ride_words.covers (0 + i) (omega (arith, r.bicycles)) in
      omega (arith, bicycle_most t counts ride.area r.read r.area (cover_word w (0 + i)) (paid_word w (0 + i)) known)))
