-- What an earlier part of a trip leaves to charge the next part on: the same whether the part is in the book or its charges are only added
-- to what is read. So both parts can be charged before anything is written, and posted one after the other.
-- Assumes nothing.
use Prim.Native.Nat.{ℕ, ◌+◌, ◌-◌, ◌*◌, ◌^◌, ◌≤◌, ◌<◌}
use native.Mathlib.Nat.{add-zero, mul-le-mul_right}
use native.Mathlib.Omega.{arith}
use mathlib.Core.Path.{◌≡◌, refl, sym, ap, ◌∙◌}
use mathlib.Core.Bool.{Bool, true, false, cond}
use mathlib.Core.List.{List}
use borrow.Author.Tests.{eq-eqb}
use lib.ListN.{length}
use Rattle.units.specs.Price.{most_price}
use Rattle.caps.specs.declared.Name.{Name}
use Rattle.caps.specs.declared.Rest.{Rest}
use Rattle.caps.specs.declared.Cut.{Cut}
use Rattle.caps.specs.Named.{name_in}
use Rattle.caps.specs.Clauses.{name_of}
use Rattle.caps.proofs.Charge.{charge_class}
use Rattle.caps.proofs.Named.{name_class}
use Rattle.layout.specs.declared.Area.{Area}
use Rattle.layout.specs.declared.Counts.{Counts}
use Rattle.areas.specs.Areas.{area_at, lies_within, FaultlessTariff}
use Rattle.areas.proofs.Faultless.{faultless}
use Rattle.trip.specs.declared.Ride.{Ride}
use Rattle.trip.specs.declared.Earlier.{Earlier}
use Rattle.trip.specs.declared.Earlier.TheVariants.{Nothing, Part}
use Rattle.prices.specs.Prices.{price_of}
use Rattle.ledger.specs.declared.Window.{Window}
use Rattle.ledger.specs.Words.{word, trips_of, pair_place, second_sum, all_sum, cover_place, cover_word, paid_place, paid_word, edition_place}
use Rattle.ledger.specs.Windows.{in_window, opened}
use Rattle.ledger.proofs.WordLaws.{size_put, put_same}
use Rattle.ledger.proofs.SoundLaws.{PairSound, SoundBook}
use Rattle.cycles.specs.Bicycles.{new_cover, paid_with}
use Rattle.cycles.specs.Clauses.{EarlierThere, cover_after, paid_after}
use Rattle.charging.specs.declared.Person.{Person}
use Rattle.charging.specs.declared.limits.Link.{Link}
use Rattle.charging.specs.declared.limits.Chain.{Chain}
use Rattle.charging.specs.Charging.{is_child, carries, price_for, rider_charge, charges_of}
use Rattle.charging.specs.Caps.{tree_of}
use Rattle.charging.specs.Cuts.{rider_cut, cuts_of}
use Rattle.charging.specs.After.{posted, with_ride, words_after}
use Rattle.charging.specs.Clauses.{
  Rideable,
  PartBefore,
  EarlierRight,
  Ridden,
  pending_in,
  lacking_at,
  link_of,
  chain_of,
  ChainOf,
  FitsAt,
  FitsAlong,
  rest_by,
  cut_by,
  person_by,
  paid_earlier,
}
use Rattle.charging.proofs.Trees.{is_tree, lies-within}
use Rattle.charging.proofs.SumLaws.{sum_of, counted, sum_by_words}
use Rattle.charging.proofs.ChargeLaws.{charge_by, name_by, rider_stands, ride_words, rider_charge_most}
use Rattle.charging.proofs.AlikeBooks.{Alike, Touches, charges_alike, cuts_alike, with_alike}
use Rattle.charging.proofs.PostedLaws.{opened_size, opened_other, added, own_charge, posted_sum, posted_cover, posted_paid, added_most}

-- ---- In the book or beside it.

-- books the same in every word but the window's: the first three and the last
pub record SameSums (b b' : List ℕ) : Type 0 where
  pub size : length b' ≡ length b
  pub words : (i : ℕ) → 3 ≤ i → i < edition_place → word b' i ≡ word b i

sums_alike : Alike SameSums (λ i. (3 ≤ i) × (i < edition_place))
sums_alike =
    record {
      same = λ b b' s i known. s.words i known.0 known.1;
      put = λ b b' s p v.
          record {
            size = size_put b' p v ∙ s.size ∙ sym (size_put b p v);
            words = λ i low high. put_same b b' s.size p v i (s.words i low high);
          };
    }

touches :
    {tariff : List ℕ} {counts : Counts} {book : List ℕ} {current : Bool} {ride : Ride} → Rideable tariff counts book current ride
    → Touches (λ i. (3 ≤ i) × (i < edition_place)) counts ride
touches {tariff} {counts} ok =
    let few = (faultless tariff counts ok.read).few_areas in
    record {
      adults = λ i h a ha. ((omega arith, omega (arith, ok.adults)), (omega arith, omega (arith, ok.adults)));
      children = λ i h a ha. ((omega arith, omega (arith, ok.children)), (omega arith, omega (arith, ok.children)));
      bicycles = λ i h. ((omega arith, omega (arith, ok.bicycles)), (omega arith, omega (arith, ok.bicycles)));
    }

opened_same : (window : Window) (checkout : ℕ) (b : List ℕ) → SameSums (opened window checkout b) b
opened_same window checkout b =
    record { size = sym (opened_size window checkout b); words = λ i low high. sym (opened_other window checkout b i low high) }

module _ {tariff : List ℕ} {counts : Counts} {book : List ℕ} {current : Bool} {ride : Ride} (ok : Rideable tariff counts book current ride) where
  -- The book after a ride has the words that the ride leaves beside it.
  pub posted_words :
      (window : Window) (checkout : ℕ)
      → SameSums (posted tariff counts book window checkout ride) (with_ride tariff counts (in_window window.current book) ride)
  unfolding posted with_ride
  posted_words window checkout =
      with_alike sums_alike (faultless tariff counts ok.read) ride ok.area (touches ok) _ _ _ (opened_same window checkout _)

  -- So the next part is charged on the book that has the ride as on the words after it.
  pub charged_behind :
      {next : Ride} → Rideable tariff counts book current next → (window : Window) (checkout : ℕ)
      → charges_of tariff counts (posted tariff counts book window checkout ride) next
      ≡ charges_of tariff counts (words_after tariff counts (in_window window.current book) (Part ride)) next
  charged_behind {next} ok' window checkout =
      sym (charges_alike sums_alike (faultless tariff counts ok.read) next ok'.area (touches ok') _ _ (posted_words window checkout))

  -- Its cuts are the same on both too.
  pub cut_behind :
      {next : Ride} → Rideable tariff counts book current next → (window : Window) (checkout : ℕ)
      → cuts_of tariff counts (posted tariff counts book window checkout ride) next
      ≡ cuts_of tariff counts (words_after tariff counts (in_window window.current book) (Part ride)) next
  cut_behind {next} ok' window checkout =
      sym (cuts_alike sums_alike (faultless tariff counts ok.read) next ok'.area (touches ok') _ _ (posted_words window checkout))

  -- ---- The words after a ride: each rider's sums with the rider's charge, and each bicycle's new covering area and payments.

  module _ (room : current ≡ true → trips_of book ≤ 255) where
    -- any window with these words
    abbrev any_window : Window
    any_window = record { current = current; opening = record { 0 = 0 }; trips = 0; edition = 0 }

    pub with_sum :
        (which : Bool) (rider x : ℕ) → rider < 21 → x < 32
        → sum_of which (with_ride tariff counts (in_window current book) ride) rider x
        ≡ sum_of which (in_window current book) rider x
        + added which tariff counts ride x (own_charge ride (charges_of tariff counts (in_window current book) ride) rider)
    with_sum which rider x hr hx =
        sum_by_words which _ _ rider x (λ j low high. (posted_words any_window 0).words j (omega arith) (omega arith)) hx
        ∙ posted_sum any_window ok 0 room which rider x hr hx

    pub with_cover :
        (k : ℕ) → k < ride.party.bicycles
        → cover_word (with_ride tariff counts (in_window current book) ride) k ≡ 1 + new_cover tariff counts ride.area (cover_word (in_window current book) k)
    with_cover k h =
        (posted_words any_window 0).words (cover_place k) (omega arith) (omega (arith, ok.bicycles)) ∙ posted_cover any_window ok 0 room k h

    pub with_paid :
        (k : ℕ) → k < ride.party.bicycles
        → paid_word (with_ride tariff counts (in_window current book) ride) k
        ≡ paid_with tariff counts (new_cover tariff counts ride.area (cover_word (in_window current book) k)) (paid_word (in_window current book) k)
    with_paid k h =
        (posted_words any_window 0).words (paid_place k) (omega arith) (omega (arith, ok.bicycles)) ∙ posted_paid any_window ok 0 room k h

-- ---- Pending charges.

-- A sum that was read, made whole with what it lacks, fits its word.
module _ {link : Link} {w : List ℕ} {rider paid place more : ℕ} (fits : FitsAt link w rider paid) (is : place ≡ pair_place rider link.area)
    (lack : more ≡ lacking_at link paid) where
  pub second_whole : {second : ℕ} → second ≡ word w place → second + more < 2 ^ 32
  second_whole e = rw (e, is, lack) fits.second

  pub all_whole : {all : ℕ} → all ≡ word w (place + 1) → all + more < 2 ^ 32
  all_whole e = rw (e, is, lack) fits.all

-- the sums of sound words are what 256 trips can have left
sums_most : {w : List ℕ} {areas : ℕ} → SoundBook w areas → (rider x : ℕ) → rider < 21 → x < 32 → PairSound w (256 * most_price) rider x
sums_most s rider x hr hx =
    let pair = s.pairs rider x hr hx in
    (pair.0, omega (arith, pair.1, mul-le-mul_right most_price s.trips))

module _ (tariff : List ℕ) (counts : Counts) (book : List ℕ) (current : Bool) (ride : Ride) where
  -- the words that count
  abbrev counting : List ℕ
  counting = in_window current book

  there_by : (earlier : Earlier) → EarlierRight tariff counts book current ride earlier → EarlierThere counts earlier
  there_by Nothing right = right
  there_by (Part before) right = right.rideable.area

  cover_by :
      (earlier : Earlier) → EarlierRight tariff counts book current ride earlier → (k : ℕ) → k < ride.party.bicycles
      → cover_after tariff counts earlier (cover_word counting k) ≡ cover_word (words_after tariff counts counting earlier) k
  unfolding cover_after
  cover_by Nothing right k h = refl
  cover_by (Part before) right k h = sym (with_cover right.rideable right.room k (rw right.party h))

  paid-by :
      (earlier : Earlier) → EarlierRight tariff counts book current ride earlier → (k : ℕ) → k < ride.party.bicycles
      → paid_after tariff counts earlier (cover_word counting k) (paid_word counting k) ≡ paid_word (words_after tariff counts counting earlier) k
  unfolding paid_after
  paid-by Nothing right k h = refl
  paid-by (Part before) right k h = sym (with_paid right.rideable right.room k (rw right.party h))

  module _ (rider : ℕ) (on : carries ride.party rider ≡ true) (child : Bool) (alike : is_child rider ≡ child) where
    -- a carried rider's own charge for an earlier part is what the rider paid for it
    own_is :
        (before : Ride) → PartBefore tariff counts book current ride before
        → own_charge before (charges_of tariff counts counting before) rider ≡ rider_charge tariff counts counting before child rider
    own_is before right =
        let there : carries before.party rider ≡ true = rw right.party on in
        rw there (rider_stands tariff counts counting before rider there ∙ rw alike)

    lacking_by :
        (earlier : Earlier) → EarlierRight tariff counts book current ride earlier → (x : ℕ)
        → cond (pending_in tariff counts earlier x) (paid_earlier tariff counts counting earlier child rider) 0 ≤ most_price
    unfolding pending_in paid_earlier
    lacking_by Nothing right x = omega arith
    lacking_by (Part before) right x =
        omega (
          arith,
          added_most (lies_within tariff before.area x) (rider_charge tariff counts counting before child rider),
          rider_charge_most right.rideable counting child rider,
        )

    sums_by :
        (earlier : Earlier) → EarlierRight tariff counts book current ride earlier
        → (which : Bool) → counted which ride.class ≡ true → (x : ℕ) → rider < 21 → x < 32
        → sum_of which counting rider x + cond (pending_in tariff counts earlier x) (paid_earlier tariff counts counting earlier child rider) 0
        ≡ sum_of which (words_after tariff counts counting earlier) rider x
    unfolding pending_in paid_earlier
    sums_by Nothing right which counts-in x hr hx = add-zero _
    sums_by (Part before) right which counts-in x hr hx =
        sym (with_sum right.rideable right.room which rider x hr hx
        ∙ rw (
          own_is before right,
          right.class,
          counts-in,
          lies-within (faultless tariff counts right.rideable.read) false before.area x right.rideable.area,
        ))

module _ {tariff : List ℕ} {counts : Counts} {book : List ℕ} {current : Bool} {ride : Ride} {earlier : Earlier}
    (r : Ridden tariff counts book current ride earlier) where
  -- The area of an earlier part is one of the tariff's.
  pub earlier_there : EarlierThere counts earlier
  earlier_there = there_by tariff counts book current ride earlier r.before

  -- A bicycle's word after an earlier part is the one that the part gives it.
  pub cover-after :
      (k : ℕ) → k < ride.party.bicycles
      → cover_after tariff counts earlier (cover_word (in_window current book) k) ≡ cover_word (words_after tariff counts (in_window current book) earlier) k
  cover-after = cover_by tariff counts book current ride earlier r.before

  -- So are its payments.
  pub paid-after :
      (k : ℕ) → k < ride.party.bicycles
      → paid_after tariff counts earlier (cover_word (in_window current book) k) (paid_word (in_window current book) k)
      ≡ paid_word (words_after tariff counts (in_window current book) earlier) k
  paid-after = paid-by tariff counts book current ride earlier r.before

-- a cut goes by the price, the charge and the name
cut_same :
    {price price' charge charge' : ℕ} {name name' : Name} → price ≡ price' → charge ≡ charge' → name ≡ name'
    → ◌≡◌ {A = Cut} (record { reduction = record { 0 = price - charge }; area = name.area; class = name.class })
    (record { reduction = record { 0 = price' - charge' }; area = name'.area; class = name'.class })
cut_same e e' e'' = rw (e, e', e'')

-- A carried rider who is charged with what it paid for an earlier part.
module _ {tariff : List ℕ} {counts : Counts} {book : List ℕ} {current : Bool} {ride : Ride} {earlier : Earlier}
    (r : Ridden tariff counts book current ride earlier) {rider : ℕ} (known : rider < 21) (on : carries ride.party rider ≡ true) {child : Bool}
    (alike : is_child rider ≡ child) where
  right : FaultlessTariff tariff counts
  right = faultless tariff counts r.rideable.read

  abbrev paid : ℕ
  paid = paid_earlier tariff counts (in_window current book) earlier child rider

  -- the sums with what they lack are those after the earlier part, where the class counts
  sums_after :
      (which : Bool) → counted which ride.class ≡ true → (x : ℕ) → x < counts.areas
      → sum_of which (in_window current book) rider x + cond (pending_in tariff counts earlier x) paid 0
      ≡ sum_of which (words_after tariff counts (in_window current book) earlier) rider x
  sums_after which counts-in x hx =
      sums_by tariff counts book current ride rider on child alike earlier r.before which counts-in x known (omega (arith, right.few_areas))

  -- Each sum with what it lacks fits its word.
  link_fits : (area : ℕ) → area < 32 → FitsAt (link_of tariff counts area child earlier) (in_window current book) rider paid
  link_fits area small =
      let most = sums_most (ride_words r.rideable) rider area known small in
      let lack = lacking_by tariff counts book current ride rider on child alike earlier r.before area in
      record {
        place = small;
        second = omega (arith, most.0, most.1, lack);
        all = omega (arith, most.1, lack);
      }

  pub rider_fits : {chain : Chain} → ChainOf tariff counts ride.area child earlier chain → FitsAlong chain (in_window current book) rider paid
  rider_fits is =
      let places = rw is.value at is.places in
      rw is.value
      (record { own = link_fits _ places.own; above = link_fits _ places.above; top = link_fits _ places.top })

  -- What it is charged by the chain of the ride's area, and what is taken off, are those on what the earlier part leaves.
  module _ {area : Area} {chain : Chain} {fare : ℕ} (e : area ≡ area_at tariff ride.area)
      (e' : chain ≡ chain_of tariff counts ride.area child earlier) (e'' : fare ≡ price_of area ride child) where
    abbrev after : List ℕ
    after = words_after tariff counts (in_window current book) earlier

    abbrev rest : Rest
    rest = rest_by chain (in_window current book) rider ride.class paid fare

    fare_is : fare ≡ price_for tariff counts ride child
    fare_is = e'' ∙ ap (λ (a : Area). price_of a ride child) e

    amount_after : rest.amount.0 ≡ rider_charge tariff counts after ride child rider
    unfolding rider_charge
    amount_after =
        rw (
          fare_is,
          e',
          charge_by right (in_window current book) rider child ride.class ride.area r.rideable.area earlier paid,
          charge_class (is_tree right child) _ _ (second_sum after rider) (all_sum after rider) ride.class
              (λ two x there. sums_after true (eq-eqb ride.class 2 two) x there) (λ x there. sums_after false refl x there)
              ride.area _ r.rideable.area,
        )

    name_after :
        name_of fare rest
        ≡ name_in (tree_of tariff counts child) (second_sum after rider) (all_sum after rider) ride.class ride.area (price_for tariff counts ride child)
    name_after =
        rw (fare_is, e')
        (name_by right (in_window current book) rider child ride.class ride.area r.rideable.area earlier paid (price_for tariff counts ride child)
        ∙ name_class (is_tree right child) _ _ (second_sum after rider) (all_sum after rider) ride.class
        (λ two x there. sums_after true (eq-eqb ride.class 2 two) x there) (λ x there. sums_after false refl x there) ride.area
        (price_for tariff counts ride child) r.rideable.area)

    cut_after : cut_by fare rest ≡ rider_cut tariff counts after ride child rider
    unfolding rider_cut
    cut_after = cut_same fare_is amount_after name_after

    pub rider_after :
        {person : Person} → person ≡ person_by chain (in_window current book) rider ride.class paid fare
        → (person.amount.0 ≡ rider_charge tariff counts after ride child rider) × (person.cut ≡ rider_cut tariff counts after ride child rider)
    unfolding person_by
    rider_after is = (rw is amount_after, rw is cut_after)
