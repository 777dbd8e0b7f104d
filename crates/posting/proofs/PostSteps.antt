-- What each step of posting finds: the record says the part's area, party and charges, the riders have room, the bicycles' covering areas are the
-- tariff's, and their payments in range.
-- Assumes nothing.
use Prim.Native.Nat.{ℕ, zero, suc, ◌+◌, ◌*◌, ◌≤◌, ◌<◌}
use native.Mathlib.Nat.{zero-add}
use native.Mathlib.Omega.{arith}
use mathlib.Core.Path.{◌≡◌, refl, ap, ◌∙◌}
use mathlib.Core.Logic.{inr}
use mathlib.Core.Bool.{true, cond}
use mathlib.Core.List.{List}
use lib.ListN.{length, get_or}
use Rattle.units.specs.Price.{most_price}
use Rattle.wire.specs.Number.{get_le}
use Rattle.layout.specs.declared.Counts.{Counts}
use Rattle.areas.specs.Areas.{FaultlessTariff}
use Rattle.areas.proofs.Faultless.{faultless}
use Rattle.statement.specs.Record.{Part, head_size, charge_size, person_size, persons_of}
use Rattle.statement.specs.Reading.{area_in, adults_in, children_in, bicycles_in, size_in}
use Rattle.statement.specs.Clauses.{RecordAt}
use Rattle.statement.proofs.Records.{area_is, adults_is, children_is, bicycles_is, person_is, record_at}
use Rattle.ledger.specs.declared.Window.{Window}
use Rattle.ledger.specs.Words.{book_size, word, trips_of, first_child, cover_place, paid_place, edition_place}
use Rattle.ledger.specs.Windows.{opened}
use Rattle.ledger.proofs.Counting.{Counting, counting}
use Rattle.cycles.specs.Bicycles.{cover_bicycles}
use Rattle.charging.specs.After.{add_list, posted}
use Rattle.charging.proofs.SumLaws.{list_size, list_other}
use Rattle.charging.proofs.ChargeLaws.{ride_book, ride_words, charges_most}
use Rattle.charging.proofs.PostedLaws.{words_in, charges_in, opened_other}
use Rattle.posting.specs.Clauses.{Room, charges_from, Adding, RidersPosted, Covering, Postable}
use Rattle.posting.proofs.PostTurns.{from_at, room_same}

-- Only the charges from a place on, as many as there are riders, matter.
pub list_same :
    (t : List ℕ) (counts : Counts) (class at first count : ℕ) (l : List ℕ) (from : ℕ) (l' : List ℕ) (from' : ℕ) (b : List ℕ)
    → ((i : ℕ) → i < count → get_or l (from + i) 0 ≡ get_or l' (from' + i) 0)
    → add_list t counts class at first count l from b ≡ add_list t counts class at first count l' from' b
unfolding add_list
list_same t counts class at first zero l from l' from' b same = refl
list_same t counts class at first (suc count) l from l' from' b same =
    rw (list_same t counts class at first count l from l' from' b (λ i h. same i (omega arith)), same count (omega arith))

-- ---- The riders go in two groups, the account holder with the adults and then the children.

module _ (t : List ℕ) (counts : Counts) (class at adults children : ℕ) (s : List ℕ) (place : ℕ) where
  -- the book after the first group
  abbrev with_adults : List ℕ → List ℕ
  with_adults b = add_list t counts class at 0 adults (charges_from s place adults) 0 b

  abbrev with_both : List ℕ → List ℕ
  with_both b = add_list t counts class at first_child children (charges_from s (place + person_size * adults) children) 0 (with_adults b)

  -- the first `k` groups are added; the next one's first rider, how many there are, and where their charges stand
  pub data Groups (b₀ : List ℕ) : ℕ → ℕ → ℕ → ℕ → List ℕ → Type 0 where
    no_group : Groups b₀ 0 0 adults place b₀
    one_group : {next : ℕ} {b : List ℕ} → next ≡ place + person_size * adults → b ≡ with_adults b₀ → Groups b₀ 1 first_child children next b
    two_groups : {first count next : ℕ} {b : List ℕ} → next ≡ place + person_size * (adults + children) → b ≡ with_both b₀ → Groups b₀ 2 first count next b

  pub group_more :
      {b₀ : List ℕ} {k first count next r : ℕ} {b b' : List ℕ} → k < 2 → Groups b₀ k first count next b
      → RidersPosted t counts b class at first count s next b' r → Groups b₀ (k + 1) first_child children r b'
  group_more some no_group added = one_group added.next added.book_is
  group_more {r = r} some (one_group here is) added =
      let behind : r ≡ place + person_size * (adults + children) = omega (arith, added.next, here) in two_groups behind (added.book_is ∙ rw (is, here))
  group_more some (two_groups here is) added = absurd (omega arith)

-- ---- What the record says.

-- the part's area, its adults with the account holder, its children and its bicycles
pub record Said (part : Part) (at adults children bicycles : ℕ) : Type 0 where
  pub area_is : at ≡ part.ride.area
  pub adults_are : adults ≡ 1 + part.ride.party.adults
  pub children_are : children ≡ part.ride.party.children
  pub bicycles_are : bicycles ≡ part.ride.party.bicycles

module _ {t : List ℕ} {counts : Counts} {b : List ℕ} {window : Window} {class : ℕ} {part : Part} {s : List ℕ} {place : ℕ}
    (p : Postable t counts b window class part s place) where
  right : FaultlessTariff t counts
  right = faultless t counts p.rideable.read

  readable : RecordAt s place
  readable = record_at p.stands p.recordable

  pub head_inside : place + head_size ≤ length s
  head_inside = omega (arith, readable.long, readable.inside)

  pub said :
      {at adults children bicycles : ℕ} → at ≡ area_in s place → adults ≡ 1 + adults_in s place → children ≡ children_in s place
      → bicycles ≡ bicycles_in s place → Said part at adults children bicycles
  said area adults children bicycles =
      record {
        area_is = area ∙ area_is part s place p.stands p.recordable;
        adults_are = adults ∙ ap (1 +◌) (adults_is part s place p.stands p.recordable);
        children_are = children ∙ children_is part s place p.stands p.recordable;
        bicycles_are = bicycles ∙ bicycles_is part s place p.stands p.recordable;
      }

  charge_there :
      (i : ℕ) → i < persons_of part.ride.party → get_le 4 s (place + head_size + person_size * i) ≡ get_or (charges_in t counts b window part.ride) i 0
  charge_there i h = person_is part s place p.stands p.recordable i h ∙ ap (λ (l : List ℕ). get_or l i 0) p.charged

  -- charge i of those that stand from a place on
  charge_same :
      (from n k i : ℕ) → i < n → from ≡ place + head_size + person_size * k → k + i < persons_of part.ride.party
      → get_or (charges_from s from n) (0 + i) 0 ≡ get_or (charges_in t counts b window part.ride) (k + i) 0
  charge_same from n k i h at few =
      let behind : from + person_size * i ≡ place + head_size + person_size * (k + i) = omega arith in
      ap (λ (j : ℕ). get_or (charges_from s from n) j 0) (zero-add i) ∙ from_at s from n i h ∙ ap (get_le 4 s) behind ∙ charge_there (k + i) few

  charge_small : (i : ℕ) → i < persons_of part.ride.party → get_le 4 s (place + head_size + person_size * i) ≤ most_price
  charge_small i h = rw (charge_there i h) (charges_most p.rideable i)

  room : window.current ≡ true → trips_of b ≤ 255
  room current = omega (arith, rw current at p.trips, p.few)

  window_words : Counting (words_in window b) counts.areas (cond window.current (trips_of b) 0)
  window_words = counting window.current b (ride_words p.rideable) room

  -- After the window is opened.
  module _ (checkout : ℕ) {b₁ : List ℕ} (e₁ : b₁ ≡ opened window checkout (words_in window b)) (kept₁ : length b₁ ≡ length b)
      {at adults children bicycles : ℕ} (says : Said part at adults children bicycles) where
    abbrev first_charge : ℕ
    first_charge = place + head_size

    there : at < counts.areas
    there = rw says.area_is p.rideable.area

    -- behind the bicycles' charges the record ends
    ends : first_charge + person_size * (adults + children) + charge_size * bicycles ≡ place + size_in s place
    ends =
        omega (
          arith,
          readable.long,
          adults_is part s place p.stands p.recordable,
          children_is part s place p.stands p.recordable,
          bicycles_is part s place p.stands p.recordable,
          says.adults_are,
          says.children_are,
          says.bicycles_are,
        )

    size₁ : length b₁ ≡ book_size
    size₁ = kept₁ ∙ (ride_book p.rideable).size

    word₁ : (j : ℕ) → 3 ≤ j → j < edition_place → word b₁ j ≡ word (words_in window b) j
    word₁ j h h' = ap (λ (l : List ℕ). word l j) e₁ ∙ opened_other window checkout (words_in window b) j h h'

    room₁ : (rider : ℕ) → rider < 21 → Room b₁ rider
    room₁ rider h =
        room_same (words_in window b) b₁ rider (λ j low high. word₁ j (omega arith) (omega arith))
        (λ area h'. omega (arith, window_words.few, window_words.pairs rider area h h'))

    -- After the adults' charges are added: the words behind theirs are as they were.
    module _ {b₂ : List ℕ} (e₂ : b₂ ≡ with_adults t counts class at adults children s first_charge b₁) where
      kept₂ : length b₂ ≡ length b₁
      kept₂ = ap length e₂ ∙ list_size right class at there 0 _ 0 adults b₁ (omega (arith, p.rideable.adults, says.adults_are))

      word₂ : (j : ℕ) → 3 + 64 * first_child ≤ j → word b₂ j ≡ word b₁ j
      word₂ j h =
          ap (λ (l : List ℕ). word l j) e₂
          ∙ list_other right class at there 0 _ 0 adults b₁
          (omega (arith, p.rideable.adults, says.adults_are)) j (inr (omega (arith, p.rideable.adults, says.adults_are)))

    -- After the children's: the bicycles' words are as they were.
    module _ {b₃ : List ℕ} (e₃ : b₃ ≡ with_both t counts class at adults children s first_charge b₁) where
      kept₃ : length b₃ ≡ length b
      kept₃ =
          ap length e₃
          ∙ list_size right class at there first_child _ 0 children _ (omega (arith, p.rideable.children, says.children_are))
          ∙ kept₂ refl ∙ kept₁

      word₃ : (j : ℕ) → cover_place 0 ≤ j → j < edition_place → word b₃ j ≡ word (words_in window b) j
      word₃ j h h' =
          ap (λ (l : List ℕ). word l j) e₃
          ∙ list_other right class at there first_child _ 0 children _
          (omega (arith, p.rideable.children, says.children_are)) j (inr (omega (arith, p.rideable.children, says.children_are)))
          ∙ word₂ refl j (omega arith) ∙ word₁ j (omega arith) h'

    pub group_ready :
        {k first count next : ℕ} {b' : List ℕ} → k < 2 → Groups t counts class at adults children s first_charge b₁ k first count next b'
        → Adding t counts b' at first count s next
    group_ready some no_group =
        record {
          size = size₁;
          read = p.rideable.read;
          area = there;
          known = omega (arith, p.rideable.adults, says.adults_are);
          there = omega (arith, ends, readable.inside);
          room = λ i h. room₁ (0 + i) (omega (arith, p.rideable.adults, says.adults_are));
          range = λ i h. charge_small i (omega (arith, says.adults_are));
        }
    group_ready {next = next} some (one_group here is) =
        record {
          size = kept₂ is ∙ size₁;
          read = p.rideable.read;
          area = there;
          known = omega (arith, p.rideable.children, says.children_are);
          there = omega (arith, ends, readable.inside, here);
          room = λ i h.
              room_same b₁ _ (first_child + i) (λ j low high. word₂ is j (omega arith))
              (room₁ (first_child + i) (omega (arith, p.rideable.children, says.children_are)));
          range = λ i h.
              let at : next + person_size * i ≡ first_charge + person_size * (adults + i) = omega (arith, here) in
              rw at (charge_small (adults + i) (omega (arith, says.adults_are, says.children_are)));
        }
    group_ready some (two_groups here is) = absurd (omega arith)

    pub groups_size :
        {k first count next : ℕ} {b' : List ℕ} → Groups t counts class at adults children s first_charge b₁ k first count next b' → length b' ≡ length b
    groups_size no_group = kept₁
    groups_size (one_group here is) = kept₂ is ∙ kept₁
    groups_size (two_groups here is) = kept₃ is

    pub covers_ready :
        {k first count next : ℕ} {b' : List ℕ} → 2 ≤ k → Groups t counts class at adults children s first_charge b₁ k first count next b'
        → Covering t counts b' at bicycles
    covers_ready all no_group = absurd (omega arith)
    covers_ready all (one_group here is) = absurd (omega arith)
    covers_ready all (two_groups here is) =
        record {
          size = kept₃ is ∙ (ride_book p.rideable).size;
          read = p.rideable.read;
          area = there;
          few = rw says.bicycles_are p.rideable.bicycles;
          covers = λ i h.
              let few : i < 10 = omega (arith, p.rideable.bicycles, says.bicycles_are) in
              rw (word₃ is (cover_place i) (omega arith) (omega arith)) (window_words.covers i few);
          payments = λ i h.
              let few : i < 10 = omega (arith, p.rideable.bicycles, says.bicycles_are) in
              rw (word₃ is (paid_place i) (omega arith) (omega arith)) (window_words.payments i few);
        }

    -- After the last step the book is what the part's ride leaves, and behind the bicycles' charges the record ends.
    pub all_posted :
        {k first count next : ℕ} {b' b'' : List ℕ} → 2 ≤ k → Groups t counts class at adults children s first_charge b₁ k first count next b'
        → b'' ≡ cover_bicycles t counts at bicycles b' → b'' ≡ posted t counts b window checkout part.ride
    unfolding posted
    all_posted all no_group covered = absurd (omega arith)
    all_posted all (one_group here is) covered = absurd (omega arith)
    all_posted all (two_groups here is) covered =
        let l = charges_in t counts b window part.ride in
        let adults-same : with_adults t counts class at adults children s first_charge b₁ ≡ add_list t counts class at 0 adults l 0 b₁ =
        list_same t counts class at 0 adults _ 0 l 0 b₁ (λ i h. charge_same first_charge adults 0 i h (omega arith) (omega (arith, says.adults_are)))
        in
        let children-same :
        (c : List ℕ)
        → add_list t counts class at first_child children (charges_from s (first_charge + person_size * adults) children) 0 c
        ≡ add_list t counts class at first_child children l adults c =
        λ c.
        list_same t counts class at first_child children _ 0 l adults c
        (λ i h.
        charge_same (first_charge + person_size * adults) children adults i h (omega arith) (omega (arith, says.adults_are, says.children_are)))
        in
        covered
        ∙ rw (is, children-same, adults-same, e₁, says.area_is, says.adults_are, says.children_are, says.bicycles_are, p.class_is)

    pub record_ends :
        {k first count next : ℕ} {b' : List ℕ} → 2 ≤ k → Groups t counts class at adults children s first_charge b₁ k first count next b'
        → (next + charge_size * bicycles ≡ place + size_in s place) × (next + charge_size * bicycles ≤ length s)
    record_ends all no_group = absurd (omega arith)
    record_ends all (one_group here is) = absurd (omega arith)
    record_ends all (two_groups here is) = (omega (arith, here, ends), omega (arith, here, ends, readable.inside))
