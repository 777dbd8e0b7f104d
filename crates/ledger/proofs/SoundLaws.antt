-- What a sound book has, and what makes a book sound.
-- Assumes nothing.
use Rattle.std.proofs.Common.{◌≡◌, ℕ, ◌+◌, ◌*◌, ◌/◌, ◌%◌, ◌<◌, ◌≤◌, Bool, true, false, ◌&&◌, eqb, leb, List, length, sym, refl, ap, ◌∙◌, subst, le_antisymm, arith, eq-eqb, ne_eqb, eqb-true, le-leb, leb-true}
use native.Mathlib.Decide.{ℕ_discrete}
use mathlib.Core.Bool.{and_assoc}
use Rattle.units.specs.Price.{most_price}
use Rattle.calendar.specs.Stamps.{last_minute}
use Rattle.wire.specs.Each.{each}
use Rattle.wire.proofs.Each.{each_more, each_at, each_all}
use Rattle.wire.proofs.Tests.{both_left, both_right, told}
use Rattle.ledger.specs.Words.{
  book_size,
  book_words,
  fresh_book,
  word,
  trips_of,
  opening_of,
  last_out_of,
  pair_place,
  pairs,
  pair_at,
  second_sum,
  all_sum,
  cover_place,
  cover_word,
  paid_place,
  paid_word,
  edition_of,
}
use Rattle.ledger.specs.Sound.{all_zero, head_sound, pairs_sound, covers_sound, most_paid, payments_sound, sound_alone, sound}
use Rattle.ledger.specs.Clauses.{HeadRight}
use Rattle.ledger.proofs.WordLaws.{word_fresh, fresh_size, zeros_fresh}

-- a rider's sums in an area: second class at most all classes, and that at most `most`
abbrev pub PairSound : List ℕ → ℕ → ℕ → ℕ → Type 0
PairSound b most rider area = (second_sum b rider area ≤ all_sum b rider area) × (all_sum b rider area ≤ most)

-- what a book that is sound by itself has
pub record AloneBook (b : List ℕ) : Type 0 where
  pub size : length b ≡ book_size
  pub trips : trips_of b ≤ 256
  pub pairs : (rider area : ℕ) → rider < 21 → area < 32 → PairSound b (trips_of b * most_price) rider area
  pub payments : (k : ℕ) → k < 10 → paid_word b k ≤ most_paid
  pub opened : 0 < trips_of b → HeadRight (trips_of b) (opening_of b) (last_out_of b)
  pub edition : 0 < trips_of b → 1 ≤ edition_of b
  pub fresh : trips_of b ≡ 0 → (i : ℕ) → i < book_words → word b i ≡ 0

-- and what a sound book has under a tariff
pub record SoundBook (b : List ℕ) (areas : ℕ) : Type 0 where
  pub size : length b ≡ book_size
  pub trips : trips_of b ≤ 256
  pub pairs : (rider area : ℕ) → rider < 21 → area < 32 → PairSound b (trips_of b * most_price) rider area
  pub covers : (k : ℕ) → k < 10 → cover_word b k ≤ areas
  pub payments : (k : ℕ) → k < 10 → paid_word b k ≤ most_paid
  pub opened : 0 < trips_of b → HeadRight (trips_of b) (opening_of b) (last_out_of b)
  pub fresh : trips_of b ≡ 0 → (i : ℕ) → i < book_words → word b i ≡ 0

-- What a sound head says, and what makes it sound.
pub head_has : (t opening out : ℕ) → head_sound t opening out ≡ true → HeadRight t opening out
head_has t opening out e =
    record {
      some = search told depth 9;
      few = search told depth 9;
      order = search told depth 9;
      last = search told depth 9;
      day = search told depth 9;
    }

pub head_back : (t opening out : ℕ) → HeadRight t opening out → head_sound t opening out ≡ true
head_back t opening out h =
    rw (le-leb 1 t h.some, le-leb t 256 h.few, le-leb _ _ h.order, le-leb _ _ h.last, le-leb _ _ h.day)

-- What a loop over the tests keeps: one turn is one test more, and after the last it has them all.
pub one_more : (n : ℕ) (test : ℕ → Bool) (before here : Bool) → before ≡ each n test → here ≡ test n
    → before && here ≡ each (n + 1) test
one_more n test before here e h = rw (e, h, each_more)

pub all_done : (n i : ℕ) (test : ℕ → Bool) (found : Bool) → i ≤ n → n ≤ i → found ≡ each i test → found ≡ each n test
all_done n i test found most least e = e ∙ ap (λ (k : ℕ). each k test) (le_antisymm most least)

-- the tests at one word, at one pair, and at one bicycle's covering area and payments
abbrev pub zero_right : List ℕ → ℕ → Bool
zero_right b i = eqb (word b i) 0

abbrev pub pair_right : List ℕ → ℕ → ℕ → Bool
pair_right b most i = leb (word b (pair_at i)) (word b (pair_at i + 1)) && leb (word b (pair_at i + 1)) most

abbrev pub cover_right : List ℕ → ℕ → ℕ → Bool
cover_right b areas k = leb (cover_word b k) areas

abbrev pub paid_right : List ℕ → ℕ → Bool
paid_right b k = leb (paid_word b k) most_paid

-- a rider's pair in an area is number 32 × rider + area of the 672
pair-at : (b : List ℕ) (most rider area : ℕ) → pair_right b most (32 * rider + area) ≡ true → PairSound b most rider area
pair-at b most rider area e =
    let place : pair_at (32 * rider + area) ≡ pair_place rider area = omega arith in
    subst (λ (p : ℕ). (word b p ≤ word b (p + 1)) × (word b (p + 1) ≤ most)) place (search told, search told)

-- one turn of the loop over the pairs
pub one_pair_more : (b : List ℕ) (most i place second all : ℕ) (right : Bool) → right ≡ each i (pair_right b most)
    → place ≡ pair_at i → second ≡ word b place → all ≡ word b (place + 1)
    → right && leb second all && leb all most ≡ each (i + 1) (pair_right b most)
one_pair_more b most i place second all right e is h₂ h₁ =
    and_assoc right (leb second all) (leb all most) ∙ one_more i (pair_right b most) right _ e (rw (h₂, h₁, is))

pub pairs_have : (b : List ℕ) (most : ℕ) → pairs_sound b most ≡ true
    → (rider area : ℕ) → rider < 21 → area < 32 → PairSound b most rider area
unfolding pairs_sound
pairs_have b most e rider area hr ha =
    pair-at b most rider area (each_at pairs (pair_right b most) e (32 * rider + area) (omega arith))

-- each of the 672 pairs is a rider's in an area
pub pairs_back : (b : List ℕ) (most : ℕ)
    → ((rider area : ℕ) → rider < 21 → area < 32 → PairSound b most rider area) → pairs_sound b most ≡ true
unfolding pairs_sound
pairs_back b most right = each_all pairs (pair_right b most) at
  where
    at : (i : ℕ) → i < pairs → pair_right b most i ≡ true
    at i h =
        let place : pair_place (i / 32) (i % 32) ≡ pair_at i = omega arith in
        let here : (word b (pair_at i) ≤ word b (pair_at i + 1)) × (word b (pair_at i + 1) ≤ most) =
        subst (λ (p : ℕ). (word b p ≤ word b (p + 1)) × (word b (p + 1) ≤ most)) place (right (i / 32) (i % 32) (omega arith) (omega arith))
        in
        rw (le-leb _ _ here.0, le-leb _ _ here.1)

pub covers_have : (b : List ℕ) (areas : ℕ) → covers_sound b areas ≡ true → (k : ℕ) → k < 10 → cover_word b k ≤ areas
unfolding covers_sound
covers_have b areas e k h = leb-true _ _ (each_at 10 (cover_right b areas) e k h)

pub covers_back : (b : List ℕ) (areas : ℕ) → ((k : ℕ) → k < 10 → cover_word b k ≤ areas) → covers_sound b areas ≡ true
unfolding covers_sound
covers_back b areas right = each_all 10 (cover_right b areas) (λ k h. le-leb _ _ (right k h))

pub payments_have : (b : List ℕ) → payments_sound b ≡ true → (k : ℕ) → k < 10 → paid_word b k ≤ most_paid
unfolding payments_sound
payments_have b e k h = leb-true _ _ (each_at 10 (paid_right b) e k h)

pub payments_back : (b : List ℕ) → ((k : ℕ) → k < 10 → paid_word b k ≤ most_paid) → payments_sound b ≡ true
unfolding payments_sound
payments_back b right = each_all 10 (paid_right b) (λ k h. le-leb _ _ (right k h))

pub zeros_have : (b : List ℕ) → all_zero b ≡ true → (i : ℕ) → i < book_words → word b i ≡ 0
unfolding all_zero
zeros_have b e i h = eqb-true _ _ (each_at book_words (zero_right b) e i h)

pub zeros_back : (b : List ℕ) → ((i : ℕ) → i < book_words → word b i ≡ 0) → all_zero b ≡ true
unfolding all_zero
zeros_back b zero = each_all book_words (zero_right b) (λ i h. eq-eqb (word b i) 0 (zero i h))

-- What a book's words, as read one after another, leave open: a book of another length; an unused one; one in use, by its head.
pub told_unsized : (b : List ℕ) → (length b ≡ book_size → ⊥) → sound_alone b ≡ false
unfolding sound_alone
told_unsized b other = rw (ne_eqb (length b) book_size other)

pub told_unused : (b : List ℕ) → length b ≡ book_size → trips_of b ≡ 0 → sound_alone b ≡ all_zero b
unfolding sound_alone
told_unused b size none = rw (eq-eqb (length b) book_size size, eq-eqb (trips_of b) 0 none)

-- a book in use, and what was read of it
pub record InUse (b : List ℕ) (t opening out : ℕ) : Type 0 where
  pub size : length b ≡ book_size
  pub some : t ≡ 0 → ⊥
  pub trips : t ≡ trips_of b
  pub opened : opening ≡ opening_of b
  pub last : out ≡ last_out_of b

pub told_used : (b : List ℕ) {t opening out : ℕ} → InUse b t opening out
    → sound_alone b ≡ head_sound t opening out && (pairs_sound b (t * most_price) && (payments_sound b && leb 1 (edition_of b)))
unfolding sound_alone
told_used b u =
    rw (u.trips, u.opened, u.last, eq-eqb (length b) book_size u.size, ne_eqb (trips_of b) 0 (λ none. u.some (u.trips ∙ none)))

pub told_wrong : (b : List ℕ) {t opening out : ℕ} → InUse b t opening out → head_sound t opening out ≡ false
    → sound_alone b ≡ false
told_wrong b u head = told_used b u ∙ rw head

pub told_right : (b : List ℕ) {t opening out : ℕ} → InUse b t opening out → HeadRight t opening out
    → sound_alone b ≡ pairs_sound b (t * most_price) && (payments_sound b && leb 1 (edition_of b))
told_right b u head = told_used b u ∙ rw (head_back _ _ _ head)

-- A book is sound under a tariff exactly where it is sound by itself and its bicycle words are within the areas.
pub told_alone : (b : List ℕ) (areas : ℕ) → sound_alone b ≡ true → sound b areas ≡ covers_sound b areas
unfolding sound
told_alone b areas alone = rw alone

pub told_never : (b : List ℕ) (areas : ℕ) → sound_alone b ≡ false → sound b areas ≡ false
unfolding sound
told_never b areas alone = rw alone

pub sound-alone : (b : List ℕ) (areas : ℕ) → sound b areas ≡ true → sound_alone b ≡ true
unfolding sound
sound-alone b areas e = both_left (sound_alone b) (covers_sound b areas) e

pub sound_covers : (b : List ℕ) (areas : ℕ) → sound b areas ≡ true → covers_sound b areas ≡ true
unfolding sound
sound_covers b areas e = both_right (sound_alone b) (covers_sound b areas) e

pub alone_sized : (b : List ℕ) → sound_alone b ≡ true → length b ≡ book_size
unfolding sound_alone
alone_sized b e = eqb-true (length b) book_size (both_left _ _ e)

-- What every book has that is sound by itself.
pub alone_has : (b : List ℕ) → sound_alone b ≡ true → AloneBook b
alone_has b e =
    let size = alone_sized b e in
    elim (ℕ_discrete (trips_of b) 0) [
      | yes none ↦
          let zeros = zeros_have b (sym (told_unused b size none) ∙ e) in
          record {
            size = size;
            trips = omega arith;
            pairs =
                λ r a hr ha. (
                  omega (arith, zeros (pair_place r a) (omega arith)),
                  omega (arith, zeros (pair_place r a + 1) (omega arith)),
                );
            payments = λ k h. omega (arith, zeros (paid_place k) (omega arith));
            opened = λ some. absurd (omega arith);
            edition = λ some. absurd (omega arith);
            fresh = λ _. zeros;
          }
      | no some ↦
          let all = sym (told_used b (record { size = size; some = some; trips = refl; opened = refl; last = refl })) ∙ e in
          let head = head_has _ _ _ (both_left (head_sound (trips_of b) (opening_of b) (last_out_of b)) _ all) in
          let rest = both_right (head_sound (trips_of b) (opening_of b) (last_out_of b)) _ all in
          let last = both_right (pairs_sound b (trips_of b * most_price)) _ rest in
          record {
            size = size;
            trips = head.few;
            pairs = pairs_have b (trips_of b * most_price) (both_left _ _ rest);
            payments = payments_have b (both_left _ _ last);
            opened = λ _. head;
            edition = λ _. leb-true _ _ (both_right (payments_sound b) _ last);
            fresh = λ none. absurd (some none);
          }
    ]

-- What every sound book has.
pub sound_has : (b : List ℕ) (areas : ℕ) → sound b areas ≡ true → SoundBook b areas
sound_has b areas e =
    let alone = alone_has b (sound-alone b areas e) in
    record {
      size = alone.size;
      trips = alone.trips;
      pairs = alone.pairs;
      covers = covers_have b areas (sound_covers b areas e);
      payments = alone.payments;
      opened = alone.opened;
      fresh = alone.fresh;
    }

-- A sound book without trips is a fresh one.
pub fresh_is : {b : List ℕ} → AloneBook b → trips_of b ≡ 0 → b ≡ fresh_book
fresh_is {b} s none = zeros_fresh b s.size (s.fresh none)

-- A sound book's opening is a minute of the calendar.
pub opening_most : (b : List ℕ) → sound_alone b ≡ true → opening_of b ≤ last_minute
opening_most b e =
    let has = alone_has b e in
    elim (ℕ_discrete (trips_of b) 0) [
      | yes none ↦ omega (arith, has.fresh none 1 (omega arith))
      | no some ↦ let head = has.opened (omega arith) in omega arith
    ]

-- A book in use whose window, edition, pairs and bicycles are right is sound.
pub sound_back : (b : List ℕ) (areas : ℕ) → length b ≡ book_size
    → head_sound (trips_of b) (opening_of b) (last_out_of b) ≡ true
    → 1 ≤ edition_of b
    → ((rider area : ℕ) → rider < 21 → area < 32 → PairSound b (trips_of b * most_price) rider area)
    → ((k : ℕ) → k < 10 → cover_word b k ≤ areas)
    → ((k : ℕ) → k < 10 → paid_word b k ≤ most_paid)
    → sound b areas ≡ true
sound_back b areas size head edition pairs covers payments =
    let right = head_has (trips_of b) (opening_of b) (last_out_of b) head in
    let used : InUse b (trips_of b) (opening_of b) (last_out_of b) =
    record { size = size; some = λ none. omega arith; trips = refl; opened = refl; last = refl }
    in
    let alone : sound_alone b ≡ true =
    told_right b used right ∙ rw (pairs_back b (trips_of b * most_price) pairs, payments_back b payments, le-leb 1 (edition_of b) edition)
    in
    told_alone b areas alone ∙ covers_back b areas covers

-- A book without trips that is sound by itself is sound under every tariff: all its bicycle words are 0.
pub unused_sound : (b : List ℕ) (areas : ℕ) → sound_alone b ≡ true → trips_of b ≡ 0 → sound b areas ≡ true
unused_sound b areas alone none =
    let zeros = (alone_has b alone).fresh none in
    told_alone b areas alone ∙ covers_back b areas (λ k h. omega (arith, zeros (cover_place k) (omega arith)))

-- A fresh book is sound by itself, and so under every tariff.
pub fresh_alone : sound_alone fresh_book ≡ true
fresh_alone = told_unused fresh_book fresh_size (word_fresh 0) ∙ zeros_back fresh_book (λ i h. word_fresh i)

pub fresh_sound : (areas : ℕ) → sound fresh_book areas ≡ true
fresh_sound areas = unused_sound fresh_book areas fresh_alone (word_fresh 0)
