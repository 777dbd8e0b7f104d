-- What a ride leaves in the book, word by word: the window's four words, the riders' sums with their charges, the bicycles' covering
-- areas and payments, and every other word as it was.
-- Assumes nothing.
use Prim.Native.Nat.{ℕ, ◌+◌, ◌-◌, ◌*◌, ◌^◌, ◌≤◌, ◌<◌}
use native.Mathlib.Nat.{add-zero, zero-add, mul-le-mul_right, le_refl}
use native.Mathlib.Omega.{arith}
use native.Mathlib.Decide.{dec_lt}
use mathlib.Core.Path.{◌≡◌, refl, sym, ap, subst, ◌∙◌}
use mathlib.Core.Logic.{◌⊎◌, inl, inr, ⊎_elim}
use mathlib.Core.Bool.{Bool, true, false, cond, ◌&&◌}
use mathlib.Core.List.{List}
use borrow.Author.Tests.{lt-ltb, le-ltb, le-leb, lt-leb}
use lib.ListN.{length, get_or}
use Rattle.units.specs.Price.{most_price}
use Rattle.caps.specs.Tree.{within}
use Rattle.caps.proofs.Climb.{within_state}
use Rattle.layout.specs.declared.Counts.{Counts}
use Rattle.areas.specs.Areas.{FaultlessTariff}
use Rattle.areas.proofs.Faultless.{faultless}
use Rattle.trip.specs.declared.Ride.{Ride}
use Rattle.ledger.specs.declared.Window.{Window}
use Rattle.ledger.specs.Words.{
  book_size,
  word,
  put_word,
  trips_of,
  opening_of,
  last_out_of,
  all_sum,
  pair_at,
  first_child,
  cover_place,
  cover_word,
  paid_place,
  paid_word,
  edition_place,
  edition_of,
}
use Rattle.ledger.specs.Sound.{most_paid}
use Rattle.ledger.specs.Windows.{in_window, opened}
use Rattle.ledger.proofs.WordLaws.{word_put_same, word_put_other, size_put}
use Rattle.ledger.proofs.Counting.{counting, Counting}
use Rattle.cycles.specs.Bicycles.{new_cover, paid_with, cover_bicycles}
use Rattle.cycles.proofs.BicycleLaws.{cover_there, paid_with_most}
use Rattle.cycles.proofs.CoverLaws.{cover_size, cover_other, cover_new, paid_new}
use Rattle.charging.specs.Caps.{tree_of}
use Rattle.charging.specs.Charging.{carries, place_of, charges_of}
use Rattle.charging.specs.Clauses.{Rideable}
use Rattle.charging.specs.After.{add_list, posted}
use Rattle.charging.proofs.Trees.{is_tree}
use Rattle.charging.proofs.ChargeLaws.{ride_words, charges_most}
use Rattle.charging.proofs.SumLaws.{sum_of, counted, Fits, sum_by_words, list_size, list_other, list_riders, list_sum}

-- ---- The window's words.

-- the book with the first of them put, with the first two and with the first three
abbrev one_in : Window → List ℕ → List ℕ
one_in window b = put_word b 0 (window.trips + 1)

abbrev two_in : Window → List ℕ → List ℕ
two_in window b = put_word (one_in window b) 1 window.opening.0

abbrev three_in : Window → ℕ → List ℕ → List ℕ
three_in window checkout b = put_word (two_in window b) 2 checkout

module _ (window : Window) (checkout : ℕ) (b : List ℕ) where
  one_size : length (one_in window b) ≡ length b
  one_size = size_put b 0 (window.trips + 1)

  two_size : length (two_in window b) ≡ length b
  two_size = size_put (one_in window b) 1 window.opening.0 ∙ one_size

  three_size : length (three_in window checkout b) ≡ length b
  three_size = size_put (two_in window b) 2 checkout ∙ two_size

  -- Opening leaves the book as long as it was.
  pub opened_size : length (opened window checkout b) ≡ length b
  unfolding opened
  opened_size = size_put (three_in window checkout b) edition_place window.edition ∙ three_size

  one_other : (j : ℕ) → 1 ≤ j → word (one_in window b) j ≡ word b j
  one_other j h = word_put_other b 0 j (window.trips + 1) (λ e. omega arith)

  two_other : (j : ℕ) → (1 ≡ j → ⊥) → word (two_in window b) j ≡ word (one_in window b) j
  two_other j h = word_put_other (one_in window b) 1 j window.opening.0 h

  out_other : (j : ℕ) → (2 ≡ j → ⊥) → word (three_in window checkout b) j ≡ word (two_in window b) j
  out_other j h = word_put_other (two_in window b) 2 j checkout h

  edition_other : (j : ℕ) → j < edition_place → word (opened window checkout b) j ≡ word (three_in window checkout b) j
  unfolding opened
  edition_other j h = word_put_other (three_in window checkout b) edition_place j window.edition (λ e. omega arith)

  -- Every word but the first three and the last stays.
  pub opened_other : (j : ℕ) → 3 ≤ j → j < edition_place → word (opened window checkout b) j ≡ word b j
  opened_other j h h' = edition_other j h' ∙ out_other j (λ e. omega arith) ∙ two_other j (λ e. omega arith) ∙ one_other j (omega arith)

  -- So every sum does.
  pub opened_sum : (which : Bool) (rider x : ℕ) → rider < 21 → x < 32 → sum_of which (opened window checkout b) rider x ≡ sum_of which b rider x
  opened_sum which rider x hr hx = sum_by_words which _ b rider x (λ j low high. opened_other j (omega arith) (omega arith)) hx

  -- Word 0 is the window's trips with this one, word 1 its opening, word 2 the check-out, and the last its edition.
  pub opened_trips : length b ≡ book_size → window.trips < 2 ^ 31 → trips_of (opened window checkout b) ≡ window.trips + 1
  opened_trips size small =
      edition_other 0 (omega arith) ∙ out_other 0 (λ e. omega arith) ∙ two_other 0 (λ e. omega arith) ∙ word_put_same b 0 (window.trips + 1) size (omega arith) (omega arith)

  pub opened_opening : length b ≡ book_size → window.opening.0 < 2 ^ 32 → opening_of (opened window checkout b) ≡ window.opening.0
  opened_opening size small =
      edition_other 1 (omega arith) ∙ out_other 1 (λ e. omega arith) ∙ word_put_same (one_in window b) 1 window.opening.0 (one_size ∙ size) (omega arith) small

  pub opened_out : length b ≡ book_size → checkout < 2 ^ 32 → last_out_of (opened window checkout b) ≡ checkout
  opened_out size small = edition_other 2 (omega arith) ∙ word_put_same (two_in window b) 2 checkout (two_size ∙ size) (omega arith) small

  pub opened_edition : length b ≡ book_size → window.edition < 2 ^ 32 → edition_of (opened window checkout b) ≡ window.edition
  unfolding opened
  opened_edition size small =
      word_put_same (three_in window checkout b) edition_place window.edition (three_size ∙ size) (omega arith) small

-- A rider's sums have room for one charge more.
pub counting_room :
    {w : List ℕ} {areas before : ℕ} → Counting w areas before → (rider amount : ℕ) → rider < 21 → amount ≤ most_price → (x : ℕ) → x < 32
    → Fits w rider amount x
counting_room {w} {areas} {before} c rider amount hr range x hx = fits
  where
    most : before * most_price ≤ 255 * most_price
    most = mul-le-mul_right most_price c.few

    fits : Fits w rider amount x
    fits true = let p = c.pairs rider x hr hx in omega (arith, most)
    fits false = let p = c.pairs rider x hr hx in omega (arith, most)

-- ---- The whole ride.

-- the words that count in a window, and the charges by them
abbrev pub words_in : Window → List ℕ → List ℕ
words_in window book = in_window window.current book

abbrev pub charges_in : List ℕ → Counts → List ℕ → Window → Ride → List ℕ
charges_in tariff counts book window ride = charges_of tariff counts (words_in window book) ride

-- what a charge adds to one of a rider's two sums in an area: itself where its class counts and the ride's area lies within, else 0
abbrev pub added : Bool → List ℕ → Counts → Ride → ℕ → ℕ → ℕ
added which tariff counts ride area amount = cond (counted which ride.class && within (tree_of tariff counts false) ride.area area) amount 0

-- a rider's charge among those of a party: 0 for a rider who is not carried
abbrev pub own_charge : Ride → List ℕ → ℕ → ℕ
own_charge ride charges rider = cond (carries ride.party rider) (get_or charges (place_of ride.party rider) 0) 0

-- a rider whom a party does not carry
abbrev NotCarried : Ride → ℕ → Type 0
NotCarried ride rider = ((1 + ride.party.adults ≤ rider) × (rider < first_child)) ⊎ (first_child + ride.party.children ≤ rider)

-- A rider is an adult, a child, or not carried.
rider_cases :
    {P : ℕ → Type 0} (ride : Ride) (rider : ℕ) → ((r : ℕ) → r < 1 + ride.party.adults → P r) → ((i : ℕ) → i < ride.party.children → P (first_child + i))
    → (NotCarried ride rider → P rider) → P rider
rider_cases {P} ride rider adult child none =
    elim (dec_lt rider (1 + ride.party.adults)) [
      | yes h ↦ adult rider h
      | no h ↦
          elim (dec_lt rider first_child) [
            | yes h' ↦ none (inl (omega arith, h'))
            | no h' ↦
                elim (dec_lt rider (first_child + ride.party.children)) [
                  | yes i ↦ subst P (omega arith) (child (rider - first_child) (omega arith))
                  | no i ↦ none (inr (omega arith))
                ]
          ]
    ]

module _ (ride : Ride) (charges : List ℕ) where
  -- The account holder and the adults have the first charges.
  own_adult : (rider : ℕ) → ride.party.adults ≤ 10 → rider < 1 + ride.party.adults → own_charge ride charges rider ≡ get_or charges rider 0
  own_adult rider few h = rw (le-ltb 10 rider (omega arith), le-leb rider ride.party.adults (omega arith))

  -- The children have those after the adults'.
  own_child : (i : ℕ) → i < ride.party.children → own_charge ride charges (first_child + i) ≡ get_or charges (1 + ride.party.adults + i) 0
  own_child i h =
      let back : first_child + i - first_child ≡ i = omega arith in
      rw (lt-ltb 10 (first_child + i) (omega arith), back, lt-ltb i ride.party.children h)

  -- A rider who is not carried has none.
  own_none : (rider : ℕ) → NotCarried ride rider → own_charge ride charges rider ≡ 0
  own_none rider (inl (past, adult)) = rw (le-ltb 10 rider (omega arith), lt-leb rider ride.party.adults (omega arith))
  own_none rider (inr past) = rw (lt-ltb 10 rider (omega arith), le-ltb (rider - first_child) ride.party.children (omega arith))

  -- No rider's charge is more than the charges are.
  own_most :
      (most : ℕ) → ride.party.adults ≤ 10 → ((i : ℕ) → get_or charges i 0 ≤ most) → (rider : ℕ) → own_charge ride charges rider ≤ most
  own_most most few each rider =
      rider_cases {P = λ r. own_charge ride charges r ≤ most} ride rider (λ r h. rw (own_adult r few h) (each r))
      (λ i h. rw (own_child i h) (each (1 + ride.party.adults + i))) (λ out. omega (arith, own_none rider out))

-- In a ride no rider's own charge is more than the most that a price is.
pub own_range :
    {tariff : List ℕ} {counts : Counts} {book : List ℕ} {ride : Ride} (window : Window) → Rideable tariff counts book window.current ride → (rider : ℕ)
    → own_charge ride (charges_in tariff counts book window ride) rider ≤ most_price
own_range {tariff} {counts} {book} {ride} window ok =
    own_most ride (charges_in tariff counts book window ride) most_price ok.adults (charges_most ok)

-- the book with the window's words put and the adults' charges added, and with the children's too
abbrev adults_in : List ℕ → Counts → List ℕ → Window → ℕ → Ride → List ℕ
adults_in tariff counts book window checkout ride =
    add_list tariff counts ride.class ride.area 0 (1 + ride.party.adults) (charges_in tariff counts book window ride) 0 (opened window checkout (words_in window book))

abbrev riders_in : List ℕ → Counts → List ℕ → Window → ℕ → Ride → List ℕ
riders_in tariff counts book window checkout ride =
    add_list tariff counts ride.class ride.area first_child ride.party.children (charges_in tariff counts book window ride) (1 + ride.party.adults)
    (adults_in tariff counts book window checkout ride)

posted_is :
    (tariff : List ℕ) (counts : Counts) (book : List ℕ) (window : Window) (checkout : ℕ) (ride : Ride)
    → posted tariff counts book window checkout ride ≡ cover_bicycles tariff counts ride.area ride.party.bicycles (riders_in tariff counts book window checkout ride)
unfolding posted
posted_is tariff counts book window checkout ride = refl

module _ {tariff : List ℕ} {counts : Counts} {book : List ℕ} {ride : Ride} (window : Window) (ok : Rideable tariff counts book window.current ride)
    (checkout : ℕ) (room : window.current ≡ true → trips_of book ≤ 255) where
  t : FaultlessTariff tariff counts
  t = faultless tariff counts ok.read

  c : Counting (words_in window book) counts.areas (cond window.current (trips_of book) 0)
  c = counting window.current book (ride_words ok) room

  opened_sized : length (opened window checkout (words_in window book)) ≡ book_size
  opened_sized = opened_size window checkout (words_in window book) ∙ c.size

  adults_size : length (adults_in tariff counts book window checkout ride) ≡ book_size
  adults_size =
      list_size t ride.class ride.area ok.area 0 (charges_in tariff counts book window ride) 0 (1 + ride.party.adults)
      (opened window checkout (words_in window book)) (omega (arith, ok.adults))
      ∙ opened_sized

  riders_size : length (riders_in tariff counts book window checkout ride) ≡ book_size
  riders_size =
      list_size t ride.class ride.area ok.area first_child (charges_in tariff counts book window ride) (1 + ride.party.adults) ride.party.children
      (adults_in tariff counts book window checkout ride) (omega (arith, ok.children))
      ∙ adults_size

  -- The book keeps its length.
  pub posted_size : length (posted tariff counts book window checkout ride) ≡ book_size
  posted_size = rw posted_is (cover_size tariff counts ride.area ride.party.bicycles (riders_in tariff counts book window checkout ride) ∙ riders_size)

  -- a word outside every rider's
  riders_other :
      (j : ℕ) → (j < pair_at 0) ⊎ (cover_place 0 ≤ j)
      → word (riders_in tariff counts book window checkout ride) j ≡ word (opened window checkout (words_in window book)) j
  riders_other j out =
      list_other t ride.class ride.area ok.area first_child (charges_in tariff counts book window ride) (1 + ride.party.adults) ride.party.children
      (adults_in tariff counts book window checkout ride) (omega (arith, ok.children)) j
      (⊎_elim (λ h. inl (omega arith)) (λ h. inr (omega (arith, ok.children))) out)
      ∙ list_other t ride.class ride.area ok.area 0 (charges_in tariff counts book window ride) 0 (1 + ride.party.adults)
      (opened window checkout (words_in window book)) (omega (arith, ok.adults)) j
      (⊎_elim (λ h. inl (omega arith)) (λ h. inr (omega (arith, ok.adults))) out)

  head_word :
      (j : ℕ) → j < 3 → word (posted tariff counts book window checkout ride) j ≡ word (opened window checkout (words_in window book)) j
  head_word j h =
      rw posted_is
      (cover_other tariff counts ride.area ride.party.bicycles (riders_in tariff counts book window checkout ride) j
      (λ i hi. (λ e. omega arith, λ e. omega arith))
      ∙ riders_other j (inl h))

  last_word : edition_of (posted tariff counts book window checkout ride) ≡ edition_of (opened window checkout (words_in window book))
  last_word =
      rw posted_is
      (cover_other tariff counts ride.area ride.party.bicycles (riders_in tariff counts book window checkout ride) edition_place
      (λ i hi. (λ e. omega (arith, ok.bicycles), λ e. omega (arith, ok.bicycles)))
      ∙ riders_other edition_place (inr (omega arith)))

  -- Word 0 is the window's trips with this one, word 1 its opening, word 2 the check-out, and the last its edition.
  pub posted_trips : window.trips < 2 ^ 31 → trips_of (posted tariff counts book window checkout ride) ≡ window.trips + 1
  posted_trips small = head_word 0 (omega arith) ∙ opened_trips window checkout (words_in window book) c.size small

  pub posted_opening : window.opening.0 < 2 ^ 32 → opening_of (posted tariff counts book window checkout ride) ≡ window.opening.0
  posted_opening small = head_word 1 (omega arith) ∙ opened_opening window checkout (words_in window book) c.size small

  pub posted_out : checkout < 2 ^ 32 → last_out_of (posted tariff counts book window checkout ride) ≡ checkout
  posted_out small = head_word 2 (omega arith) ∙ opened_out window checkout (words_in window book) c.size small

  pub posted_edition : window.edition < 2 ^ 32 → edition_of (posted tariff counts book window checkout ride) ≡ window.edition
  posted_edition small = last_word ∙ opened_edition window checkout (words_in window book) c.size small

  riders_cover : (k : ℕ) → k < 10 → cover_word (riders_in tariff counts book window checkout ride) k ≡ cover_word (words_in window book) k
  riders_cover k few =
      riders_other (cover_place k) (inr (omega arith)) ∙ opened_other window checkout (words_in window book) (cover_place k) (omega arith) (omega arith)

  riders_paid : (k : ℕ) → k < 10 → paid_word (riders_in tariff counts book window checkout ride) k ≡ paid_word (words_in window book) k
  riders_paid k few =
      riders_other (paid_place k) (inr (omega arith)) ∙ opened_other window checkout (words_in window book) (paid_place k) (omega arith) (omega arith)

  -- the bicycles' words before they are covered are in their ranges
  riders_covers : (i : ℕ) → i < ride.party.bicycles → cover_word (riders_in tariff counts book window checkout ride) i ≤ counts.areas
  riders_covers i h = let few : i < 10 = omega (arith, ok.bicycles) in rw (riders_cover i few) (c.covers i few)

  riders_payments : (i : ℕ) → i < ride.party.bicycles → paid_word (riders_in tariff counts book window checkout ride) i ≤ most_paid
  riders_payments i h = let few : i < 10 = omega (arith, ok.bicycles) in rw (riders_paid i few) (c.payments i few)

  -- Each bicycle carried has its new covering area, and the others keep theirs.
  pub posted_cover :
      (k : ℕ) → k < ride.party.bicycles
      → cover_word (posted tariff counts book window checkout ride) k ≡ 1 + new_cover tariff counts ride.area (cover_word (words_in window book) k)
  posted_cover k h =
      rw posted_is
      (cover_new t ride.area ok.area ride.party.bicycles (riders_in tariff counts book window checkout ride) riders_size ok.bicycles
      riders_covers k h
      ∙ ap (λ (old : ℕ). 1 + new_cover tariff counts ride.area old) (riders_cover k (omega (arith, ok.bicycles))))

  pub posted_uncovered :
      (k : ℕ) → ride.party.bicycles ≤ k → k < 10 → cover_word (posted tariff counts book window checkout ride) k ≡ cover_word (words_in window book) k
  posted_uncovered k h few =
      rw posted_is
      (cover_other tariff counts ride.area ride.party.bicycles (riders_in tariff counts book window checkout ride) (cover_place k)
      (λ i hi. (λ e. omega arith, λ e. omega arith))
      ∙ riders_cover k few)

  -- It has its payments with what it pays per trip, and the others keep theirs.
  pub posted_paid :
      (k : ℕ) → k < ride.party.bicycles
      → paid_word (posted tariff counts book window checkout ride) k
      ≡ paid_with tariff counts (new_cover tariff counts ride.area (cover_word (words_in window book) k)) (paid_word (words_in window book) k)
  posted_paid k h =
      rw posted_is
      (paid_new t ride.area ok.area ride.party.bicycles (riders_in tariff counts book window checkout ride) riders_size ok.bicycles
      riders_covers riders_payments k h
      ∙ rw (riders_cover k (omega (arith, ok.bicycles)), riders_paid k (omega (arith, ok.bicycles))))

  pub posted_unpaid :
      (k : ℕ) → ride.party.bicycles ≤ k → k < 10 → paid_word (posted tariff counts book window checkout ride) k ≡ paid_word (words_in window book) k
  posted_unpaid k h few =
      rw posted_is
      (cover_other tariff counts ride.area ride.party.bicycles (riders_in tariff counts book window checkout ride) (paid_place k)
      (λ i hi. (λ e. omega (arith, ok.bicycles), λ e. omega arith))
      ∙ riders_paid k few)

  -- So each bicycle's covering area is one of the tariff's.
  pub posted_covers : (k : ℕ) → k < 10 → cover_word (posted tariff counts book window checkout ride) k ≤ counts.areas
  posted_covers k h =
      elim (dec_lt k ride.party.bicycles) [
        | yes on ↦
            omega (arith, posted_cover k on, cover_there t ride.area (cover_word (words_in window book) k) ok.area (c.covers k h))
        | no off ↦ omega (arith, posted_uncovered k (omega arith) h, c.covers k h)
      ]

  -- and each bicycle's payments are in their range
  pub posted_payments : (k : ℕ) → k < 10 → paid_word (posted tariff counts book window checkout ride) k ≤ most_paid
  posted_payments k h =
      elim (dec_lt k ride.party.bicycles) [
        | yes on ↦
            rw (posted_paid k on)
            (paid_with_most t _ (cover_there t ride.area (cover_word (words_in window book) k) ok.area (c.covers k h)) _ (c.payments k h))
        | no off ↦ omega (arith, posted_unpaid k (omega arith) h, c.payments k h)
      ]

  -- the bicycles change no sum
  posted_riders :
      (which : Bool) (rider x : ℕ) → rider < 21 → x < 32
      → sum_of which (posted tariff counts book window checkout ride) rider x ≡ sum_of which (riders_in tariff counts book window checkout ride) rider x
  posted_riders which rider x hr hx =
      rw posted_is
      (sum_by_words which _ _ rider x
      (λ j low high. cover_other tariff counts ride.area ride.party.bicycles (riders_in tariff counts book window checkout ride) j
      (λ i hi. (λ e. omega arith, λ e. omega arith))) hx)

  -- the children's charges change no other rider's
  riders_adults :
      (which : Bool) (rider x : ℕ) → (rider < first_child) ⊎ (first_child + ride.party.children ≤ rider) → x < 32
      → sum_of which (riders_in tariff counts book window checkout ride) rider x ≡ sum_of which (adults_in tariff counts book window checkout ride) rider x
  riders_adults which rider x out hx =
      list_riders t ride.class ride.area ok.area first_child (charges_in tariff counts book window ride) (1 + ride.party.adults) which ride.party.children
      (adults_in tariff counts book window checkout ride) (omega (arith, ok.children)) rider x out hx

  -- and the adults' none past theirs
  adults_riders :
      (which : Bool) (rider x : ℕ) → rider < 21 → 1 + ride.party.adults ≤ rider → x < 32
      → sum_of which (adults_in tariff counts book window checkout ride) rider x ≡ sum_of which (words_in window book) rider x
  adults_riders which rider x hr past hx =
      list_riders t ride.class ride.area ok.area 0 (charges_in tariff counts book window ride) 0 which (1 + ride.party.adults)
      (opened window checkout (words_in window book)) (omega (arith, ok.adults)) rider x (inr (omega arith)) hx
      ∙ opened_sum window checkout (words_in window book) which rider x hr hx

  -- The sums of a rider who is not carried are those of the words that count.
  posted_none :
      (which : Bool) (rider x : ℕ) → rider < 21 → NotCarried ride rider → x < 32
      → sum_of which (posted tariff counts book window checkout ride) rider x ≡ sum_of which (words_in window book) rider x
  posted_none which rider x hr out hx =
      posted_riders which rider x hr hx
      ∙ riders_adults which rider x (⊎_elim (λ h. inl h.1) inr out) hx
      ∙ adults_riders which rider x hr (⊎_elim (λ h. h.0) (λ h. omega (arith, ok.adults)) out) hx

  -- The account holder's and each adult's sums are those with the rider's charge added.
  posted_adult :
      (which : Bool) (rider x : ℕ) → rider < 1 + ride.party.adults → x < 32
      → sum_of which (posted tariff counts book window checkout ride) rider x
      ≡ sum_of which (words_in window book) rider x + added which tariff counts ride x (get_or (charges_in tariff counts book window ride) rider 0)
  posted_adult which rider x h hx =
      posted_riders which rider x (omega (arith, ok.adults)) hx ∙ riders_adults which rider x (inl (omega (arith, ok.adults))) hx
      ∙ rw (zero-add rider) at
      (list_sum t ride.class ride.area ok.area 0 (charges_in tariff counts book window ride) 0 which (1 + ride.party.adults)
      (opened window checkout (words_in window book)) opened_sized (omega (arith, ok.adults))
      (λ i hi y hy which'.
      rw (zero-add i, opened_sum window checkout (words_in window book) which' i y (omega (arith, ok.adults)) hy)
      (counting_room c i (get_or (charges_in tariff counts book window ride) i 0) (omega (arith, ok.adults)) (charges_most ok i) y hy which'))
      rider h x hx)
      ∙ ap (◌+ added which tariff counts ride x (get_or (charges_in tariff counts book window ride) rider 0))
      (opened_sum window checkout (words_in window book) which rider x (omega (arith, ok.adults)) hx)

  -- So are each child's.
  posted_child :
      (which : Bool) (i x : ℕ) → i < ride.party.children → x < 32
      → sum_of which (posted tariff counts book window checkout ride) (first_child + i) x
      ≡ sum_of which (words_in window book) (first_child + i) x
      + added which tariff counts ride x (get_or (charges_in tariff counts book window ride) (1 + ride.party.adults + i) 0)
  posted_child which i x h hx =
      posted_riders which (first_child + i) x (omega (arith, ok.children)) hx
      ∙ list_sum t ride.class ride.area ok.area first_child (charges_in tariff counts book window ride) (1 + ride.party.adults) which ride.party.children
      (adults_in tariff counts book window checkout ride) adults_size (omega (arith, ok.children))
      (λ k hk y hy which'.
      rw (adults_riders which' (first_child + k) y (omega (arith, ok.children)) (omega (arith, ok.adults)) hy)
      (counting_room c (first_child + k) (get_or (charges_in tariff counts book window ride) (1 + ride.party.adults + k) 0) (omega (arith, ok.children))
      (charges_most ok (1 + ride.party.adults + k)) y hy which'))
      i h x hx
      ∙ ap (◌+ added which tariff counts ride x (get_or (charges_in tariff counts book window ride) (1 + ride.party.adults + i) 0))
      (adults_riders which (first_child + i) x (omega (arith, ok.children)) (omega (arith, ok.adults)) hx)

  -- Every rider's sums grow by the rider's own charge in each area that the ride's area lies within, and in no other.
  pub posted_sum :
      (which : Bool) (rider x : ℕ) → rider < 21 → x < 32
      → sum_of which (posted tariff counts book window checkout ride) rider x
      ≡ sum_of which (words_in window book) rider x + added which tariff counts ride x (own_charge ride (charges_in tariff counts book window ride) rider)
  posted_sum which rider x hr hx =
      rider_cases
      {P = λ r.
      sum_of which (posted tariff counts book window checkout ride) r x
      ≡ sum_of which (words_in window book) r x + added which tariff counts ride x (own_charge ride (charges_in tariff counts book window ride) r)} ride rider
      (λ r h. rw (own_adult ride (charges_in tariff counts book window ride) r ok.adults h) (posted_adult which r x h hx))
      (λ i h. rw (own_child ride (charges_in tariff counts book window ride) i h) (posted_child which i x h hx))
      (λ out. rw (own_none ride (charges_in tariff counts book window ride) rider out)
      (posted_none which rider x hr out hx ∙ nothing (counted which ride.class && within (tree_of tariff counts false) ride.area x) _))
    where
      nothing : (s : Bool) (n : ℕ) → n ≡ n + cond s 0 0
      nothing true n = sym (add-zero n)
      nothing false n = sym (add-zero n)

  -- In the state each rider's sum of all classes grows by the rider's charge: every area lies within it.
  pub state_sum :
      (rider : ℕ) → rider < 21
      → all_sum (posted tariff counts book window checkout ride) rider 0
      ≡ all_sum (words_in window book) rider 0 + own_charge ride (charges_in tariff counts book window ride) rider
  state_sum rider hr = rw (within_state (is_tree t false) ride.area ok.area) at (posted_sum false rider 0 hr (omega arith))

pub added_most : (v : Bool) (c : ℕ) → cond v c 0 ≤ c
added_most true c = le_refl c
added_most false c = omega arith
