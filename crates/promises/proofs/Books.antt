-- What an accepted trip leaves in the book, in the rules' words; and that the words leave nothing open: there is no other book of bytes
-- that they hold of.
-- Assumes nothing.
use Prim.Native.Nat.{ℕ, ◌+◌, ◌≤◌, ◌<◌}
use native.Mathlib.Nat.{add-zero}
use native.Mathlib.Omega.{arith}
use native.Mathlib.Decide.{ℕ_discrete, dec_lt}
use mathlib.Core.Path.{◌≡◌, refl, sym, ap, subst, ◌∙◌}
use mathlib.Core.Bool.{Bool, true, false, cond, ◌&&◌, false≢true}
use mathlib.Core.List.{List, [], ◌∷◌}
use borrow.Author.Tests.{eqb-true, eq-eqb}
use lib.ListN.{length}
use lib.Dec.{eqb}
use Rattle.wire.specs.Number.{Bytes}
use Rattle.wire.proofs.Tests.{both_left, both_right}
use Rattle.caps.specs.Tree.{within}
use Rattle.layout.specs.declared.Counts.{Counts}
use Rattle.areas.specs.Areas.{lies_within, is_aachen, FaultlessTariff}
use Rattle.areas.proofs.Faultless.{faultless}
use Rattle.trip.specs.Record.{count_at}
use Rattle.trip.specs.Moments.{checkout_of}
use Rattle.trip.specs.declared.Ride.{Ride}
use Rattle.fare.specs.Parts.{BrokenAt, first_part}
use Rattle.fare.specs.Clauses.{EachRide}
use Rattle.fare.specs.Clauses as each
use Rattle.fare.proofs.Breaks.{said_broken}
use Rattle.fare.proofs.GoodTrips.{riding}
use Rattle.ledger.specs.declared.Window.{Window}
use Rattle.ledger.specs.Words.{word, trips_of, opening_of, last_out_of, edition_of, second_sum, all_sum, cover_word, paid_word}
use Rattle.ledger.specs.Windows.{in_window}
use Rattle.charging.specs.Caps.{tree_of}
use Rattle.charging.specs.Charging.{carries, charges_of}
use Rattle.cycles.specs.Bicycles.{new_cover, payment, bicycle_charge, paid_with}
use Rattle.charging.specs.Clauses.{Rideable}
use Rattle.charging.specs.After.{posted}
use Rattle.charging.specs.InWords.{ChargeSays}
use Rattle.cycles.specs.InWords.{CoverSays, BicycleSays}
use Rattle.charging.proofs.Trees.{lies-within}
use Rattle.charging.proofs.ChargeLaws.{rider_stands, bicycle_stands, ride_words}
use Rattle.charging.proofs.PostedLaws.{
  posted_size,
  posted_trips,
  posted_opening,
  posted_out,
  posted_edition,
  posted_sum,
  posted_cover,
  posted_uncovered,
  posted_paid,
  posted_unpaid,
}
use Rattle.ledger.specs.Clauses.{WindowRight}
use Rattle.ledger.proofs.WindowLaws.{window_room}
use Rattle.posting.proofs.NextPart.{next_right}
use Rattle.posting.proofs.SoundAgain.{posted_sound}
use Rattle.charging.proofs.InWords.{charge_says, charge_one}
use Rattle.cycles.proofs.InWords.{per_trip_one, cover_says, cover_one, bicycle_says}
use Rattle.ledger.proofs.BookWords.{each_word, words_same, window_bytes}
use Rattle.posting.proofs.PostedBytes.{posted_bytes}
use Rattle.charging.proofs.GoodRides.{good_first}
use Rattle.statement.specs.Record.{Part}
use Rattle.settle.specs.Outcome.{part_of, one_more, parts_of, posted_all}
use Rattle.promises.specs.Conditions.{trip_rides, AcceptedBy, minutes_of, ride_on, words_before, words_between}
use Rattle.promises.specs.Books.{CountsIn, Takes, charge_of, BookSays, BooksSay, none, more}
use Rattle.promises.proofs.RideLaws.{on_another}
use Rattle.promises.proofs.Answers.{windowBy, tariffBy, countsBy, read_by, clear, alone-by, covers-by, charged-rides, right-window, some-parts}

-- ---- One ride.

-- a sum that grows by an amount where two tests hold takes it where the words of both do
takes :
    {here : Type 0} (s v : Bool) (amount old new : ℕ) → new ≡ old + cond s (cond v amount 0) 0 → (here → (s ≡ true) × (v ≡ true))
    → (s ≡ true → v ≡ true → here) → Takes here amount old new
takes true true amount old new e to from = record { grows = λ _. e; stays = λ out. absurd (out (from refl refl)) }
takes true false amount old new e to from = record { grows = λ h. absurd (false≢true (to h).1); stays = λ _. e ∙ add-zero old }
takes false v amount old new e to from = record { grows = λ h. absurd (false≢true (to h).0); stays = λ _. e ∙ add-zero old }

module _ {tariff : List ℕ} {counts : Counts} {book : List ℕ} {ride : Ride} {window : Window} (ok : Rideable tariff counts book window.current ride)
    {checkout : ℕ} (right : WindowRight book window checkout) where
  abbrev w : List ℕ
  w = in_window window.current book

  abbrev charges : List ℕ
  charges = charges_of tariff counts w ride

  abbrev new : List ℕ
  new = posted tariff counts book window checkout ride

  t : FaultlessTariff tariff counts
  t = faultless tariff counts ok.read

  -- the ride's area lies within an area as it does in the tree of areas
  abbrev in_tree : ℕ → Bool
  in_tree area = within (tree_of tariff counts false) ride.area area

  inside : (area : ℕ) → lies_within tariff ride.area area ≡ in_tree area
  inside area = lies-within t false ride.area area ok.area

  all_takes :
      (rider area : ℕ) → rider < 21 → area < 32
      → Takes (CountsIn tariff counts ride rider area) (charge_of ride charges rider) (all_sum w rider area) (all_sum new rider area)
  all_takes rider area hr ha =
      takes (in_tree area) (carries ride.party rider) (charge_of ride charges rider) (all_sum w rider area) (all_sum new rider area)
      (posted_sum window ok checkout (window_room right) false rider area hr ha)
      (λ c. (sym (inside area) ∙ c.inside, c.on_trip)) (λ s v. record { on_trip = v; inside = inside area ∙ s })

  second_takes :
      (rider area : ℕ) → rider < 21 → area < 32
      → Takes ((ride.class ≡ 2) × CountsIn tariff counts ride rider area) (charge_of ride charges rider) (second_sum w rider area)
      (second_sum new rider area)
  second_takes rider area hr ha =
      takes (eqb ride.class 2 && in_tree area) (carries ride.party rider) (charge_of ride charges rider) (second_sum w rider area)
      (second_sum new rider area) (posted_sum window ok checkout (window_room right) true rider area hr ha)
      (λ c. (rw (eq-eqb ride.class 2 c.0) (sym (inside area) ∙ c.1.inside), c.1.on_trip))
      (λ s v. (
        eqb-true ride.class 2 (both_left (eqb ride.class 2) (in_tree area) s),
        record { on_trip = v; inside = inside area ∙ both_right (eqb ride.class 2) (in_tree area) s },
      ))

  -- a bicycle's payments grow by its charge where its new covering area is of kind 8
  payments_take :
      (area old paid : ℕ) {charge paid' : ℕ} → charge ≡ bicycle_charge tariff counts area old paid
      → paid' ≡ paid_with tariff counts (new_cover tariff counts area old) paid
      → Takes (is_aachen tariff (new_cover tariff counts area old) ≡ true) charge paid paid'
  unfolding bicycle_charge paid_with
  payments_take area old paid is leaves = rw (is, leaves) (go (is_aachen tariff (new_cover tariff counts area old)) refl)
    where
      go :
          (aachen : Bool) → is_aachen tariff (new_cover tariff counts area old) ≡ aachen
          → Takes (is_aachen tariff (new_cover tariff counts area old) ≡ true) (bicycle_charge tariff counts area old paid) paid
          (paid_with tariff counts (new_cover tariff counts area old) paid)
      go true e = record { grows = λ _. rw e; stays = λ out. absurd (out e) }
      go false e = record { grows = λ aachen. absurd (false≢true (sym e ∙ aachen)); stays = λ _. rw e }

  -- What a ride leaves in the book is what the words say.
  pub ride_says : BookSays tariff counts w window checkout ride charges new
  ride_says =
      let room = window_room right in
      let head = right.head in
      let known = (ride_words ok).covers in
      record {
        size = posted_size window ok checkout room;
        bytes = posted_bytes t ride ok.area book window checkout;
        trips = posted_trips window ok checkout room (omega arith);
        opening = posted_opening window ok checkout room (omega arith);
        last_out = posted_out window ok checkout room (omega arith);
        edition = posted_edition window ok checkout room (omega (arith, right.small));
        charged = λ rider on.
            subst (ChargeSays tariff counts w ride rider) (sym (rider_stands tariff counts w ride rider on)) (charge_says t w ride ok.area rider);
        bicycles_charged = λ k h.
            subst (BicycleSays tariff counts ride.area (cover_word w k) (paid_word w k)) (sym (bicycle_stands tariff counts w ride k h))
            (bicycle_says t ride.area (cover_word w k) (paid_word w k) ok.area (known k (omega (arith, ok.bicycles))));
        all_classes = all_takes;
        second_class = second_takes;
        covered = λ k h.
            record {
              new = new_cover tariff counts ride.area (cover_word w k);
              cover_is = posted_cover window ok checkout room k h;
              covers = cover_says t ride.area (cover_word w k) ok.area (known k (omega (arith, ok.bicycles)));
              payments =
                  payments_take ride.area (cover_word w k) (paid_word w k) (bicycle_stands tariff counts w ride k h)
                  (posted_paid window ok checkout room k h);
            };
        uncovered = λ k h few. (posted_uncovered window ok checkout room k h few, posted_unpaid window ok checkout room k h few);
      }

-- ---- The rides of a trip.

-- What rides leave in the book, one after another, is what the words say, where the window has room for them.
pub rides_say :
    {tariff : List ℕ} {counts : Counts} {checkout : ℕ} (rides : List Ride) {book : List ℕ} {window : Window} → EachRide (Rideable tariff counts book window.current) rides
    → (window.trips + 1 ≤ 256 → WindowRight book window checkout) → window.trips + length rides ≤ 256
    → BooksSay tariff counts checkout book window (parts_of tariff counts book window checkout rides)
    (posted_all tariff counts book window checkout rides)
unfolding parts_of part_of posted_all one_more
rides_say [] oks right few = none
rides_say {tariff} {counts} {checkout} (ride ∷ rides) {book} {window} (each.more ok oks) right few =
    let here = right (omega arith) in
    more (ride_says ok here)
    (rides_say rides (on_another (posted tariff counts book window checkout ride) (posted_sound ok here) oks)
    (λ room. next_right ok here (omega arith)) (omega arith))

-- The first three words of the book and its last after one part or more of a window.
pub record HeadSays (window : Window) (checkout parts : ℕ) (new : List ℕ) : Type 0 where
  pub trips : trips_of new ≡ window.trips + parts
  pub opening : opening_of new ≡ window.opening.0
  pub last_out : last_out_of new ≡ checkout
  pub edition : edition_of new ≡ window.edition

pub head_says :
    {tariff : List ℕ} {counts : Counts} {checkout : ℕ} {book new : List ℕ} {window : Window} (parts : List Part)
    → BooksSay tariff counts checkout book window parts new → 1 ≤ length parts → HeadSays window checkout (length parts) new
unfolding one_more
head_says [] says some = absurd (omega arith)
head_says (part ∷ []) (more s none) some = record { trips = s.trips; opening = s.opening; last_out = s.last_out; edition = s.edition }
head_says {book = book} (part ∷ next ∷ parts) (more {between = between} s rest) some =
    let after = head_says {book = between} (next ∷ parts) rest (omega arith) in
    record { trips = omega (arith, after.trips); opening = after.opening; last_out = after.last_out; edition = after.edition }

module _ {file book bytes : List ℕ} {room : ℕ} {new : List ℕ} {parts : List Part} (a : AcceptedBy file book bytes room new parts) where
  abbrev tariff : List ℕ
  tariff = tariffBy a

  abbrev counts : Counts
  counts = countsBy a

  abbrev window : Window
  window = windowBy a

  -- What an accepted trip leaves in the book is what the words say, part by part.
  pub book_says : BooksSay tariff counts (checkout_of bytes) book window parts new
  book_says =
      rw (a.new_is, a.parts_is) (rides_say (trip_rides tariff counts bytes) (charged-rides a) (λ room. right-window a) (clear a).few)

  -- Where the trip is broken, the words that its second part is charged on are those that the first leaves.
  pub between_says :
      (c : ℕ) → BrokenAt tariff counts bytes (count_at bytes 0) c
      → BookSays tariff counts (words_before window book) window (checkout_of bytes) (ride_on tariff counts bytes 0 c (minutes_of bytes))
      (charges_of tariff counts (words_before window book) (ride_on tariff counts bytes 0 c (minutes_of bytes)))
      (words_between tariff counts window book bytes c)
  unfolding first_part
  between_says c is =
      let there = riding (read_by a) (clear a).good in
      let ok =
      good_first tariff counts book window.current bytes (read_by a) (alone-by a) (covers-by a) (clear a).good c (said_broken there c is)
      in
      ride_says ok (right-window a)

  -- So each part counts as one of the window's trips: a broken trip as two. The opening and the edition are the window's, the last check-out the
  -- trip's.
  pub book_head : HeadSays window (checkout_of bytes) (length parts) new
  book_head = head_says parts book_says (some-parts a)

-- ---- There is no other.

-- a sum that takes the same amount from the same has the same after it
takes_one :
    {here : Type 0} {amount amount' old new new' : ℕ} → Dec here → (here → amount ≡ amount') → Takes here amount old new → Takes here amount' old new'
    → new ≡ new'
takes_one (yes h) same s s' = s.grows h ∙ rw (same h) (sym (s'.grows h))
takes_one (no out) same s s' = s.stays out ∙ sym (s'.stays out)

-- whether a ride counts in a rider's sums is decided
counts_or_not : (tariff : List ℕ) (counts : Counts) (ride : Ride) (rider area : ℕ) → Dec (CountsIn tariff counts ride rider area)
counts_or_not tariff counts ride rider area = go (carries ride.party rider) refl (lies_within tariff ride.area area) refl
  where
    go :
        (on : Bool) → carries ride.party rider ≡ on → (inside : Bool) → lies_within tariff ride.area area ≡ inside
        → Dec (CountsIn tariff counts ride rider area)
    go true e true e' = yes (record { on_trip = e; inside = e' })
    go true e false e' = no (λ c. false≢true (sym e' ∙ c.inside))
    go false e inside e' = no (λ c. false≢true (sym e ∙ c.on_trip))

second_or_not :
    (tariff : List ℕ) (counts : Counts) (ride : Ride) (rider area : ℕ) → Dec ((ride.class ≡ 2) × CountsIn tariff counts ride rider area)
second_or_not tariff counts ride rider area =
    elim (ℕ_discrete ride.class 2) [
      | yes two ↦ elim (counts_or_not tariff counts ride rider area) [ yes c ↦ yes (two, c) | no out ↦ no (λ c. out c.1) ]
      | no other ↦ no (λ c. other c.0)
    ]

aachen_or_not : (tariff : List ℕ) (counts : Counts) (area : ℕ) → Dec (is_aachen tariff area ≡ true)
aachen_or_not tariff _ area = go (is_aachen tariff area)
  where
    go : (aachen : Bool) → Dec (aachen ≡ true)
    go true = yes refl
    go false = no false≢true

-- two charges that say what a bicycle pays per trip are the same
paid_one :
    {tariff : List ℕ} {counts : Counts} {area old paid charge charge' new : ℕ} → FaultlessTariff tariff counts
    → BicycleSays tariff counts area old paid charge → BicycleSays tariff counts area old paid charge' → CoverSays tariff counts area old new
    → is_aachen tariff new ≡ true → charge ≡ charge'
paid_one {tariff} {counts} {area} {old} {paid} {new = cover} right s s' covers aachen = is s ∙ sym (is s')
  where
    is : {c : ℕ} → BicycleSays tariff counts area old paid c → c ≡ payment tariff counts cover paid
    is b =
        let same = cover_one right b.covers covers in
        per_trip_one (b.per_trip (ap (is_aachen tariff) same ∙ aachen)) ∙ ap (λ (x : ℕ). payment tariff counts x paid) same

-- The words say one book of bytes alone.
module _ {tariff : List ℕ} {counts : Counts} (t : FaultlessTariff tariff counts) {w : List ℕ} {window : Window} {checkout : ℕ} {ride : Ride} where
  pub book_one :
      {charges charges' new new' : List ℕ} → BookSays tariff counts w window checkout ride charges new
      → BookSays tariff counts w window checkout ride charges' new' → Bytes new → Bytes new' → new ≡ new'
  book_one {charges} {charges'} {new} {new'} s s' bytes bytes' =
      words_same new new' s.size s'.size bytes bytes'
      (each_word (λ i. word new i ≡ word new' i) (s.trips ∙ sym s'.trips) (s.opening ∙ sym s'.opening)
      (s.last_out ∙ sym s'.last_out) sums (λ k few. (bicycles k few).0) (λ k few. (bicycles k few).1) (s.edition ∙ sym s'.edition))
    where
      same : (rider area : ℕ) → CountsIn tariff counts ride rider area → charge_of ride charges rider ≡ charge_of ride charges' rider
      same rider area c = charge_one (s.charged rider c.on_trip) (s'.charged rider c.on_trip)

      sums :
          (rider area : ℕ) → rider < 21 → area < 32
          → (second_sum new rider area ≡ second_sum new' rider area) × (all_sum new rider area ≡ all_sum new' rider area)
      sums rider area hr ha = (
        takes_one (second_or_not tariff counts ride rider area) (λ c. same rider area c.1) (s.second_class rider area hr ha)
            (s'.second_class rider area hr ha),
        takes_one (counts_or_not tariff counts ride rider area) (same rider area) (s.all_classes rider area hr ha) (s'.all_classes rider area hr ha),
      )

      bicycles : (k : ℕ) → k < 10 → (cover_word new k ≡ cover_word new' k) × (paid_word new k ≡ paid_word new' k)
      bicycles k few =
          elim (dec_lt k ride.party.bicycles) [
            | yes on ↦
                let b = s.covered k on in
                let b' = s'.covered k on in
                let same-cover = cover_one t b.covers b'.covers in (
                  b.cover_is ∙ ap (λ (x : ℕ). 1 + x) same-cover ∙ sym b'.cover_is,
                  takes_one (aachen_or_not tariff counts b.new)
                      (λ aachen. paid_one t (s.bicycles_charged k on) (s'.bicycles_charged k on) b.covers aachen) b.payments
                      (rw (← same-cover) at b'.payments),
                )
            | no off ↦
                let (cover, paid) = s.uncovered k (omega arith) few in
                let (cover', paid') = s'.uncovered k (omega arith) few in
                (cover ∙ sym cover', paid ∙ sym paid')
          ]

-- And so of the parts of a trip.
pub books_one :
    {tariff : List ℕ} {counts : Counts} {checkout : ℕ} {book : List ℕ} {window : Window} {parts : List Part} {new new' : List ℕ}
    → FaultlessTariff tariff counts → Bytes book → BooksSay tariff counts checkout book window parts new
    → BooksSay tariff counts checkout book window parts new' → new ≡ new'
books_one t bytes none none = refl
books_one {book = book} {window} t bytes (more s rest) (more s' rest') =
    let old = window_bytes window.current book bytes in
    let same = book_one t s s' (s.bytes old) (s'.bytes old) in
    books_one t (s.bytes old) rest (rw (← same) at rest')

-- So the new book of an accepted trip is the only one.
pub book_only :
    {file book bytes : List ℕ} {room : ℕ} {new : List ℕ} {parts : List Part} (a : AcceptedBy file book bytes room new parts) → Bytes book
    → (other : List ℕ) → BooksSay (tariffBy a) (countsBy a) (checkout_of bytes) book (windowBy a) parts other → other ≡ new
book_only a bytes other says = books_one (faultless (tariffBy a) (countsBy a) (read_by a)) bytes says (book_says a)
