-- A bicycle's payments per trip over a run of settlings and postings from a fresh book under one file: in areas of kind 8 no payment is above
-- the price per trip, those of a window never pass the cap, and a payment is less than the price only where the cap is then full.
-- Assumes nothing.
use Prim.Native.Nat.{ℕ, ◌+◌, ◌≤◌, ◌<◌}
use native.Mathlib.Omega.{arith}
use native.Mathlib.Decide.{dec_lt}
use mathlib.Core.Path.{◌≡◌, refl, sym, ap, subst, ◌∙◌}
use mathlib.Core.Bool.{Bool, true, false, cond}
use mathlib.Core.List.{List, [], ◌∷◌}
use lib.ListN.{length}
use Rattle.layout.specs.declared.Counts.{Counts}
use Rattle.areas.specs.Areas.{is_aachen}
use Rattle.editions.specs.declared.Editions.{Editions}
use Rattle.editions.specs.Editions.{counts_in, tariff_in, in_force}
use Rattle.editions.specs.Reading.{ReadFile}
use Rattle.areas.proofs.Faultless.{faultless}
use Rattle.trip.specs.Moments.{checkin_of, checkout_of}
use Rattle.trip.specs.declared.Ride.{Ride}
use Rattle.fare.specs.Clauses.{EachRide}
use Rattle.fare.specs.Clauses as each
use Rattle.ledger.specs.declared.Window.{Window}
use Rattle.ledger.specs.Words.{fresh_book, edition_of, cover_word, paid_word}
use Rattle.ledger.specs.Windows.{belongs, window_of, in_window}
use Rattle.charging.specs.Clauses.{Rideable}
use Rattle.cycles.specs.InWords.{WithinCap, RidePays}
use Rattle.charging.specs.After.{posted}
use Rattle.charging.proofs.ChargeLaws.{ride_words}
use Rattle.cycles.proofs.InWords.{cover_says, cover_one}
use Rattle.posting.proofs.Paying.{within_fresh, ride_pays, within_again}
use Rattle.ledger.specs.Clauses.{WindowRight}
use Rattle.ledger.proofs.WindowLaws.{window_room}
use Rattle.posting.proofs.NextPart.{next_right}
use Rattle.posting.proofs.SoundAgain.{posted_sound}
use Rattle.statement.specs.Record.{Part}
use Rattle.deciding.specs.Refusals.{window_in, tariff_for, counts_for}
use Rattle.settle.specs.Outcome.{Outcome, refused, accepted, part_of, one_more, parts_of, posted_all, book_after}
use Rattle.settle.specs.Steps.{Step, offer_of, step_outcome, book_after_each, under, book_after_steps}
use Rattle.promises.specs.Conditions.{trip_rides, AcceptedBy, words_before}
use Rattle.promises.specs.Runs.{book_of, PaysInTurn, pays_no_more, pays_on, pays_off}
use Rattle.promises.proofs.RideLaws.{on_another}
use Rattle.promises.proofs.Answers.{windowBy, tariffBy, countsBy, clear, charged-rides, some-rides, right-window}
use Rattle.promises.proofs.Books.{ride_says, book_head}
use Rattle.promises.proofs.RunLaws.{step_by}

-- a bicycle's payments in a book are within the cap of its covering area
abbrev Within : List ℕ → Counts → ℕ → List ℕ → Type 0
Within tariff counts k book = WithinCap tariff counts (cover_word book k) (paid_word book k)

-- what is paid in an area is paid in the same area, however that is told
pays_alike :
    {tariff : List ℕ} {counts : Counts} {cover cover' paid charge paid' : ℕ} → cover ≡ cover' → RidePays tariff counts cover' paid charge paid'
    → RidePays tariff counts cover paid charge paid'
pays_alike same pays = rw same pays

module _ {tariff : List ℕ} {counts : Counts} {checkout k : ℕ} (few : k < 10) where
  -- one ride, and then others
  one_pays :
      {book : List ℕ} {ride : Ride} {window : Window} (ok : Rideable tariff counts book window.current ride) (right : WindowRight book window checkout)
      → Within tariff counts k (in_window window.current book) → {parts : List Part} {old' paid' : ℕ}
      → PaysInTurn tariff counts k (cover_word (posted tariff counts book window checkout ride) k)
      (paid_word (posted tariff counts book window checkout ride) k) parts old' paid'
      → PaysInTurn tariff counts k (cover_word (in_window window.current book) k) (paid_word (in_window window.current book) k)
      (part_of tariff counts book window ride ∷ parts) old' paid'
  unfolding part_of
  one_pays {book} {ride} {window} ok right s rest =
      let w = in_window window.current book in
      let t = faultless tariff counts ok.read in
      let says = ride_says ok right in
      elim (dec_lt k ride.party.bicycles) [
        | yes on ↦
            let known = (ride_words ok).covers k few in
            let takes = says.covered k on in
            let same = cover_one t takes.covers (cover_says t ride.area (cover_word w k) ok.area known) in
            pays_on {part = part_of tariff counts book window ride} on takes
            (λ aachen.
            pays_alike same (ride_pays window ok checkout (window_room right) k on s (ap (is_aachen tariff) (sym same) ∙ aachen)))
            rest
        | no off ↦
            let past : ride.party.bicycles ≤ k = omega arith in
            let (cover, paid) = says.uncovered k past few in
            pays_off past (rw (cover, paid) at rest)
      ]

  -- the rides of a trip: what the bicycle pays, and that its payments stay within the cap
  rides_pay :
      (ride : Ride) (rides : List Ride) {book : List ℕ} {window : Window} → EachRide (Rideable tariff counts book window.current) (ride ∷ rides)
      → WindowRight book window checkout → window.trips + (1 + length rides) ≤ 256 → Within tariff counts k (in_window window.current book)
      → PaysInTurn tariff counts k (cover_word (in_window window.current book) k) (paid_word (in_window window.current book) k)
      (parts_of tariff counts book window checkout (ride ∷ rides)) (cover_word (posted_all tariff counts book window checkout (ride ∷ rides)) k)
      (paid_word (posted_all tariff counts book window checkout (ride ∷ rides)) k)
      × Within tariff counts k (posted_all tariff counts book window checkout (ride ∷ rides))
  unfolding parts_of posted_all one_more
  rides_pay ride [] {book} {window} (each.more ok oks) right room s =
      (one_pays ok right s pays_no_more, within_again window ok checkout (window_room right) k few s)
  rides_pay ride (next ∷ rides) {book} {window} (each.more ok oks) right room s =
      let (pays, within) =
      rides_pay next rides (on_another (posted tariff counts book window checkout ride) (posted_sound ok right) oks)
      (next_right ok right (omega arith)) (omega arith) (within_again window ok checkout (window_room right) k few s)
      in
      (one_pays ok right s pays, within)

-- a book's payments by the edition that it names
abbrev pub WithinIn : List ℕ → Editions → ℕ → List ℕ → Type 0
WithinIn file editions k book = Within (tariff_in file editions (edition_of book)) (counts_in editions (edition_of book)) k book

-- the words that count for a trip are within the cap by its window's edition: the book's in the open window, and another has no payments
within_words :
    (file : List ℕ) (editions : Editions) (k : ℕ) (book : List ℕ) (next : ℕ) (current : Bool) → WithinIn file editions k book
    → Within (tariff_in file editions (cond current (edition_of book) next)) (counts_in editions (cond current (edition_of book) next)) k
    (in_window current book)
within_words file editions k book next true s = s
within_words file editions k book next false s = within_fresh (tariff_in file editions next) (counts_in editions next) k

-- An accepted trip.
module _ {file book bytes : List ℕ} {room : ℕ} {new : List ℕ} {parts : List Part} (a : AcceptedBy file book bytes room new parts) {k : ℕ}
    (few : k < 10) (s : WithinIn file a.editions k book) where
  abbrev tariff : List ℕ
  tariff = tariffBy a

  abbrev counts : Counts
  counts = countsBy a

  abbrev window : Window
  window = windowBy a

  words : Within tariff counts k (in_window window.current book)
  unfolding window_of
  words = within_words file a.editions k book (in_force a.editions (checkin_of bytes)) (belongs book (checkout_of bytes)) s

  trip_pays :
      PaysInTurn tariff counts k (cover_word (words_before window book) k) (paid_word (words_before window book) k) parts (cover_word new k) (paid_word new k)
      × Within tariff counts k new
  trip_pays = rw (a.new_is, a.parts_is) (go (trip_rides tariff counts bytes) (charged-rides a) (some-rides a) (clear a).few)
    where
      go :
          (rides : List Ride) → EachRide (Rideable tariff counts book window.current) rides → 1 ≤ length rides → window.trips + length rides ≤ 256
          → PaysInTurn tariff counts k (cover_word (words_before window book) k) (paid_word (words_before window book) k)
          (parts_of tariff counts book window (checkout_of bytes) rides) (cover_word (posted_all tariff counts book window (checkout_of bytes) rides) k)
          (paid_word (posted_all tariff counts book window (checkout_of bytes) rides) k)
          × Within tariff counts k (posted_all tariff counts book window (checkout_of bytes) rides)
      go [] oks some fits = absurd (omega arith)
      go (ride ∷ rides) oks some fits = rides_pay few ride rides oks (right-window a) (omega arith) words

  -- the new book names the window's edition
  pub within_new : WithinIn file a.editions k new
  within_new =
      subst (λ (edition : ℕ). Within (tariff_in file a.editions edition) (counts_in a.editions edition) k new) (sym (book_head a).edition)
      trip_pays.1

module _ (file : List ℕ) (editions : Editions) (read : ReadFile file editions) (k : ℕ) (few : k < 10) where
  pub within_outcome :
      (book : List ℕ) (step : Step) (outcome : Outcome) → step_outcome file book step ≡ outcome → WithinIn file editions k book
      → WithinIn file editions k (book_after outcome book)
  within_outcome book step (refused n place) e s = s
  within_outcome book step (accepted new parts) e s =
      let (a, same) = step_by read book step e in
      rw same at (within_new a few (rw (← same) at s))

  within_from : (run : List Step) (book : List ℕ) → WithinIn file editions k book → WithinIn file editions k (book_after_steps file book run)
  unfolding book_after_each under
  within_from [] book s = s
  within_from (step ∷ run) book s =
      within_from run (book_after (step_outcome file book step) book) (within_outcome book step (step_outcome file book step) refl s)

  -- After any run the payments are within the cap of the covering area, where that is of kind 8, by the edition that the book names.
  pub payments_within_cap :
      (run : List Step)
      → WithinCap (tariff_in file editions (edition_of (book_of file run))) (counts_in editions (edition_of (book_of file run))) (cover_word (book_of file run) k)
      (paid_word (book_of file run) k)
  payments_within_cap run =
      within_from run fresh_book (within_fresh (tariff_in file editions (edition_of fresh_book)) (counts_in editions (edition_of fresh_book)) k)

  -- And of a trip that is settled or posted behind a run, part by part, from the words that count for it to those that it leaves, by the tariff of
  -- its window's edition.
  pub bicycle_pays_per_trip :
      (run : List Step) (step : Step) {new : List ℕ} {parts : List Part} → step_outcome file (book_of file run) step ≡ accepted new parts
      → let book = book_of file run in
      let bytes = (offer_of step).bytes in
      let words = words_before (window_in editions book bytes) book in
      PaysInTurn (tariff_for file editions book bytes) (counts_for editions book bytes) k (cover_word words k) (paid_word words k) parts (cover_word new k)
      (paid_word new k)
  bicycle_pays_per_trip run step e =
      let (a, same) = step_by read (book_of file run) step e in
      rw same at (trip_pays a few (rw (← same) at (payments_within_cap run))).0
