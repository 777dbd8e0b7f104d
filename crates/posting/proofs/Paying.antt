-- What a ride charges a bicycle per trip, and what it leaves of its payments: in areas of kind 8 no payment is above the price per trip, the
-- payments of a window never pass the cap, and a payment is less than the price only where the cap is then full.
-- Assumes nothing.
use Prim.Native.Nat.{ℕ, ◌+◌, ◌-◌, ◌≤◌, ◌<◌}
use native.Mathlib.Nat.{le_trans}
use native.Mathlib.Omega.{arith}
use native.Mathlib.Decide.{ℕ_discrete, dec_lt}
use mathlib.Core.Path.{◌≡◌, refl, sym, ap, ◌∙◌}
use mathlib.Core.Bool.{Bool, true, false}
use mathlib.Core.List.{List}
use borrow.Author.Tests.{eqb-true}
use lib.ListN.{get_or}
use lib.Dec.{eqb}
use Rattle.layout.specs.declared.Counts.{Counts}
use Rattle.layout.specs.Layout.{aachen_kind}
use Rattle.layout.specs.Rules.{flat_of, kind_of}
use Rattle.areas.specs.Areas.{is_aachen, FaultlessTariff}
use Rattle.areas.proofs.Faultless.{faultless}
use Rattle.areas.proofs.Within.{state_common, kind_within, flat_within}
use Rattle.trip.specs.declared.Ride.{Ride}
use Rattle.ledger.specs.declared.Window.{Window}
use Rattle.ledger.specs.Words.{fresh_book, trips_of, cover_word, paid_place, paid_word}
use Rattle.ledger.specs.Windows.{in_window}
use Rattle.ledger.proofs.WordLaws.{word_fresh}
use Rattle.cycles.specs.Bicycles.{new_cover, payment, bicycle_charge, paid_with}
use Rattle.cycles.specs.InWords.{WithinCap, RidePays}
use Rattle.cycles.proofs.InWords.{per_trip_says, cover_says}
use Rattle.charging.specs.After.{posted}
use Rattle.charging.specs.Clauses.{Rideable}
use Rattle.charging.proofs.ChargeLaws.{bicycle_stands, ride_words}
use Rattle.charging.proofs.PostedLaws.{words_in, charges_in, posted_cover, posted_uncovered, posted_paid, posted_unpaid}

-- Where the new covering area is of kind 8, the charge is the payment per trip, and it is added.
module _ (tariff : List ℕ) (counts : Counts) where
  charge_paid :
      (area old paid : ℕ) → is_aachen tariff (new_cover tariff counts area old) ≡ true
      → bicycle_charge tariff counts area old paid ≡ payment tariff counts (new_cover tariff counts area old) paid
  unfolding bicycle_charge
  charge_paid area old paid aachen = rw aachen

  payment_added : (cover paid : ℕ) → is_aachen tariff cover ≡ true → paid_with tariff counts cover paid ≡ paid + payment tariff counts cover paid
  unfolding paid_with
  payment_added cover paid aachen = rw aachen

  -- In a fresh book nothing is paid, and no area covers a bicycle.
  pub within_fresh : (k : ℕ) → WithinCap tariff counts (cover_word fresh_book k) (paid_word fresh_book k)
  within_fresh k =
      record {
        unused = λ none. word_fresh (paid_place k);
        covered = λ cover is aachen. omega (arith, word_fresh (paid_place k));
      }

  pub within_window :
      (current : Bool) (book : List ℕ) (k : ℕ) → WithinCap tariff counts (cover_word book k) (paid_word book k)
      → WithinCap tariff counts (cover_word (in_window current book) k) (paid_word (in_window current book) k)
  within_window true book k s = s
  within_window false book k s = within_fresh k

module _ {tariff : List ℕ} {counts : Counts} (t : FaultlessTariff tariff counts) where
  -- the state is not of kind 8
  not_state : (a : ℕ) → is_aachen tariff a ≡ true → 0 < a
  not_state a aachen =
      elim (ℕ_discrete a 0) [
        | yes none ↦ absurd (omega (arith, eqb-true (kind_of tariff a) aachen_kind aachen, ap (kind_of tariff) none, state_common t))
        | no some ↦ omega arith
      ]

  -- a cap of kind 8 is at most that of a wider area of this kind: so payments within the old one are within the new one
  still_within :
      (area old paid : ℕ) → area < counts.areas → old ≤ counts.areas → WithinCap tariff counts old paid
      → is_aachen tariff (new_cover tariff counts area old) ≡ true → paid ≤ flat_of tariff (new_cover tariff counts area old)
  still_within area old paid here known s aachen =
      let new = new_cover tariff counts area old in
      elim (ℕ_discrete old 0) [
        | yes none ↦ omega (arith, s.unused none)
        | no used ↦
            let inner = old - 1 in
            let is : old ≡ 1 + inner = omega arith in
            let there : inner < counts.areas = omega arith in
            let inside = (cover_says t area old here known).contains.olds inner is in
            let same = kind_within t inner new there (not_state new aachen) inside in
            le_trans (s.covered inner is (ap (λ (kind : ℕ). eqb kind aachen_kind) (sym same) ∙ aachen)) (flat_within t inner new there same inside)
      ]

module _ {tariff : List ℕ} {counts : Counts} {book : List ℕ} {ride : Ride} (window : Window) (ok : Rideable tariff counts book window.current ride)
    (checkout : ℕ) (room : window.current ≡ true → trips_of book ≤ 255) where
  t : FaultlessTariff tariff counts
  t = faultless tariff counts ok.read

  -- A bicycle that an area of kind 8 covers pays per trip.
  pub ride_pays :
      (k : ℕ) → k < ride.party.bicycles → WithinCap tariff counts (cover_word (words_in window book) k) (paid_word (words_in window book) k)
      → is_aachen tariff (new_cover tariff counts ride.area (cover_word (words_in window book) k)) ≡ true
      → RidePays tariff counts (new_cover tariff counts ride.area (cover_word (words_in window book) k)) (paid_word (words_in window book) k)
      (get_or (charges_in tariff counts book window ride) (1 + ride.party.adults + ride.party.children + k) 0)
      (paid_word (posted tariff counts book window checkout ride) k)
  ride_pays k h s aachen =
      let old = cover_word (words_in window book) k in
      let paid = paid_word (words_in window book) k in
      let new = new_cover tariff counts ride.area old in
      let known = (ride_words ok).covers k (omega (arith, ok.bicycles)) in
      let under = still_within t ride.area old paid ok.area known s aachen in
      let pays = per_trip_says tariff counts new paid in
      let within = pays.within_cap under in
      let full = pays.full under in
      rw (
        bicycle_stands tariff counts (words_in window book) ride k h,
        charge_paid tariff counts ride.area old paid aachen,
        posted_paid window ok checkout room k h,
        payment_added tariff counts new paid aachen,
      )
      (record { added = refl; at_most_price = pays.at_most_price; within_cap = within; full = full })

  -- Its payments stay within the cap of the area that covers it, and so do those of the others.
  pub within_again :
      (k : ℕ) → k < 10 → WithinCap tariff counts (cover_word (words_in window book) k) (paid_word (words_in window book) k)
      → WithinCap tariff counts (cover_word (posted tariff counts book window checkout ride) k)
      (paid_word (posted tariff counts book window checkout ride) k)
  within_again k few s =
      elim (dec_lt k ride.party.bicycles) [
        | yes on ↦
            let new = new_cover tariff counts ride.area (cover_word (words_in window book) k) in
            let covers = posted_cover window ok checkout room k on in
            record {
              unused = λ none. absurd (omega arith);
              covered = λ cover is aachen.
                  let same : cover ≡ new = omega arith in
                  rw same
                  (ride_pays k on s (ap (is_aachen tariff) (sym same) ∙ aachen)).within_cap;
            }
        | no off ↦ rw (posted_uncovered window ok checkout room k (omega arith) few, posted_unpaid window ok checkout room k (omega arith) few) s
      ]
