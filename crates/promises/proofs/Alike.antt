-- Books the same in every word but the opening minute and the last check-out: a ride is charged the same on both, with the same cuts, and
-- leaves two such books, where its windows are of one edition.
-- Assumes nothing.
use Prim.Native.Nat.{ℕ, ◌+◌, ◌*◌, ◌≤◌, ◌<◌}
use native.Mathlib.Omega.{arith}
use native.Mathlib.Decide.{ℕ_discrete}
use mathlib.Core.Path.{◌≡◌, refl, sym, ◌∙◌}
use mathlib.Core.List.{List}
use mathlib.Core.Bool.{Bool, true, false}
use lib.ListN.{length}
use Rattle.wire.proofs.Number.{put_reads}
use Rattle.layout.specs.declared.Counts.{Counts}
use Rattle.areas.specs.Areas.{FaultlessTariff}
use Rattle.trip.specs.declared.Ride.{Ride}
use Rattle.ledger.specs.declared.Window.{Window}
use Rattle.ledger.specs.Words.{fresh_book, edition_place, word, put_word}
use Rattle.ledger.specs.Windows.{in_window, opened}
use Rattle.charging.specs.Charging.{charges_of}
use Rattle.charging.specs.Cuts.{cuts_of}
use Rattle.charging.specs.After.{posted}
use Rattle.ledger.proofs.WordLaws.{size_put, word_put_other}
use Rattle.charging.proofs.AlikeBooks.{
  Alike,
  Touches,
  charges_alike as charges-by-words,
  cuts_alike as cuts-by-words,
  posted_alike as posted-by-words,
}
use Rattle.promises.specs.Moved.{SameWords}

-- a word put in two books of one length leaves the words the same that were
put_same :
    (b b' : List ℕ) → length b' ≡ length b → (p v i : ℕ) → word b' i ≡ word b i → word (put_word b' p v) i ≡ word (put_word b p v) i
put_same b b' size p v i same =
    elim (ℕ_discrete p i) [
      | yes e ↦ rw e (put_reads 4 b b' (4 * i) v size)
      | no ne ↦ word_put_other b' p i v ne ∙ same ∙ sym (word_put_other b p i v ne)
    ]

same_self : (b : List ℕ) → SameWords b b
same_self b = record { size = refl; trips = refl; sums = λ i h. refl }

-- the same word put in both, wherever it stands
words_alike : Alike SameWords (λ i. 3 ≤ i)
words_alike =
    record {
      same = λ b b' s. s.sums;
      put = λ b b' s p v.
          record {
            size = size_put b' p v ∙ s.size ∙ sym (size_put b p v);
            trips = put_same b b' s.size p v 0 s.trips;
            sums = λ i h. put_same b b' s.size p v i (s.sums i h);
          };
    }

-- two words put where the books may differ
put_between : {b b' : List ℕ} → SameWords b b' → (p v v' : ℕ) → 1 ≤ p → p ≤ 2 → SameWords (put_word b p v) (put_word b' p v')
put_between {b} {b'} s p v v' low high =
    record {
      size = size_put b' p v' ∙ s.size ∙ sym (size_put b p v);
      trips = word_put_other b' p 0 v' (λ e. omega arith) ∙ s.trips ∙ sym (word_put_other b p 0 v (λ e. omega arith));
      sums = λ i h. word_put_other b' p i v' (λ e. omega arith) ∙ s.sums i h ∙ sym (word_put_other b p i v (λ e. omega arith));
    }

-- a ride touches the words from the third on alone
touches : (counts : Counts) (ride : Ride) → Touches (λ i. 3 ≤ i) counts ride
touches counts ride =
    record {
      adults = λ i h a ha. (omega arith, omega arith);
      children = λ i h a ha. (omega arith, omega arith);
      bicycles = λ i h. (omega arith, omega arith);
    }

-- the window's words put in both, with the same trips and edition
opened_same :
    (window window' : Window) (checkout checkout' : ℕ) {b b' : List ℕ} → SameWords b b' → window'.trips ≡ window.trips
    → window'.edition ≡ window.edition → SameWords (opened window checkout b) (opened window' checkout' b')
unfolding opened
opened_same window window' checkout checkout' {b} {b'} s trips edition =
    rw edition
    (words_alike.put _ _
    (put_between
    (put_between (rw trips (words_alike.put b b' s 0 (window.trips + 1))) 1 window.opening.0 window'.opening.0 (omega arith) (omega arith))
    2 checkout checkout' (omega arith) (omega arith))
    edition_place window.edition)

-- The words that count in a window: both books', or a fresh book's.
pub window_same : (current : Bool) {book book' : List ℕ} → SameWords book book' → SameWords (in_window current book) (in_window current book')
window_same true s = s
window_same false s = same_self fresh_book

pub fresh_same : SameWords fresh_book fresh_book
fresh_same = same_self fresh_book

module _ {tariff : List ℕ} {counts : Counts} (t : FaultlessTariff tariff counts) (ride : Ride) (there : ride.area < counts.areas) where
  -- A ride's charges go by the sums, covering areas and payments alone.
  pub charges_same : (w w' : List ℕ) → SameWords w w' → charges_of tariff counts w' ride ≡ charges_of tariff counts w ride
  charges_same = charges-by-words words_alike t ride there (touches counts ride)

  -- And so do its cuts.
  pub cuts_same : (w w' : List ℕ) → SameWords w w' → cuts_of tariff counts w' ride ≡ cuts_of tariff counts w ride
  cuts_same = cuts-by-words words_alike t ride there (touches counts ride)

  -- A ride leaves two such books on two such books.
  pub posted_same :
      (window window' : Window) (checkout checkout' : ℕ) {book book' : List ℕ} → SameWords book book' → window'.current ≡ window.current
      → window'.trips ≡ window.trips → window'.edition ≡ window.edition
      → SameWords (posted tariff counts book window checkout ride) (posted tariff counts book' window' checkout' ride)
  posted_same window window' checkout checkout' {book} {book'} s current trips edition =
      let words : SameWords (in_window window.current book) (in_window window'.current book') =
      rw current (window_same window.current s) in
      posted-by-words words_alike t ride there (touches counts ride) window window' checkout checkout' book book' words
      (opened_same window window' checkout checkout' words trips edition)
