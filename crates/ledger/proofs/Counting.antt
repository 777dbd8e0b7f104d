-- What the words that count have, in the open window and in the next.
-- Assumes nothing.
use Rattle.std.proofs.Common.{◌≡◌, ℕ, ◌*◌, ◌<◌, ◌≤◌, Bool, true, false, cond, List, length, refl, ◌∙◌, subst, arith}
use Rattle.units.specs.Price.{most_price}
use Rattle.ledger.specs.Words.{cover_word, paid_word, book_size, fresh_book, trips_of}
use Rattle.ledger.specs.Sound.{most_paid, covers_sound, sound_alone, sound}
use Rattle.ledger.specs.Windows.{in_window}
use Rattle.ledger.proofs.WordLaws.{word_fresh}
use Rattle.ledger.proofs.SoundLaws.{SoundBook, PairSound, told_alone, fresh_sound}

-- The words that count are sound under a tariff where the book is by itself and, in the open window, has bicycle words within the areas: in
-- the next window those of the old one do not count.
pub words_sound :
    (current : Bool) (book : List ℕ) (areas : ℕ) → sound_alone book ≡ true → (current ≡ true → covers_sound book areas ≡ true)
    → sound (in_window current book) areas ≡ true
words_sound true book areas alone covers = told_alone book areas alone ∙ covers refl
words_sound false book areas alone covers = fresh_sound areas

-- what the words that count have: so many trips before, of which there may be 255; and what these trips can have left
pub record Counting (w : List ℕ) (areas before : ℕ) : Type 0 where
  pub size : length w ≡ book_size
  pub few : before ≤ 255
  pub pairs : (rider area : ℕ) → rider < 21 → area < 32 → PairSound w (before * most_price) rider area
  pub covers : (k : ℕ) → k < 10 → cover_word w k ≤ areas
  pub payments : (k : ℕ) → k < 10 → paid_word w k ≤ most_paid

-- The open window has the trips of the book, and the next window none.
pub counting :
    (current : Bool) (book : List ℕ) {areas : ℕ} → SoundBook (in_window current book) areas → (current ≡ true → trips_of book ≤ 255)
    → Counting (in_window current book) areas (cond current (trips_of book) 0)
counting true book s room = record { size = s.size; few = room refl; pairs = s.pairs; covers = s.covers; payments = s.payments }
counting false book s room =
    record {
      size = s.size;
      few = omega arith;
      pairs = λ rider area hr ha. subst (λ (n : ℕ). PairSound fresh_book (n * most_price) rider area) (word_fresh 0) (s.pairs rider area hr ha);
      covers = s.covers;
      payments = s.payments;
    }
