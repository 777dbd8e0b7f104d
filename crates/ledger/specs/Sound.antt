-- Rules, section 12: when a book is sound.
use Rattle.std.specs.Prelude.{ℕ, ◌+◌, ◌*◌, Bool, cond, ◌&&◌, leb, List, length, ◌==◌, nat_eq, nat_le}
use Rattle.units.specs.Day.{day_minutes}
use Rattle.units.specs.Price.{most_price}
use Rattle.calendar.specs.Stamps.{last_minute}
use Rattle.wire.specs.Each.{each}
use Rattle.ledger.specs.Words.{book_size, book_words, word, pairs, pair_at, trips_of, opening_of, last_out_of, cover_word, paid_word, edition_of}

-- word 0 is 0 and all others are 0
unfoldable pub all_zero : List ℕ → Bool
all_zero book = each book_words (λ i. nat_eq (word book i) 0)

-- word 0 is 1..256, opening ≤ last check-out ≤ opening + 1,440, last check-out ≤ 52,595,999
abbrev pub head_sound : ℕ → ℕ → ℕ → Bool
head_sound trips opening last =
    nat_le 1 trips && nat_le trips 256 && nat_le opening last && nat_le last last_minute && nat_le last (opening + day_minutes)

-- of every rider's pair in every area: each second-class sum ≤ its all-classes sum ≤ most
unfoldable pub pairs_sound : List ℕ → ℕ → Bool
pairs_sound book most = each pairs (λ i. nat_le (word book (pair_at i)) (word book (pair_at i + 1)) && nat_le (word book (pair_at i + 1)) most)

-- each bicycle word is at most the tariff's number of areas
unfoldable pub covers_sound : List ℕ → ℕ → Bool
covers_sound book areas = each 10 (λ i. leb (cover_word book i) areas)

-- each bicycle's payments are at most 15,360,000: 256 trips at the most that a price per trip is
abbrev pub most_paid : ℕ
most_paid = 15360000

unfoldable pub payments_sound : List ℕ → Bool
payments_sound book = each 10 (λ i. leb (paid_word book i) most_paid)

-- A book by itself: it has its length, and either word 0 is 0 and all others are 0, or it is in use: all sums ≤ word 0 × the most that a price is,
-- and its window has an edition.
unfoldable pub sound_alone : List ℕ → Bool
sound_alone book =
    (length book == book_size)
    && cond (trips_of book == 0) (all_zero book)
    (head_sound (trips_of book) (opening_of book) (last_out_of book)
    && (pairs_sound book (trips_of book * most_price) && (payments_sound book && nat_le 1 (edition_of book))))

-- A book under a tariff: sound by itself, and its bicycle words are within the tariff's areas, as those of a book without trips always are.
unfoldable pub sound : List ℕ → ℕ → Bool
sound book areas = sound_alone book && covers_sound book areas
