-- A book is its words: each word is one of those that the rules name, and a book of bytes is determined by them.
-- Assumes nothing.
use Rattle.std.proofs.Common.{◌≡◌, ℕ, zero, suc, ◌+◌, ◌-◌, ◌*◌, ◌/◌, ◌%◌, ◌<◌, Bool, true, false, List, length, get_or, replicate, sym, ◌∙◌, subst, add-zero, arith, ext_get_or}
use native.Mathlib.Decide.{ℕ_discrete, dec_lt}
use Rattle.wire.specs.Number.{get_le, Bytes}
use Rattle.ledger.specs.Words.{book_size, book_words, word, pair_place, cover_place, paid_place, edition_place}
use Rattle.ledger.specs.Windows.{in_window}

-- ---- The words there are.

-- Each word is the trips, the opening, the last check-out, one of a rider's two sums in an area, a bicycle's covering area or payments, or the
-- edition.
pub each_word :
    (P : ℕ → Type 0) → P 0 → P 1 → P 2 → ((rider area : ℕ) → rider < 21 → area < 32 → P (pair_place rider area) × P (pair_place rider area + 1))
    → ((k : ℕ) → k < 10 → P (cover_place k)) → ((k : ℕ) → k < 10 → P (paid_place k)) → P edition_place → (i : ℕ) → i < book_words
    → P i
each_word P trips opening last sums covers payments edition zero h = trips
each_word P trips opening last sums covers payments edition (suc zero) h = opening
each_word P trips opening last sums covers payments edition (suc (suc zero)) h = last
each_word P trips opening last sums covers payments edition (suc (suc (suc n))) h =
    elim (dec_lt n 1344) [
      | yes sum ↦
          let pair = sums (n / 64) (n % 64 / 2) (omega arith) (omega arith) in
          elim (ℕ_discrete (n % 2) 0) [
            | yes even ↦ let e : pair_place (n / 64) (n % 64 / 2) ≡ suc (suc (suc n)) = omega arith in subst P e pair.0
            | no odd ↦ let e : pair_place (n / 64) (n % 64 / 2) + 1 ≡ suc (suc (suc n)) = omega arith in subst P e pair.1
          ]
      | no past ↦
          elim (dec_lt n 1354) [
            | yes cover ↦ let e : cover_place (n - 1344) ≡ suc (suc (suc n)) = omega arith in subst P e (covers (n - 1344) (omega arith))
            | no behind ↦
                elim (dec_lt n 1364) [
                  | yes paid ↦ let e : paid_place (n - 1354) ≡ suc (suc (suc n)) = omega arith in subst P e (payments (n - 1354) (omega arith))
                  | no last ↦ let e : edition_place ≡ suc (suc (suc n)) = omega arith in subst P e edition
                ]
          ]
    ]

-- numbers of bytes that are the same have the same bytes
same_bytes :
    (width : ℕ) (b b' : List ℕ) (place : ℕ) → Bytes b → Bytes b' → get_le width b place ≡ get_le width b' place → (j : ℕ) → j < width
    → get_or b (place + j) 0 ≡ get_or b' (place + j) 0
unfolding get_le
same_bytes zero b b' place bytes bytes' same j h = absurd (omega arith)
same_bytes (suc width) b b' place bytes bytes' same zero h = rw add-zero (omega (arith, bytes place, bytes' place))
same_bytes (suc width) b b' place bytes bytes' same (suc j) h =
    let next : place + suc j ≡ place + 1 + j = omega arith in
    rw next (same_bytes width b b' (place + 1) bytes bytes' (omega (arith, bytes place, bytes' place)) j (omega arith))

-- Two books of bytes with the same words are the same.
pub words_same :
    (b b' : List ℕ) → length b ≡ book_size → length b' ≡ book_size → Bytes b → Bytes b' → ((i : ℕ) → i < book_words → word b i ≡ word b' i) → b ≡ b'
words_same b b' size size' bytes bytes' same = ext_get_or 0 b b' (size ∙ sym size') at
  where
    at : (i : ℕ) → i < length b → get_or b i 0 ≡ get_or b' i 0
    at i h =
        let place : 4 * (i / 4) + i % 4 ≡ i = omega arith in
        rw place at (same_bytes 4 b b' (4 * (i / 4)) bytes bytes' (same (i / 4) (omega arith)) (i % 4) (omega arith))

-- ---- Bytes.

zeros_bytes : (n : ℕ) → Bytes (replicate n 0)
zeros_bytes zero i = omega arith
zeros_bytes (suc n) zero = omega arith
zeros_bytes (suc n) (suc i) = zeros_bytes n i

-- Where the book is of bytes, so are the words that count.
pub window_bytes : (current : Bool) (book : List ℕ) → Bytes book → Bytes (in_window current book)
window_bytes true book bytes = bytes
window_bytes false book bytes = zeros_bytes book_size
