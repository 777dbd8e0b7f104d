-- What a book's words do: read back, left alone, none in a fresh book.
-- Assumes nothing.
use Rattle.std.proofs.Common.{◌≡◌, ℕ, zero, suc, ◌+◌, ◌*◌, ◌/◌, ◌%◌, ◌^◌, ◌<◌, List, length, get_or, replicate, sym, refl, ◌∙◌, inl, inr, add-zero, arith, ext_get_or}
use native.Mathlib.Decide.{ℕ_discrete, dec_lt}
use lib.ListN.{length-replicate}
use Rattle.wire.specs.Number.{get_le}
use Rattle.wire.proofs.Number.{length_put, read_back, read_other, put_reads}
use Rattle.ledger.specs.Words.{book_size, book_words, fresh_book, word, put_word}

-- A word put leaves the book as long as it was.
pub size_put : (b : List ℕ) (i v : ℕ) → length (put_word b i v) ≡ length b
size_put b i v = length_put 4 b (4 * i) v

-- A word put is read back.
pub word_put_same : (b : List ℕ) (i v : ℕ) → length b ≡ book_size → i < book_words → v < 2 ^ 32 → word (put_word b i v) i ≡ v
word_put_same b i v size there small = read_back 4 b (4 * i) v (omega arith) small

-- A word put leaves every other word.
pub word_put_other : (b : List ℕ) (i j v : ℕ) → (i ≡ j → ⊥) → word (put_word b i v) j ≡ word b j
word_put_other b i j v ne =
    read_other 4 b (4 * i) v 4 (4 * j) (elim (dec_lt i j) [ yes before ↦ inr (omega arith) | no after ↦ inl (omega arith) ])

-- A word put in two books of one length leaves the words the same that were.
pub put_same :
    (b b' : List ℕ) → length b' ≡ length b → (p v i : ℕ) → word b' i ≡ word b i → word (put_word b' p v) i ≡ word (put_word b p v) i
put_same b b' size p v i same =
    elim (ℕ_discrete p i) [
      | yes e ↦ rw e (put_reads 4 b b' (4 * i) v size)
      | no ne ↦ word_put_other b' p i v ne ∙ same ∙ sym (word_put_other b p i v ne)
    ]

-- a list of zeros has 0 at each place, also past its end
zero_at : (n i : ℕ) → get_or {A = ℕ} (replicate n 0) i 0 ≡ 0
zero_at zero i = refl
zero_at (suc n) zero = refl
zero_at (suc n) (suc i) = zero_at n i

-- a number among zeros is 0
zero_number : (width n place : ℕ) → get_le width (replicate n 0) place ≡ 0
unfolding get_le
zero_number zero n place = refl
zero_number (suc width) n place = omega (arith, zero_at n place, zero_number width n (place + 1))

-- Each word of a fresh book is 0.
pub word_fresh : (i : ℕ) → word fresh_book i ≡ 0
word_fresh i = zero_number 4 book_size (4 * i)

pub fresh_size : length fresh_book ≡ book_size
fresh_size = length-replicate {A = ℕ} book_size 0

-- where a number is 0, so is each of its bytes
bytes_zero : (width : ℕ) (b : List ℕ) (place : ℕ) → get_le width b place ≡ 0 → (j : ℕ) → j < width → get_or b (place + j) 0 ≡ 0
unfolding get_le
bytes_zero zero b place none j h = absurd (omega arith)
bytes_zero (suc width) b place none zero h = rw add-zero (omega arith)
bytes_zero (suc width) b place none (suc j) h =
    let next : place + suc j ≡ place + 1 + j = omega arith in
    rw next (bytes_zero width b (place + 1) (omega arith) j (omega arith))

-- A book whose words are all 0 is a fresh one.
pub zeros_fresh : (b : List ℕ) → length b ≡ book_size → ((i : ℕ) → i < book_words → word b i ≡ 0) → b ≡ fresh_book
zeros_fresh b size zeros = ext_get_or 0 b fresh_book (size ∙ sym fresh_size) at
  where
    at : (i : ℕ) → i < length b → get_or b i 0 ≡ get_or fresh_book i 0
    at i h =
        let place : 4 * (i / 4) + i % 4 ≡ i = omega arith in
        rw zero_at (rw place at (bytes_zero 4 b (4 * (i / 4)) (zeros (i / 4) (omega arith)) (i % 4) (omega arith)))
