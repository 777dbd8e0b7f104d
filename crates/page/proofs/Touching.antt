-- What each call does to the page: it leaves every byte, or every byte but those of one place. What is said of one place and of no other.
-- Assumes nothing.
use Prim.Native.Nat.{ℕ, ◌+◌, ◌≤◌, ◌<◌}
use native.Mathlib.Omega.{arith}
use native.Mathlib.Decide.{ℕ_discrete, dec_lt}
use mathlib.Core.Path.{◌≡◌, sym, ap, ◌∙◌}
use mathlib.Core.Logic.{inl, inr, ⊎_elim}
use mathlib.Core.List.{List}
use lib.ListN.{length, get_or}
use Rattle.wire.specs.Number.{get_le}
use Rattle.wire.proofs.Number.{get_same}
use Rattle.ledger.specs.Words.{book_size}
use Rattle.page.specs.Pages.{number_size, place_size, places, page_size, start_of, place_at, number_at, book_at, replaced, most_number}
use Rattle.page.specs.InWords.{Passing, Touched}
use Rattle.page.proofs.Replacing.{part_alike, length_replaced, part_there, number_there, byte_other, number_other}

-- ---- The other places.

module _ {page page' : List ℕ} {place : ℕ} (touched : Touched page page' place) where
  same_byte : (other i : ℕ) → (other ≡ place → ⊥) → start_of other ≤ i → i < start_of other + place_size → get_or page' i 0 ≡ get_or page i 0
  same_byte other i ne low high =
      touched.others i
      (elim (dec_lt other place) [ yes less ↦ inl (omega arith) | no more ↦ inr (omega (arith, ne, more)) ])

  pub other_place : (other : ℕ) → (other ≡ place → ⊥) → place_at page' other ≡ place_at page other
  other_place other ne = part_alike page' page place_size (start_of other) touched.size (λ i low high. same_byte other i ne low high)

  pub other_number : (other : ℕ) → (other ≡ place → ⊥) → number_at page' other ≡ number_at page other
  other_number other ne = get_same 4 page' page (start_of other) (λ i low high. same_byte other i ne low (omega arith))

  pub other_book : (other : ℕ) → (other ≡ place → ⊥) → book_at page' other ≡ book_at page other
  other_book other ne =
      part_alike page' page book_size (start_of other + number_size) touched.size
      (λ i low high. same_byte other i ne (omega arith) (omega arith))

  -- The page passes again, where the place's number is in its range and stands nowhere else but as a 0.
  pub passing_again :
      {first count : ℕ} → Passing first count page → number_at page' place ≤ most_number
      → ((i : ℕ) → first ≤ i → i < first + count → (i ≡ place → ⊥) → number_at page i ≡ number_at page' place → number_at page' place ≡ 0)
      → Passing first count page'
  passing_again {first} {count} p most lonely =
      record { size = touched.size ∙ p.size; ranges = ranges; once = once }
    where
      ranges : (i : ℕ) → first ≤ i → i < first + count → number_at page' i ≤ most_number
      ranges i low high =
          elim (ℕ_discrete i place) [ yes e ↦ rw e most | no ne ↦ rw (other_number i ne) (p.ranges i low high) ]

      once :
          (i j : ℕ) → first ≤ i → i < j → j < first + count → number_at page' j ≡ number_at page' i → number_at page' i ≡ 0
      once i j low less high same =
          elim (ℕ_discrete i place) [
            | yes e ↦
                rw e
                (lonely j (omega arith) high (λ is. omega arith) (sym (other_number j (λ is. omega arith)) ∙ same ∙ ap (number_at page') e))
            | no ne ↦
                elim (ℕ_discrete j place) [
                  | yes is ↦
                      let here = sym (other_number i ne) ∙ sym same ∙ ap (number_at page') is in
                      same_zero (lonely i low (omega arith) ne here) (sym same ∙ ap (number_at page') is)
                  | no other ↦
                      other_number i ne
                      ∙ p.once i j low less high (sym (other_number j other) ∙ same ∙ other_number i ne)
                ]
          ]
        where
          same_zero : {m n : ℕ} → m ≡ 0 → n ≡ m → n ≡ 0
          same_zero z e = e ∙ z

-- ---- A place written.

module _ (page : List ℕ) (place : ℕ) (size : length page ≡ page_size) (there : place < places) where
  -- the whole of it
  module _ (bytes : List ℕ) (long : length bytes ≡ place_size) where
    abbrev whole : List ℕ
    whole = replaced page (start_of place) place_size bytes

    fits : start_of place + place_size ≤ length page
    fits = omega (arith, size, there)

    pub place_touched : Touched page whole place
    place_touched =
        record {
          size = length_replaced page (start_of place) place_size bytes fits long;
          others = byte_other page (start_of place) place_size bytes fits long;
        }

    pub place_is : place_at whole place ≡ bytes
    place_is = part_there page (start_of place) place_size bytes fits long

    pub place_number : number_at whole place ≡ get_le 4 bytes 0
    place_number =
        ap (get_le 4 whole) (omega arith)
        ∙ number_there page (start_of place) place_size bytes fits long 4 0 (omega arith)
        ∙ ap (λ (b : List ℕ). get_le 4 b 0) place_is

  -- its book only
  module _ (book : List ℕ) (long : length book ≡ book_size) where
    abbrev settled_page : List ℕ
    settled_page = replaced page (start_of place + number_size) book_size book

    inside : start_of place + number_size + book_size ≤ length page
    inside = omega (arith, size, there)

    pub book_touched : Touched page settled_page place
    book_touched =
        record {
          size = length_replaced page (start_of place + number_size) book_size book inside long;
          others = λ i h.
              byte_other page (start_of place + number_size) book_size book inside long i
              (⊎_elim (λ less. inl (omega arith)) (λ more. inr (omega arith)) h);
        }

    pub book_is : book_at settled_page place ≡ book
    book_is = part_there page (start_of place + number_size) book_size book inside long

    pub number_kept : number_at settled_page place ≡ number_at page place
    number_kept = number_other page (start_of place + number_size) book_size book inside long 4 (start_of place) (inl (omega arith))
