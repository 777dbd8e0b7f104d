-- docs/RULES.md, section 21, in its words: when a page is refused with 18, a member with 19, and when there is no free place; and the order of
-- these refusals in adding and closing.
use Rattle.std.specs.Prelude.{ℕ, ◌+◌, ◌≤◌, ◌<◌, ◌≡◌, ◌⊎◌, List, length, get_or}
use Rattle.page.specs.Pages.{place_size, page_size, start_of, places_at, most_number, number_at, wrong_page, wrong_member, no_place}

-- a number stands in none of some places; 0 in none: no place is free
abbrev pub InNone : List ℕ → ℕ → ℕ → ℕ → Type 0
InNone page number first count = (i : ℕ) → first ≤ i → i < first + count → number_at page i ≡ number → ⊥

-- it stands in one of them
pub record InOne (page : List ℕ) (number first count : ℕ) : Type 0 where
  pub place : ℕ
  pub from : first ≤ place
  pub within : place < first + count
  pub there : number_at page place ≡ number

-- a place is the lowest of those in which a number stands; of the free ones, where that is 0
pub record Lowest (page : List ℕ) (number first count place : ℕ) : Type 0 where
  pub from : first ≤ place
  pub within : place < first + count
  pub there : number_at page place ≡ number
  pub not_before : (i : ℕ) → first ≤ i → i < place → number_at page i ≡ number → ⊥

-- a number that a member can have
pub record CanHave (number : ℕ) : Type 0 where
  pub some : 1 ≤ number
  pub most : number ≤ most_number

-- nothing stored is wrong: the length is right, each number is in its range or 0, and none but 0 stands in two places
pub record Passing (first count : ℕ) (page : List ℕ) : Type 0 where
  pub size : length page ≡ page_size
  pub ranges : (i : ℕ) → first ≤ i → i < first + count → number_at page i ≤ most_number
  pub once : (i j : ℕ) → first ≤ i → i < j → j < first + count → number_at page j ≡ number_at page i → number_at page i ≡ 0

-- 18: the page is of the wrong length, the number asked for is outside its range, a stored one is, or one is stored twice
pub data Eighteen (first count : ℕ) (page : List ℕ) (member : ℕ) : Type 0 where
  other_length : (length page ≡ page_size → ⊥) → Eighteen first count page member
  asked_outside : (CanHave member → ⊥) → Eighteen first count page member
  stored_outside : (i : ℕ) → first ≤ i → i < first + count → most_number < number_at page i → Eighteen first count page member
  stored_twice :
      (i j : ℕ) → first ≤ i → i < j → j < first + count → 1 ≤ number_at page i → number_at page j ≡ number_at page i
      → Eighteen first count page member

-- ---- The refusals in their order: one holds, and none before it does.

-- adding: 18; 19, the member is already present; 20, no place is free
pub data AddingRefused (first count : ℕ) (page : List ℕ) (member : ℕ) : ℕ → Type 0 where
  add_eighteen : Eighteen first count page member → AddingRefused first count page member wrong_page
  add_nineteen :
      (Eighteen first count page member → ⊥) → InOne page member first count → AddingRefused first count page member wrong_member
  add_twenty :
      (Eighteen first count page member → ⊥) → InNone page member first count → InNone page 0 first count
      → AddingRefused first count page member no_place

-- closing: 18; 19, the member is not found
pub data ClosingRefused (first count : ℕ) (page : List ℕ) (member : ℕ) : ℕ → Type 0 where
  close_eighteen : Eighteen first count page member → ClosingRefused first count page member wrong_page
  close_nineteen :
      (Eighteen first count page member → ⊥) → InNone page member first count → ClosingRefused first count page member wrong_member

-- ---- What a call changes.

-- no byte of the page has changed but those of one place
pub record Touched (page page' : List ℕ) (place : ℕ) : Type 0 where
  pub size : length page' ≡ length page
  pub others : (i : ℕ) → (i < start_of place) ⊎ (start_of place + place_size ≤ i) → get_or page' i 0 ≡ get_or page i 0

-- ---- Some places of a page, and all others.

-- two pages of one length agree in some places
pub record Agree (first count : ℕ) (page page' : List ℕ) : Type 0 where
  pub size : length page ≡ length page'
  pub same : places_at page first count ≡ places_at page' first count

-- no byte of a page has changed but those of some places
pub record OnlyIn (first count : ℕ) (page page' : List ℕ) : Type 0 where
  pub size : length page' ≡ length page
  pub others : (i : ℕ) → (i < start_of first) ⊎ (start_of (first + count) ≤ i) → get_or page' i 0 ≡ get_or page i 0
