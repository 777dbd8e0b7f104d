-- docs/RULES.md, section 21, in its words: the order of the refusals among settling's, and calls on two pages that agree in some places.
use Rattle.std.specs.Prelude.{ℕ, ◌+◌, ◌≤◌, ◌<◌, ◌≡◌, List}
use Rattle.editions.specs.declared.Editions.{Editions}
use Rattle.editions.specs.declared.FileReading.TheVariants.{Fault}
use Rattle.editions.specs.Reading.{read_file, ReadFile}
use Rattle.settle.specs.Outcome.{Outcome, refused, settled_under, answer_of, parts_in, book_after, statement_after}
use Rattle.page.specs.Pages.{book_at, wrong_page, wrong_member, Change, page_after}
use Rattle.page.specs.InWords.{InNone, InOne, Eighteen, Agree}
use Rattle.accounts.specs.Members.{change_answer, on_book}

-- settling: 1 to 3, the file's; 18; 19, the member is not found; then 4 to 12 by the table, on the book of the member's place
pub data SettlingRefused (file : List ℕ) (first count : ℕ) (page : List ℕ) (member : ℕ) (trip : List ℕ) (room : ℕ) : ℕ → ℕ → Type 0 where
  settle_faulty : (number at : ℕ) → read_file file ≡ Fault number at → SettlingRefused file first count page member trip room number at
  settle_eighteen :
      (editions : Editions) → ReadFile file editions → Eighteen first count page member
      → SettlingRefused file first count page member trip room wrong_page 0
  settle_nineteen :
      (editions : Editions) → ReadFile file editions → (Eighteen first count page member → ⊥) → InNone page member first count
      → SettlingRefused file first count page member trip room wrong_member 0
  settle_table :
      (editions : Editions) → ReadFile file editions → (Eighteen first count page member → ⊥) → (one : InOne page member first count)
      → (number at : ℕ) → settled_under file editions (book_at page one.place) trip room ≡ refused number at
      → SettlingRefused file first count page member trip room number at

-- what adding or closing comes to on two such pages: equal answers, and the pages agree afterwards
pub record ChangesAgree (first count : ℕ) (page page' : List ℕ) (one other : Change) : Type 0 where
  pub answers : change_answer one ≡ change_answer other
  pub pages : Agree first count (page_after one page) (page_after other page')

-- and a trip: equal records besides, and it is the same outcome on the book of each of these places
pub record TripsAgree (first count : ℕ) (page page' : List ℕ) (one other : Outcome) : Type 0 where
  pub answers : answer_of one ≡ answer_of other
  pub parts : parts_in one ≡ parts_in other
  pub statements : (statement : List ℕ) → statement_after one statement ≡ statement_after other statement
  pub books : (i : ℕ) → first ≤ i → i < first + count → on_book i one ≡ on_book i other
  pub pages : Agree first count (book_after one page) (book_after other page')
