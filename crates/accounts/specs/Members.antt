-- docs/RULES.md, section 21: a member's trip settled on that member's book, where it stands on the page; and what adding and closing answer.
use Rattle.std.specs.Prelude.{ℕ, ◌+◌, ◌≡◌, List}
use Rattle.editions.specs.declared.Editions.{Editions}
use Rattle.editions.specs.declared.FileReading.TheVariants.{Fault, Faultless}
use Rattle.editions.specs.Reading.{read_file}
use Rattle.ledger.specs.Words.{book_size}
use Rattle.settle.specs.Outcome.{Outcome, refused, accepted, refused_as, settled_under}
use Rattle.page.specs.declared.checks.Account.TheVariants.{WrongPage, Absent, Present}
use Rattle.page.specs.Pages.{
  number_size,
  place_size,
  start_of,
  book_at,
  replaced,
  account_of,
  wrong_page,
  wrong_member,
  Change,
  unchanged,
  changed,
  page_after,
}

-- an outcome on a place's book as one on the page
abbrev pub on_page : List ℕ → ℕ → Outcome → Outcome
on_page page place (refused number at) = refused number at
on_page page place (accepted new parts) = accepted (replaced page (start_of place + number_size) book_size new) parts

-- and one on the page as one on a place's book
abbrev pub on_book : ℕ → Outcome → Outcome
on_book place (refused number at) = refused number at
on_book place (accepted new parts) = accepted (book_at new place) parts

-- settling a member's trip on that member's book: 18 and 19, and then 4 to 12
unfoldable pub member_settled_under : List ℕ → Editions → ℕ → ℕ → List ℕ → ℕ → List ℕ → ℕ → Outcome
member_settled_under file editions first count page member trip room =
    elim (account_of first count page member) [
      | WrongPage ↦ refused wrong_page 0
      | Absent ↦ refused wrong_member 0
      | Present place ↦ on_page page place (settled_under file editions (book_at page place) trip room)
    ]

-- under any byte string as a file. 1 to 3: the file's first fault, at its record's offset
unfoldable pub member_settled : List ℕ → ℕ → ℕ → List ℕ → ℕ → List ℕ → ℕ → Outcome
member_settled file first count page member trip room =
    elim (read_file file) [
      | Fault number at ↦ refused number at
      | Faultless editions ↦ member_settled_under file editions first count page member trip room
    ]

-- acceptance returns the bytes written, which are a place's
abbrev pub change_answer : Change → ℕ
change_answer (unchanged number) = refused_as number 0
change_answer (changed new) = place_size

-- the answer and every byte of the page are the change's
pub record Changed (change : Change) (page page' : List ℕ) (r : ℕ) : Type 0 where
  pub answer : r ≡ change_answer change
  pub page_is : page' ≡ page_after change page
