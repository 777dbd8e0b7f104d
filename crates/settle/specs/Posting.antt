-- docs/RULES.md, section 14: posting a quote. It takes the trip and a record, and writes only the book. 1 to 3 are the file's; 4 to 11 are
-- settling's, and then comes 13.
use Rattle.std.specs.Prelude.{ℕ, ◌≡◌, List, Bool, not, ◌&&◌, length, get_or, eqb}
use Rattle.wire.specs.Each.{each}
use Rattle.editions.specs.declared.Editions.{Editions}
use Rattle.editions.specs.declared.FileReading.TheVariants.{Fault, Faultless}
use Rattle.editions.specs.Reading.{read_file}
use Rattle.statement.specs.Record.{largest_statement}
use Rattle.deciding.specs.declared.refusals.Refusal.TheVariants.{OtherRecord}
use Rattle.deciding.specs.Refusals.{Row, row, rows_to, refusal, first_of, nothing, found}
use Rattle.settle.specs.Outcome.{quoted_under, quote_bytes, book_with, refused_as}

-- as many bytes, and each the same
unfoldable pub same_bytes : List ℕ → List ℕ → Bool
same_bytes bytes other = eqb (length bytes) (length other) && each (length other) (λ i. eqb (get_or bytes i 0) (get_or other i 0))

-- the bytes that a quote on the present book would write, with room for the largest statement
abbrev pub present_quote : List ℕ → Editions → List ℕ → List ℕ → List ℕ
present_quote file editions book trip = quote_bytes (quoted_under file editions book trip largest_statement)

-- 13: the record is not exactly these bytes
unfoldable pub posting_rows : List ℕ → Editions → List ℕ → List ℕ → List ℕ → List Row
posting_rows file editions book trip offered =
    rows_to file editions book trip (row OtherRecord (not (same_bytes (present_quote file editions book trip) offered)))

-- a refusal with its number and place; or the new book
pub data Posting : Type 0 where
  unposted : ℕ → ℕ → Posting
  renewed : List ℕ → Posting

-- of a trip with a record on a book, under a file without fault
unfoldable pub posted_under : List ℕ → Editions → List ℕ → List ℕ → List ℕ → Posting
posted_under file editions book trip offered =
    elim (first_of (posting_rows file editions book trip offered)) [
      | found why ↦ unposted (refusal why) 0
      | nothing ↦ renewed (book_with file editions book trip)
    ]

-- under any byte string as a file. 1 to 3: the file's first fault, at its record's offset
unfoldable pub posting_of : List ℕ → List ℕ → List ℕ → List ℕ → Posting
posting_of file book trip offered =
    elim (read_file file) [
      | Fault number at ↦ unposted number at
      | Faultless editions ↦ posted_under file editions book trip offered
    ]

-- acceptance returns the bytes written, which are the whole book
abbrev pub posting_answer : Posting → ℕ
posting_answer (unposted number place) = refused_as number place
posting_answer (renewed new) = length new

-- a refusal leaves the book
abbrev pub book_left : Posting → List ℕ → List ℕ
book_left (unposted number place) book = book
book_left (renewed new) book = new

-- the answer and every byte left behind are the posting's; the record is only read
pub record Posted (posting : Posting) (book book' : List ℕ) (r : ℕ) : Type 0 where
  pub answer : r ≡ posting_answer posting
  pub book_is : book' ≡ book_left posting book
