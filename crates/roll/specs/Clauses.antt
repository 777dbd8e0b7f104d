-- What the functions of a roll ask and answer.
use Rattle.std.specs.Prelude.{ℕ, ◌+◌, ◌*◌, ◌≤◌, ◌<◌, ◌≡◌, List, Bool, true, cond, length, ltb}
use Rattle.ledger.specs.Words.{book_size, fresh_book}
use Rattle.editions.specs.declared.Editions.{Editions}
use Rattle.statement.specs.Record.{most_parts, largest_statement}
use Rattle.statement.specs.Reading.{opening_in, area_in, km_in, minutes_in, size_in, cents_in}
use Rattle.statement.specs.Clauses.{RecordAt, most_cents}
use Rattle.deciding.specs.Refusals.{sound_in}
use Rattle.settle.specs.Outcome.{settled, book_after, statement_after}
use Rattle.roll.specs.declared.Entry.{Entry}
use Rattle.roll.specs.declared.Line.{Line}
use Rattle.roll.specs.declared.Line.TheVariants.{Charged, Both, Refused}
use Rattle.roll.specs.declared.Step.{Step}
use Rattle.roll.specs.declared.Step.TheVariants.{End, More, Record, Broken}
use Rattle.roll.specs.Lines.{line_of}
use Rattle.roll.specs.Pieces.{step_of, book_step, statement_step}

-- the cents of a line, and of a step's
abbrev pub line_cents : Line → ℕ
line_cents (Charged entry) = entry.cents
line_cents (Both one other) = one.cents + other.cents
line_cents (Refused number) = 0

abbrev pub step_cents : Step → ℕ
step_cents End = 0
step_cents More = 0
step_cents Broken = 0
step_cents (Record line used) = line_cents line

-- the most that a line can say: what two records say
abbrev pub most_line_cents : ℕ
most_line_cents = most_parts * most_cents

pub record Fresh (book : List ℕ) : Type 0 where
  pub is : book ≡ fresh_book
  pub size : book_size ≡ length book
  pub sound_book : (editions : Editions) → sound_in editions book ≡ true

-- room for every record's statement
abbrev pub StatementRoom : List ℕ → Type 0
StatementRoom statement = length statement ≡ largest_statement

-- what the record at a place of a statement says
unfoldable pub entry_in : List ℕ → ℕ → Entry
entry_in statement place =
    record {
      area = area_in statement place;
      km = km_in statement place;
      minutes = minutes_in statement place;
      opening = opening_in statement place;
      cents = cents_in statement place;
    }

pub record EntryIn (statement : List ℕ) (place : ℕ) (r : Entry) : Type 0 where
  pub value : r ≡ entry_in statement place
  pub range : r.cents ≤ most_cents

-- what reading a statement of so many bytes asks: a record at its start, and another one behind it where the bytes go on
pub record Readable (statement : List ℕ) (size : ℕ) : Type 0 where
  pub first : RecordAt statement 0
  pub second : size_in statement 0 < size → RecordAt statement (size_in statement 0)

-- the line that such a statement says
unfoldable pub line_in : List ℕ → ℕ → Line
line_in statement size =
    cond (ltb (size_in statement 0) size) (Both (entry_in statement 0) (entry_in statement (size_in statement 0))) (Charged (entry_in statement 0))

pub record LineIn (statement : List ℕ) (size : ℕ) (r : Line) : Type 0 where
  pub value : r ≡ line_in statement size
  pub range : line_cents r ≤ most_line_cents

pub record SettledLine (file : List ℕ) (editions : Editions) (book trip statement book' statement' : List ℕ) (r : Line) : Type 0 where
  pub line : r ≡ line_of (settled file book trip largest_statement)
  pub book_is : book' ≡ book_after (settled file book trip largest_statement) book
  pub statement_is : statement' ≡ statement_after (settled file book trip largest_statement) statement
  pub sound_again : sound_in editions book' ≡ true
  pub range : line_cents r ≤ most_line_cents

pub record Stepped (file : List ℕ) (editions : Editions) (book piece : List ℕ) (more : Bool) (statement book' statement' : List ℕ) (r : Step) : Type 0 where
  pub found : r ≡ step_of file book piece more
  pub book_is : book' ≡ book_step file book piece more
  pub statement_is : statement' ≡ statement_step file book piece statement r
  pub sound_again : sound_in editions book' ≡ true
  pub range : step_cents r ≤ most_line_cents
