-- A roll taken piece by piece: what stands at the start of a piece, and the book after it.
use Rattle.std.specs.Prelude.{ℕ, ◌+◌, List, Bool, cond, ◌&&◌, ◌||◌, length, take, leb, ltb, eqb}
use Rattle.wire.specs.Number.{get_le}
use Rattle.wire.specs.Frame.{frame_at}
use Rattle.wire.specs.declared.Frame.TheVariants as frame
use Rattle.statement.specs.Record.{largest_statement}
use Rattle.settle.specs.Outcome.{Outcome, settled, book_after, statement_after}
use Rattle.roll.specs.declared.Step.{Step}
use Rattle.roll.specs.declared.Step.TheVariants.{End, More, Record, Broken}
use Rattle.roll.specs.Lines.{line_of}

-- a piece ends before its first record does: fewer than 4 bytes, or a length that more bytes could fill
unfoldable pub unfinished : List ℕ → Bool
unfinished piece =
    ltb (length piece) 4
    || (leb 2 (get_le 2 piece 0) && leb (get_le 2 piece 0) 1024 && ltb (length piece) (2 + get_le 2 piece 0))

-- what the record at the start of a piece comes to, on a book; there is room for the largest statement
unfoldable pub outcome_at : List ℕ → List ℕ → List ℕ → ℕ → Outcome
outcome_at file book piece used = settled file book (take used piece) largest_statement

-- what stands at the start of a piece, where the roll may go on behind it or not
unfoldable pub step_of : List ℕ → List ℕ → List ℕ → Bool → Step
step_of file book piece more =
    cond (more && unfinished piece) More
    (cond (eqb (length piece) 0) End
    (elim (frame_at piece 0) [
      | frame.Broken ↦ Broken
      | frame.Whole kind body ↦ Record (line_of (outcome_at file book piece (4 + body))) (4 + body)
    ]))

-- the book after it
unfoldable pub book_step : List ℕ → List ℕ → List ℕ → Bool → List ℕ
book_step file book piece more =
    cond (more && unfinished piece) book
    (cond (eqb (length piece) 0) book
    (elim (frame_at piece 0) [
      | frame.Broken ↦ book
      | frame.Whole kind body ↦ book_after (outcome_at file book piece (4 + body)) book
    ]))

-- the statement that was lent, after it: of a record that was settled what settling leaves in it, which is all that was told of the record
abbrev pub statement_step : List ℕ → List ℕ → List ℕ → List ℕ → Step → List ℕ
statement_step file book piece statement End = statement
statement_step file book piece statement More = statement
statement_step file book piece statement Broken = statement
statement_step file book piece statement (Record line used) = statement_after (outcome_at file book piece used) statement
