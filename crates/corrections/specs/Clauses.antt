-- What the functions of corrections ask and answer.
use Rattle.std.specs.Prelude.{ℕ, ◌+◌, ◌-◌, ◌*◌, ◌^◌, ◌≤◌, ◌≡◌, List, [], ◌∷◌, ◌++◌, cond, ◌&&◌, length, drop, get_or, leb, ltb}
use Rattle.statement.specs.Record.{most_parts, largest_statement, statement_of}
use Rattle.statement.specs.Reading.{charge_in, count_in}
use Rattle.statement.specs.Clauses.{RecordAt, RecordsTo}
use Rattle.settle.specs.declared.Answer.{Answer}
use Rattle.settle.specs.declared.Answer.TheVariants.{Refused, Written}
use Rattle.settle.specs.Outcome.{Outcome, settled, parts_in, book_after, statement_after}
use Rattle.settle.specs.Runs.{Offer}
use Rattle.settle.specs.Clauses.{AnswerFits}
use Rattle.roll.specs.Lines.{most_records, offers_of}
use Rattle.corrections.specs.declared.runs.Cursor.{Cursor}
use Rattle.corrections.specs.declared.runs.Turn.{Turn}
use Rattle.corrections.specs.declared.runs.Turn.TheVariants.{End, Settled}
use Rattle.corrections.specs.Corrections.{exchanged, settled_with, statements_in, payers, paid_over, paid_by, Correction, uncorrected, corrected, correction_answer, statements_after, differences_after}

-- ---- Sums: one for each payer.

-- each is at most so much
pub record AtMost (most : ℕ) (sums : List ℕ) : Type 0 where
  pub size : length sums ≡ payers
  pub each : (payer : ℕ) → get_or sums payer 0 ≤ most

-- what 65,535 records of two parts charge one payer at most: far less than a sum holds
abbrev pub most_paid : ℕ
most_paid = most_records * (most_parts * 2 ^ 32)

-- to each payer's something was added, which is at most so much
pub record Added (of : ℕ → ℕ) (most : ℕ) (sums sums' : List ℕ) : Type 0 where
  pub size : length sums' ≡ length sums
  pub is : (payer : ℕ) → get_or sums' payer 0 ≡ get_or sums payer 0 + of payer
  pub range : (payer : ℕ) → of payer ≤ most

-- charges that stand together in a record, to the payers that have them
abbrev pub charges_to : List ℕ → ℕ → ℕ → ℕ → ℕ → ℕ → ℕ
charges_to statement place charge count first payer =
    cond (leb first payer && ltb payer (first + count)) (charge_in statement place (charge + (payer - first))) 0

-- what adding them asks
pub record Addable (sums : List ℕ) (statement : List ℕ) (place charge count first : ℕ) : Type 0 where
  pub there : RecordAt statement place
  pub charges : charge + count ≤ count_in statement place
  pub payers_most : first + count ≤ payers
  pub sums_most : AtMost (2 ^ 63) sums

-- and adding a statement's
pub record Readable (sums statement : List ℕ) (size : ℕ) : Type 0 where
  pub records : RecordsTo statement size most_parts 0
  pub sums_most : AtMost most_paid sums

-- ---- Runs. Each trip is offered with room for the largest statement, and what it comes to is the same wherever its own statement fits.

abbrev pub came_to : List ℕ → List ℕ → List ℕ → Outcome
came_to file book trip = settled file book trip largest_statement

abbrev pub StatementFits : List ℕ → List ℕ → List ℕ → ℕ → Type 0
StatementFits file book trip room = length (statement_of (parts_in (came_to file book trip))) ≤ room

-- a trip settled: the bytes of its statement, of which the records can be read, and what it leaves
pub record TripSized (file book trip statement book' statement' : List ℕ) (r : ℕ) : Type 0 where
  pub size_is : r ≡ length (statement_of (parts_in (came_to file book trip)))
  pub size_most : r ≤ largest_statement
  pub records : RecordsTo statement' r most_parts 0
  pub paid : (payer : ℕ) → paid_over statement' r payer ≡ paid_over (statement_of (parts_in (came_to file book trip))) r payer
  pub book_is : book' ≡ book_after (came_to file book trip) book
  pub statement_is : statement' ≡ statement_after (came_to file book trip) statement

-- where a run starts, and where it stands behind a record
abbrev pub start_at : ℕ → Cursor
start_at n = record { next = 0; left = most_records; until = n }

abbrev pub behind_at : Cursor → ℕ → Cursor
behind_at cursor end = record { next = end; left = cursor.left - 1; until = cursor.until - 1 }

-- a trip as a roll offers it
abbrev pub offered : List ℕ → Offer
offered trip = record { bytes = trip; room = largest_statement }

-- the records of a roll that are still to be settled
abbrev pub rest_of : List ℕ → List ℕ → Cursor → List Offer
rest_of roll replacement cursor = exchanged cursor.until replacement (offers_of cursor.left (drop cursor.next roll))

-- the next one's statement has its room
pub record NextFits (file book : List ℕ) (rest : List Offer) (room : ℕ) : Type 0 where
  pub fits : (trip : List ℕ) (later : List Offer) → rest ≡ offered trip ∷ later → StatementFits file book trip room

-- the next one settled; those behind it are still to be
pub record NextSettled (file book : List ℕ) (rest later : List Offer) (statement book' statement' : List ℕ) (size : ℕ) : Type 0 where
  pub trip : List ℕ
  pub next : rest ≡ offered trip ∷ later
  pub sized : TripSized file book trip statement book' statement' size

abbrev pub TurnTaken : List ℕ → List ℕ → List ℕ → List ℕ → Cursor → List ℕ → List ℕ → List ℕ → Turn → Type 0
TurnTaken file roll replacement book cursor statement book' statement' End =
    (rest_of roll replacement cursor ≡ []) × ((book' ≡ book) × (statement' ≡ statement))
TurnTaken file roll replacement book cursor statement book' statement' (Settled size cursor') =
    NextSettled file book (rest_of roll replacement cursor) (rest_of roll replacement cursor') statement book' statement' size
    × (cursor.left ≡ cursor'.left + 1)

-- `add_up`: the sums of a roll settled afresh, and the bytes of its statements
pub record AddedUp (file roll : List ℕ) (n : ℕ) (replacement sums' : List ℕ) (r : ℕ) : Type 0 where
  pub bytes : r ≡ length (statements_in (settled_with file roll n replacement))
  pub bytes_most : r ≤ most_records * largest_statement
  pub paid : (payer : ℕ) → get_or sums' payer 0 ≡ paid_by payer (settled_with file roll n replacement)

-- `write_statements`
abbrev pub StatementsWritten : List ℕ → List ℕ → ℕ → List ℕ → List ℕ → List ℕ → Type 0
StatementsWritten file roll n replacement statements statements' =
    statements' ≡ statements_in (settled_with file roll n replacement)
    ++ drop (length (statements_in (settled_with file roll n replacement))) statements

-- ---- The outcome.

abbrev pub told_correction : Correction → Answer
told_correction (uncorrected number place) = Refused number place
told_correction (corrected old new) = Written (length (statements_in new))

-- the answer and every byte of both slices are the correction's
pub record CorrectionTold (correction : Correction) (statements statements' differences differences' : List ℕ) (r : Answer) : Type 0 where
  pub answer : r ≡ told_correction correction
  pub fits : AnswerFits r
  pub statements_is : statements' ≡ statements_after correction statements
  pub differences_is : differences' ≡ differences_after correction differences

-- of the exported function, whose answer is one number
pub record Corrected (correction : Correction) (statements statements' differences differences' : List ℕ) (r : ℕ) : Type 0 where
  pub answer : r ≡ correction_answer correction
  pub statements_is : statements' ≡ statements_after correction statements
  pub differences_is : differences' ≡ differences_after correction differences
