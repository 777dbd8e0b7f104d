-- docs/RULES.md, section 14: what brings a book up to date, one step after another. A step is a trip settled, or a trip posted with a record,
-- whatever bytes that is; a quote leaves the book, so it is none. Every beginning of a run of steps is one.
use Rattle.std.specs.Prelude.{ℕ, List, [], ◌∷◌}
use Rattle.statement.specs.Record.{Part, largest_statement}
use Rattle.settle.specs.Outcome.{Outcome, refused, accepted, quoted, settled, parts_priced, book_after}
use Rattle.settle.specs.Posting.{Posting, unposted, renewed, posting_of}
use Rattle.settle.specs.Runs.{Offer, Settlement}

-- a posting takes a trip's bytes, and a record's
pub data Step : Type 0 where
  settling : Offer → Step
  posting : List ℕ → List ℕ → Step

-- the trip that it offers; a posting asks for no room, so it has as much as any trip needs
abbrev pub offer_of : Step → Offer
offer_of (settling o) = o
offer_of (posting trip offered) = record { bytes = trip; room = largest_statement }

-- a posting as an outcome: where it is accepted, the trip is charged in these parts
abbrev pub posted_in : List Part → Posting → Outcome
posted_in parts (unposted number place) = refused number place
posted_in parts (renewed new) = accepted new parts

-- what a step comes to on a book: settling's outcome; or the posting's, with the parts of the present quote
unfoldable pub step_outcome : List ℕ → List ℕ → Step → Outcome
step_outcome file book (settling o) = settled file book o.bytes o.room
step_outcome file book (posting trip offered) =
    posted_in (parts_priced (quoted file book trip largest_statement)) (posting_of file book trip offered)

-- ---- Runs, each step under a file of its own.

pub record StepUnder : Type 0 where
  pub file : List ℕ
  pub step : Step

-- what the steps come to, from a book on
unfoldable pub each_from : List ℕ → List StepUnder → List Settlement
each_from book [] = []
each_from book (s ∷ later) =
    let outcome = step_outcome s.file book s.step in
    record { book = book; offer = offer_of s.step; outcome = outcome } ∷ each_from (book_after outcome book) later

-- the book that they leave
unfoldable pub book_after_each : List ℕ → List StepUnder → List ℕ
book_after_each book [] = book
book_after_each book (s ∷ later) = book_after_each (book_after (step_outcome s.file book s.step) book) later

-- ---- Runs under one file.

unfoldable pub under : List ℕ → List Step → List StepUnder
under file [] = []
under file (step ∷ steps) = record { file = file; step = step } ∷ under file steps

abbrev pub steps_from : List ℕ → List ℕ → List Step → List Settlement
steps_from file book steps = each_from book (under file steps)

abbrev pub book_after_steps : List ℕ → List ℕ → List Step → List ℕ
book_after_steps file book steps = book_after_each book (under file steps)

-- trips that are all settled
unfoldable pub settlings : List Offer → List Step
settlings [] = []
settlings (o ∷ run) = settling o ∷ settlings run
