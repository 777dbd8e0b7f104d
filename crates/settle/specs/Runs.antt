-- Runs: trips settled one after another on one book under one file of editions, first to last. Every beginning of a run is a run.
use Rattle.std.specs.Prelude.{ℕ, List, [], ◌∷◌}
use Rattle.settle.specs.Outcome.{Outcome, settled, book_after}

-- a trip offered: its bytes, and the room for its records
pub record Offer : Type 0 where
  pub bytes : List ℕ
  pub room : ℕ

-- one trip of a run: the book before it, the trip, and what it came to
pub record Settlement : Type 0 where
  pub book : List ℕ
  pub offer : Offer
  pub outcome : Outcome

-- the settlements of a run that begins with a book
unfoldable pub run_from : List ℕ → List ℕ → List Offer → List Settlement
run_from file book [] = []
run_from file book (o ∷ run) =
    let outcome = settled file book o.bytes o.room in
    record { book = book; offer = o; outcome = outcome } ∷ run_from file (book_after outcome book) run

-- the book that it leaves
unfoldable pub book_from : List ℕ → List ℕ → List Offer → List ℕ
book_from file book [] = book
book_from file book (o ∷ run) = book_from file (book_after (settled file book o.bytes o.room) book) run
