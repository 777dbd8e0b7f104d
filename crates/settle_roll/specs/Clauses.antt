-- What holds of a run from turn to turn, so that every sum fits, every line has room, and the run ends.
use Rattle.std.specs.Prelude.{ℕ, ◌-◌, ◌≡◌, List, length}
use Rattle.streams.specs.declared.flow.Run.{Run}
use Rattle.streams.specs.declared.flow.Next.{Next}
use Rattle.streams.specs.Runs.{State}
use Rattle.streams.specs.Flows.{input_size, InRange, state_of, Still, carrying, Advanced}
use Rattle.editions.specs.declared.Editions.{Editions}
use Rattle.deciding.specs.Clauses.{Ready}
use Rattle.roll.specs.Lines.{most_records}
use Rattle.lines.specs.declared.tally.Tally.{Tally}
use Rattle.lines.specs.Turns.{records}
use Rattle.lines.specs.Clauses.{most_turn, Counting}
use Rattle.settle_roll.specs.Prints.{Carried, turn_under, start}

-- what a step asks: a faultless file, a sound book, an input of its size, room for a turn, and that a record may come
pub record Running (file : List ℕ) (editions : Editions) (book input out : List ℕ) (run : Run Tally) : Type 0 where
  pub ready : Ready file editions book
  pub size : length input ≡ input_size
  pub range : InRange most_turn (length out) run.flow
  pub counting : Counting run.carried

-- a tally, and the book beside it
abbrev pub beside : List ℕ → Tally → Carried
beside book tally = record { book = book; tally = tally }

-- how far a run has come
abbrev pub reached : Run Tally → List ℕ → List ℕ → List ℕ → State Carried
reached run book input out = state_of run.flow (beside book run.carried) input out

-- the records that may still come
abbrev pub records_left : Carried → ℕ
records_left on = most_records - records on.tally

-- the file and the book are still as a step asks, another record may come where another turn does, and the run has advanced, with the book that the
-- turn left
pub record StepTaken
    (file : List ℕ) (editions : Editions) (run : Run Tally) (book input out book' input' out' : List ℕ) (r : Next Tally)
    : Type 0 where
  pub again : Ready file editions book'
  pub counting : Still Counting r
  pub advanced : Advanced (turn_under file) most_turn records_left run.flow (reached run book input out) input' out' (carrying (beside book') r)

-- what the loop asks: it begins at the start
pub record Begun (file : List ℕ) (editions : Editions) (book input out : List ℕ) (run : Run Tally) : Type 0 where
  pub running : Running file editions book input out run
  pub at_start : reached run book input out ≡ start
