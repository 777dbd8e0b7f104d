-- What holds of a run from turn to turn, so that every number fits, every line has room, and the run ends.
use Rattle.std.specs.Prelude.{ℕ, ◌-◌, ◌<◌, ◌≡◌, List, length}
use Rattle.streams.specs.declared.flow.Run.{Run}
use Rattle.streams.specs.declared.flow.Next.{Next}
use Rattle.streams.specs.Flows.{input_size, InRange, reached, Still, Advanced}
use Rattle.csv_table.specs.Turns.{most_records}
use Rattle.csv_table.specs.Clauses.{most_turn}
use Rattle.print_statement.specs.Prints.{turn_after, start}

-- another record may come
abbrev pub Few : ℕ → Type 0
Few number = number < most_records

-- what a step asks: an input of its size, room for a turn, and that a record may come
pub record Running (input out : List ℕ) (run : Run ℕ) : Type 0 where
  pub size : length input ≡ input_size
  pub range : InRange most_turn (length out) run.flow
  pub few : Few run.carried

-- the records that may still come
abbrev pub records_left : ℕ → ℕ
records_left number = most_records - number

-- where another turn comes, another record may; and the run has advanced
pub record StepTaken (run : Run ℕ) (input out input' out' : List ℕ) (r : Next ℕ) : Type 0 where
  pub few : Still Few r
  pub advanced : Advanced turn_after most_turn records_left run.flow (reached run input out) input' out' r

-- what the loop asks: it begins at the start
pub record Begun (input out : List ℕ) (run : Run ℕ) : Type 0 where
  pub running : Running input out run
  pub at_start : reached run input out ≡ start
