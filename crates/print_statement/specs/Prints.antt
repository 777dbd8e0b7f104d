-- What the program does around the turns: it reads the statement piece by piece, takes turns, and writes.
use Rattle.std.specs.Prelude.{ℕ, true, []}
use Rattle.streams.specs.Runs.{Effect, asks, puts, ends, Turns, State}
use Rattle.csv_table.specs.Text.{header}
use Rattle.csv_table.specs.Turns as csv

-- what a turn does, and the number of its record, which the next one carries on
unfoldable pub numbered : csv.Effect → Effect ℕ
numbered csv.asks = asks
numbered (csv.puts used text number) = puts used text number
numbered (csv.ends text) = ends text

-- the turn that comes behind the record of a number
unfoldable pub turn_after : Turns ℕ
turn_after kept more number = numbered (csv.effect_of kept more number)

-- a run begins with the header, before the first record
unfoldable pub start : State ℕ
start = record { kept = []; more = true; held = header; carried = 0 }
