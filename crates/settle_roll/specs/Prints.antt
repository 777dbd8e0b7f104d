-- docs/RULES.md, section 16: what the program does around the turns. It reads the roll piece by piece, takes turns, and writes.
use Rattle.std.specs.Prelude.{ℕ, true, List, []}
use Rattle.streams.specs.Runs.{Effect, asks, puts, ends, Turns, State}
use Rattle.ledger.specs.Words.{fresh_book}
use Rattle.roll.specs.Pieces.{step_of, book_step}
use Rattle.lines.specs.declared.tally.Tally.{Tally}
use Rattle.lines.specs.Text.{header}
use Rattle.lines.specs.Turns as lines

-- what turns carry on: the book and the tally
pub record Carried : Type 0 where
  pub book : List ℕ
  pub tally : Tally

-- what a turn does, and the book that it leaves
unfoldable pub on_book : List ℕ → lines.Effect → Effect Carried
on_book book lines.asks = asks
on_book book (lines.puts used text tally) = puts used text (record { book = book; tally = tally })
on_book book (lines.ends text) = ends text

-- the turn that comes, under a file
unfoldable pub turn_under : List ℕ → Turns Carried
turn_under file kept more on =
    on_book (book_step file on.book kept more) (lines.effect_of (step_of file on.book kept more) on.tally)

-- a run begins with a fresh book and the header
unfoldable pub start : State Carried
start =
    record {
      kept = [];
      more = true;
      held = header;
      carried = record { book = fresh_book; tally = record { accepted = 0; refused = 0; cents = 0 } };
    }
