-- What the contracts say: what a turn did, and that every sum fits.
use Rattle.std.specs.Prelude.{ℕ, ◌+◌, ◌*◌, ◌≤◌, ◌<◌, ◌≡◌, Bool, true, List, ◌++◌, length}
use Rattle.text.specs.Texts.{bytes, decimal}
use Rattle.text.specs.Clauses.{Put}
use Rattle.editions.specs.declared.Editions.{Editions}
use Rattle.roll.specs.declared.Line.{Line}
use Rattle.statement.specs.Record.{most_parts}
use Rattle.deciding.specs.Clauses.{Ready}
use Rattle.roll.specs.Pieces.{step_of, book_step}
use Rattle.roll.specs.Clauses.{most_line_cents}
use Rattle.lines.specs.declared.tally.Tally.{Tally}
use Rattle.lines.specs.declared.turns.Turn.{Turn}
use Rattle.lines.specs.declared.turns.Turn.TheVariants.{More, On, Over}
use Rattle.roll.specs.Lines.{most_records}
use Rattle.lines.specs.Turns.{records, counted, Effect, asks, puts, ends, line_effect, effect_of}

-- a part's line, or the tail, takes at most so many bytes; a record has one for each part; and a turn puts these and the tail
abbrev pub most_line : ℕ
most_line = 128

abbrev pub most_record : ℕ
most_record = most_parts * most_line

abbrev pub most_turn : ℕ
most_turn = most_record + most_line

-- what a part's line begins with, and its bytes at most: the trip's number, and the ride's area, kilometres and minutes
abbrev pub ride_text : ℕ → ℕ → ℕ → ℕ → List ℕ
ride_text number area km minutes = ((decimal number ++ (bytes " " ++ decimal area)) ++ (bytes " " ++ decimal km)) ++ (bytes " " ++ decimal minutes)

abbrev pub most_ride : ℕ
most_ride = 43

-- each record has added what its parts can say at most
abbrev pub CentsFit : Tally → Type 0
CentsFit tally = tally.cents ≤ records tally * most_line_cents

-- a record may come
pub record Counting (tally : Tally) : Type 0 where
  pub few : records tally < most_records
  pub cents : CentsFit tally

pub record Counted (tally : Tally) (line : Line) (r : Tally) : Type 0 where
  pub is : r ≡ counted tally line
  pub one : records r ≡ records tally + 1
  pub cents : CentsFit r

-- what a turn does stands in the output, and in its answer
pub data Did (before after : List ℕ) : Effect → Turn → Type 0 where
  asked : after ≡ before → Did before after asks More
  put : {used : ℕ} {text : List ℕ} {tally : Tally} → Put text most_record before after → Did before after (puts used text tally) (On used tally)
  ended : {text : List ℕ} → Put text most_turn before after → Did before after (ends text) Over

pub record LineTaken (tally : Tally) (line : Line) (used : ℕ) (last : Bool) (out out' : List ℕ) (r : Turn) : Type 0 where
  pub did : Did out out' (line_effect tally line used last) r
  pub cents : CentsFit (counted tally line)

-- where more bytes are wanted, fewer are there than the longest record has; where the run goes on, it has one record more, and another
-- may come; what was put fits the room that a turn takes
abbrev pub Range : List ℕ → Bool → Tally → List ℕ → List ℕ → Turn → Type 0
Range piece more tally out out' More = (more ≡ true) × (length piece < 1026)
Range piece more tally out out' (On used after) =
    (used ≤ length piece) × ((length out' ≤ length out + most_record) × (Counting after × (records after ≡ records tally + 1)))
Range piece more tally out out' Over = length out' ≤ length out + most_turn

pub record Turned
    (file : List ℕ) (editions : Editions) (book piece : List ℕ) (more : Bool) (tally : Tally) (out book' out' : List ℕ) (r : Turn)
    : Type 0 where
  pub did : Did out out' (effect_of (step_of file book piece more) tally) r
  pub book_is : book' ≡ book_step file book piece more
  pub again : Ready file editions book'
  pub range : Range piece more tally out out' r
