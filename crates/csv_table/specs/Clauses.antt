-- What the contracts say: the room that a text takes, what a record tells, and what a turn did.
use Rattle.std.specs.Prelude.{ℕ, ◌+◌, ◌*◌, ◌≤◌, ◌<◌, ◌≡◌, Bool, true, List, ◌++◌, length}
use Rattle.wire.specs.Frame.{longest_record}
use Rattle.calendar.specs.Stamps.{last_minute}
use Rattle.calendar.specs.Moments.{moment_of}
use Rattle.caps.specs.declared.Cut.{Cut}
use Rattle.statement.specs.Record.{most_charges}
use Rattle.reader.specs.declared.Head.{Head}
use Rattle.reader.specs.declared.Whose.{Whose}
use Rattle.reader.specs.Fields.{charges_of}
use Rattle.reader.specs.Reading.{head_at}
use Rattle.reader.specs.Clauses.{ReadableAt}
use Rattle.text.specs.Texts.{bytes, decimal}
use Rattle.text.specs.Clauses.{Put}
use Rattle.csv_table.specs.declared.turns.Turn.{Turn}
use Rattle.csv_table.specs.declared.turns.Turn.TheVariants.{More, On, Over}
use Rattle.csv_table.specs.Text.{moment_text, off_text, cap_text}
use Rattle.csv_table.specs.Turns.{most_records, Effect, asks, puts, ends, effect_of}

-- a line's columns up to the minutes, and the three that tell what caps took off
abbrev pub head_columns : ℕ → Head → List ℕ
head_columns number head =
    decimal number
    ++ (bytes "," ++ moment_text (moment_of head.opening.0))
    ++ (bytes "," ++ decimal head.area)
    ++ (bytes "," ++ decimal head.km.0)
    ++ (bytes "," ++ decimal head.minutes.0)

abbrev pub cut_columns : Bool → Cut → List ℕ
cut_columns person cut =
    (bytes "," ++ off_text person cut) ++ (bytes "," ++ cap_text person cut cut.area) ++ (bytes "," ++ cap_text person cut cut.class)

-- a line takes at most so many bytes, and a turn puts one for each charge of a record
abbrev pub most_row : ℕ
most_row = 144

abbrev pub most_turn : ℕ
most_turn = most_charges * most_row

-- a record that was read: its head, whose its charges are, and that they can be read
pub record Tells (statement : List ℕ) (head : Head) (whose : Whose) : Type 0 where
  pub head_is : head ≡ head_at statement 0
  pub readable : ReadableAt statement 0 whose
  pub few : charges_of whose ≤ most_charges
  pub opening : head.opening.0 ≤ last_minute

-- what a turn does stands in the output, and in its answer
pub data Did (before after : List ℕ) : Effect → Turn → Type 0 where
  asked : after ≡ before → Did before after asks More
  put : {used : ℕ} {text : List ℕ} {number : ℕ} → Put text most_turn before after → Did before after (puts used text number) (On used number)
  ended : {text : List ℕ} → Put text most_turn before after → Did before after (ends text) Over

-- where more bytes are wanted, more can come, and fewer are there than the longest record has; where the run goes on, its number is one more,
-- and another record may come; what was put fits the room that a turn takes
abbrev pub Range : List ℕ → Bool → ℕ → List ℕ → List ℕ → Turn → Type 0
Range piece more number out out' More = (more ≡ true) × (length piece < longest_record)
Range piece more number out out' (On used next) =
    (used ≤ length piece) × ((length out' ≤ length out + most_turn) × ((next ≡ number + 1) × (next < most_records)))
Range piece more number out out' Over = length out' ≤ length out + most_turn

pub record Turned (piece : List ℕ) (more : Bool) (number : ℕ) (out out' : List ℕ) (r : Turn) : Type 0 where
  pub did : Did out out' (effect_of piece more number) r
  pub range : Range piece more number out out' r
