-- docs/RULES.md, section 16 (R16.3 to R16.5): a turn of a run, which does something with what stands at the start of the bytes that have come.
use Rattle.std.specs.Prelude.{ℕ, ◌+◌, Bool, true, false, cond, ◌||◌, List, ◌++◌, eqb}
use Rattle.roll.specs.Lines.{most_records}
use Rattle.roll.specs.declared.Line.{Line}
use Rattle.roll.specs.declared.Line.TheVariants.{Charged, Both, Refused}
use Rattle.roll.specs.declared.Step.{Step}
use Rattle.roll.specs.declared.Step.TheVariants.{End, More, Record, Broken}
use Rattle.lines.specs.declared.tally.Tally.{Tally}
use Rattle.lines.specs.Text.{line_text, tail_text}

-- the records of a tally
abbrev pub records : Tally → ℕ
records tally = tally.accepted + tally.refused

-- a tally with a record more: two parts are one accepted trip
unfoldable pub counted : Tally → Line → Tally
counted tally (Charged entry) =
    record { accepted = tally.accepted + 1; refused = tally.refused; cents = tally.cents + entry.cents }
counted tally (Both one other) =
    record { accepted = tally.accepted + 1; refused = tally.refused; cents = tally.cents + one.cents + other.cents }
counted tally (Refused refusal) = record { accepted = tally.accepted; refused = tally.refused + 1; cents = tally.cents }

-- the last line's text, of a tally
abbrev pub tail_of : Tally → List ℕ
tail_of tally = tail_text tally.accepted tally.refused tally.cents

-- what a turn does: it asks for more bytes; or it uses bytes, puts a text and leaves a tally; or it puts a text, and the run is over
pub data Effect : Type 0 where
  asks : Effect
  puts : ℕ → List ℕ → Tally → Effect
  ends : List ℕ → Effect

-- a record's line, and the tail behind the last one
unfoldable pub line_effect : Tally → Line → ℕ → Bool → Effect
line_effect tally line used last =
    let after = counted tally line in
    let text = line_text (records after) line in
    cond (last || eqb (records after) most_records) (ends (text ++ tail_of after)) (puts used text after)

-- a broken frame is refused with 5, and the run's last record
unfoldable pub effect_of : Step → Tally → Effect
effect_of More tally = asks
effect_of End tally = ends (tail_of tally)
effect_of Broken tally = line_effect tally (Refused 5) 0 true
effect_of (Record line used) tally = line_effect tally line used false
