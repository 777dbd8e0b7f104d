-- A statement taken piece by piece: what a turn does with the bytes that have come, and all turns together.
use Rattle.std.specs.Prelude.{ℕ, ◌+◌, ◌≡◌, Bool, cond, ◌&&◌, List, [], ◌++◌, length, take, drop, ltb, eqb}
use Rattle.wire.specs.Frame.{frame_at, longest_record}
use Rattle.wire.specs.declared.Frame.TheVariants as frame
use Rattle.reader.specs.Reading.{read_at, broken_frame}
use Rattle.csv_table.specs.Text.{refused_text, record_text}

-- as many records as 64 bits can number, four bytes each at least: no statement has more
abbrev pub most_records : ℕ
most_records = 18446744073709551615

-- what a turn does: it asks for more bytes; or it uses bytes, puts a text and leaves the number of its record; or it puts a text, and the
-- statement is over
pub data Effect : Type 0 where
  asks : Effect
  puts : ℕ → List ℕ → ℕ → Effect
  ends : List ℕ → Effect

-- a record that uses so many bytes, its text and its number
unfoldable pub record_effect : ℕ → List ℕ → ℕ → Effect
record_effect used text number = cond (eqb number most_records) (ends text) (puts used text number)

-- where no whole record stands at the start of so many bytes, more of them may make one, unless the longest had come already; then no byte is
-- the statement's end, and anything else a broken frame
unfoldable pub broken_effect : ℕ → Bool → ℕ → Effect
broken_effect size more number =
    cond (more && ltb size longest_record) asks (ends (cond (eqb size 0) [] (refused_text number broken_frame)))

-- what stands at the start of a piece, where the statement may go on behind it or not; `number` is that of the record before
unfoldable pub effect_of : List ℕ → Bool → ℕ → Effect
effect_of piece more number =
    elim (frame_at piece 0) [
      | frame.Broken ↦ broken_effect (length piece) more (number + 1)
      | frame.Whole kind body ↦ record_effect (4 + body) (record_text (number + 1) (read_at (take (4 + body) piece) 0)) (number + 1)
    ]

-- Turn after turn: the bytes that have come and are not used yet, whether more can come, the number of the record before, the bytes that have
-- not come yet, and all that is put from here on. The statement comes in pieces of any lengths; where one is asked for and no byte comes, it is at
-- its end.
pub data Turns : List ℕ → Bool → ℕ → List ℕ → List ℕ → Type 0 where
  fed : {kept : List ℕ} {more : Bool} {number : ℕ} {rest text : List ℕ} (piece : List ℕ) → effect_of kept more number ≡ asks
      → (length piece ≡ 0 → rest ≡ []) → Turns (kept ++ piece) (ltb 0 (length piece)) number rest text
      → Turns kept more number (piece ++ rest) text
  went_on : {kept : List ℕ} {more : Bool} {number : ℕ} {rest : List ℕ} {used : ℕ} {first : List ℕ} {next : ℕ} {text : List ℕ}
      → effect_of kept more number ≡ puts used first next → Turns (drop used kept) more next rest text → Turns kept more number rest (first ++ text)
  is_over : {kept : List ℕ} {more : Bool} {number : ℕ} {rest text : List ℕ} → effect_of kept more number ≡ ends text
      → Turns kept more number rest text
