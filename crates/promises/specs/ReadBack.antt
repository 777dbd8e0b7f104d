-- docs/RULES.md, section 15: the records that settling writes, read back one after another.
use Rattle.std.specs.Prelude.{ℕ, ◌+◌, ◌≡◌, List, [], ◌∷◌, length}
use Rattle.statement.specs.Record.{Part, record_of}
use Rattle.reader.specs.Fields.{Complete, fields_of}
use Rattle.reader.specs.Ranges.{InRange}
use Rattle.reader.specs.Reading.{told, read_at}

-- from a place of a statement on, each part's record is accepted, with every field that of the part, and the next is read where it ends
pub data ReadFrom (statement : List ℕ) : ℕ → List Part → Type 0 where
  over : {place : ℕ} → ReadFrom statement place []
  then :
      {place : ℕ} {part : Part} {more : List Part} → read_at statement place ≡ told (fields_of part) (length (record_of part))
      → ReadFrom statement (place + length (record_of part)) more → ReadFrom statement place (part ∷ more)

-- each part tells fields that a reader accepts
pub data EachReadable : List Part → Type 0 where
  nobody : EachReadable []
  also : {part : Part} {more : List Part} → Complete (fields_of part) → InRange (fields_of part) → EachReadable more → EachReadable (part ∷ more)
