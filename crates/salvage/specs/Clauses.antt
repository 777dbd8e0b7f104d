-- What the functions of `salvage` ask and answer.
use Rattle.std.specs.Prelude.{ℕ, ◌+◌, ◌*◌, ◌≤◌, ◌<◌, ◌≡◌, List, Option, None, Some, cond, length, take, drop, ltb}
use Rattle.std.proofs.Math.Seq.{paste}
use Rattle.text.specs.Clauses.{Put}
use Rattle.salvage.specs.declared.Pass.{Pass}
use Rattle.salvage.specs.Salvage.{most_roll, kept_at, run_of, lines_in, too_long, salvaged, outcome_of, printed}

-- the room for the lines: a run and the record behind it have 29 bytes at least, and their line 12 at most; behind those come the last line and
-- two bytes to spare
abbrev pub room_size : ℕ
room_size = 24841

-- what a run's line asks: there are no more lines than the bytes before the run allow
pub record LineRoom (lines : List ℕ) (from to : ℕ) : Type 0 where
  pub few : 29 * length lines ≤ 12 * from
  pub order : from ≤ to
  pub short : to ≤ most_roll

-- a run's line has so many bytes at most
abbrev pub most_line : ℕ → ℕ → ℕ
most_line from to = cond (ltb from to) 12 0

-- bytes from one place on stand from another on, too, and all others where they stood
abbrev pub moved_to : List ℕ → ℕ → ℕ → ℕ → List ℕ
moved_to roll to from count = paste roll to (drop from roll) count

-- what a step asks: a byte that is not passed yet
pub record Passing (roll lines : List ℕ) (pass : Pass) : Type 0 where
  pub line_room : LineRoom lines pass.from pass.at
  pub kept_before : pass.kept ≤ pass.from
  pub left : pass.at < length roll
  pub short : length roll ≤ most_roll

-- one step: a byte is dropped; or a record is kept, behind the line of the run before it
pub data Stepped (roll lines : List ℕ) (pass : Pass) : List ℕ → List ℕ → Pass → Type 0 where
  one_dropped : kept_at roll pass.at ≡ None
      → Stepped roll lines pass roll lines (record { at = pass.at + 1; from = pass.from; kept = pass.kept })
  one_kept : {size : ℕ} {roll' lines' : List ℕ} → kept_at roll pass.at ≡ Some size
      → Put (lines_in (run_of pass.from pass.at)) (most_line pass.from pass.at) lines lines'
      → roll' ≡ moved_to roll pass.kept pass.at size
      → Stepped roll lines pass roll' lines' (record { at = pass.at + size; from = pass.at + size; kept = pass.kept + size })

-- what is kept stands at the roll's front, whose other bytes stay, and what is printed are the lines, which have their room
abbrev pub Done : List ℕ → List ℕ → List ℕ → Option ℕ → Type 0
Done whole roll lines None = (outcome_of whole ≡ too_long) × ((lines ≡ printed too_long) × ((length lines ≤ room_size) × (roll ≡ whole)))
Done whole roll lines (Some bytes) =
    (outcome_of whole ≡ salvaged (take bytes roll) lines)
    × ((bytes ≤ length roll) × ((length lines ≤ room_size) × (drop bytes roll ≡ drop bytes whole)))
