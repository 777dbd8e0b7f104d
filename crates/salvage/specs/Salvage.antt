-- docs/RULES.md, section 22: a torn roll. What is kept of it, and what is printed, are functions of its bytes alone.
use Rattle.std.specs.Prelude.{ℕ, zero, suc, ◌+◌, ◌-◌, List, [], ◌∷◌, ◌++◌, Option, None, Some, cond, length, take, drop, ltb}
use Rattle.text.specs.Texts.{bytes, decimal}
use Rattle.trip.specs.declared.Shape.TheVariants.{Stops, NoTrip}
use Rattle.trip.specs.Record.{trip_size, class_at, level_at, party_at, shape_at}
use Rattle.trip.specs.Trips.{party_right}

-- the longest roll that is salvaged
abbrev pub most_roll : ℕ
most_roll = 60000

-- the length of the record that is kept where it begins at a place: a whole frame, kind 7, a body of 20 + 2n, and class,
-- level, party and n in their ranges
unfoldable pub kept_at : List ℕ → ℕ → Option ℕ
kept_at roll at =
    elim (shape_at roll at) [
      | NoTrip ↦ None
      | Stops n ↦ cond (party_right (class_at roll at) (level_at roll at) (party_at roll at) n) (Some (trip_size n)) None
    ]

-- a piece of a roll, by its offset and its length: a record that is kept, or a longest run of bytes that are dropped
pub data Piece : Type 0 where
  kept : ℕ → ℕ → Piece
  dropped : ℕ → ℕ → Piece

-- the run between two places, and none where no byte lies between them
unfoldable pub run_of : ℕ → ℕ → List Piece
run_of from to = cond (ltb from to) (dropped from (to - from) ∷ []) []

-- the pieces from a place on, where the bytes from `from` up to it are dropped: a record that is kept is passed, else one byte is dropped. Each
-- step passes a byte at least, so as many steps as there are bytes are enough
unfoldable pub pieces_from : ℕ → List ℕ → ℕ → ℕ → List Piece
pieces_from zero roll from at = run_of from at
pieces_from (suc steps) roll from at =
    let one_dropped = pieces_from steps roll from (at + 1) in
    let next : List Piece =
    elim (kept_at roll at) [
      | None ↦ one_dropped
      | Some size ↦ run_of from at ++ (kept at size ∷ pieces_from steps roll (at + size) (at + size))
    ]
    in
    cond (ltb at (length roll)) next (run_of from at)

unfoldable pub pieces_of : List ℕ → List Piece
pieces_of roll = pieces_from (length roll) roll 0 0

-- the bytes at a place
abbrev pub span : List ℕ → ℕ → ℕ → List ℕ
span roll offset size = take size (drop offset roll)

-- the kept records, one behind the other
unfoldable pub kept_in : List ℕ → List Piece → List ℕ
kept_in roll [] = []
kept_in roll (kept offset size ∷ rest) = span roll offset size ++ kept_in roll rest
kept_in roll (dropped offset size ∷ rest) = kept_in roll rest

-- a line for each dropped run: its offset and its length
unfoldable pub line_of : ℕ → ℕ → List ℕ
line_of offset size = (decimal offset ++ bytes " ") ++ (decimal size ++ bytes "\n")

unfoldable pub lines_in : List Piece → List ℕ
lines_in [] = []
lines_in (kept offset size ∷ rest) = lines_in rest
lines_in (dropped offset size ∷ rest) = line_of offset size ++ lines_in rest

-- all that is kept of a roll, and all lines
unfoldable pub kept_of : List ℕ → List ℕ
kept_of roll = kept_in roll (pieces_of roll)

unfoldable pub lines_of : List ℕ → List ℕ
lines_of roll = lines_in (pieces_of roll)

-- what comes of a roll: it is too long; or what is kept, and the lines of what is dropped
pub data Outcome : Type 0 where
  too_long : Outcome
  salvaged : List ℕ → List ℕ → Outcome

unfoldable pub outcome_of : List ℕ → Outcome
outcome_of roll = cond (ltb most_roll (length roll)) too_long (salvaged (kept_of roll) (lines_of roll))

-- what is printed of it
unfoldable pub printed : Outcome → List ℕ
printed too_long = bytes "too long\n"
printed (salvaged records lines) = lines
