-- What reading leaves: the pieces in which a file comes stand one behind the other.
use Rattle.std.specs.Prelude.{ℕ, ◌+◌, ◌≤◌, List, [], ◌∷◌, ◌++◌, length, take, drop, Result, Ok, Err}
use Rattle.streams.specs.declared.input.Failed.{Failed}
use Rattle.streams.specs.Clauses.{Came}

-- pieces, one behind the other
unfoldable pub together : List (List ℕ) → List ℕ
together [] = []
together (piece ∷ rest) = piece ++ together rest

-- a room that pieces have come into: each read leaves what came before, and its bytes are the next piece
pub data Fills : List ℕ → ℕ → List (List ℕ) → Type 0 where
  nothing_yet : {room : List ℕ} → Fills room 0 []
  next_piece : {room room' : List ℕ} {place bytes : ℕ} {pieces : List (List ℕ)} → Fills room place pieces → Came room place room' bytes
      → Fills room' (place + bytes) (pieces ++ (take bytes (drop place room') ∷ []))

-- so many bytes of the room have come
pub record Filled (room : List ℕ) (count : ℕ) : Type 0 where
  pub fits : count ≤ length room
  pub pieces : List (List ℕ)
  pub came : Fills room count pieces

-- so many bytes as have come, before a failed read too
abbrev pub bytes_come : Result ℕ Failed → ℕ
bytes_come (Ok bytes) = bytes
bytes_come (Err failed) = failed.bytes
