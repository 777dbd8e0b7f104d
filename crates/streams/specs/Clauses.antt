-- What reading leaves in a room, and what is kept there for the next read.
use Rattle.std.specs.Prelude.{ℕ, ◌+◌, ◌≤◌, ◌≡◌, List, length, take, drop, Result, Ok, Err}

-- so many bytes as one read gave: none where it failed
abbrev pub bytes_read : {E : Type 0} → Result ℕ E → ℕ
bytes_read (Ok bytes) = bytes
bytes_read (Err error) = 0

-- bytes came behind a place, and what stood before it still does
pub record Came (before : List ℕ) (place : ℕ) (after : List ℕ) (bytes : ℕ) : Type 0 where
  pub fits : place + bytes ≤ length before
  pub before_it : take place after ≡ take place before

-- the bytes from `from` to `to` stand at the start, and are so many
pub record Kept (before : List ℕ) (from to : ℕ) (after : List ℕ) (count : ℕ) : Type 0 where
  pub many : count + from ≡ to
  pub moved : take count after ≡ take count (drop from before)
