-- What the rules say of a roll's pieces, without saying how they are found.
use Rattle.std.specs.Prelude.{ℕ, ◌+◌, ◌<◌, ◌≡◌, List, [], ◌∷◌, ◌++◌, None, Some, Bool, true, false, length}
use Rattle.salvage.specs.Salvage.{kept_at, Piece, kept, dropped, span}

-- the pieces from a place on lie one behind the other up to the roll's end. Each kept record passes the test; a run has a byte at least, and at
-- none of its bytes does a record begin that passes. A run comes only where none ends, so that two never touch
pub data Right (roll : List ℕ) : Bool → ℕ → List Piece → Type 0 where
  at_end : {after_run : Bool} {at : ℕ} → at ≡ length roll → Right roll after_run at []
  a_record : {after_run : Bool} {at size : ℕ} {rest : List Piece} → kept_at roll at ≡ Some size
      → Right roll false (at + size) rest → Right roll after_run at (kept at size ∷ rest)
  a_run : {at size : ℕ} {rest : List Piece} → 0 < size → ((i : ℕ) → i < size → kept_at roll (at + i) ≡ None)
      → Right roll true (at + size) rest → Right roll false at (dropped at size ∷ rest)

-- all pieces, one behind the other
unfoldable pub joined : List ℕ → List Piece → List ℕ
joined roll [] = []
joined roll (kept offset size ∷ rest) = span roll offset size ++ joined roll rest
joined roll (dropped offset size ∷ rest) = span roll offset size ++ joined roll rest

-- the lengths of the kept records, and of the dropped runs
unfoldable pub kept_length : List Piece → ℕ
kept_length [] = 0
kept_length (kept offset size ∷ rest) = size + kept_length rest
kept_length (dropped offset size ∷ rest) = kept_length rest

unfoldable pub dropped_length : List Piece → ℕ
dropped_length [] = 0
dropped_length (kept offset size ∷ rest) = dropped_length rest
dropped_length (dropped offset size ∷ rest) = size + dropped_length rest

-- a record that passes the test and is nothing but itself
pub record Passes (record-bytes : List ℕ) : Type 0 where
  pub whole : kept_at record-bytes 0 ≡ Some (length record-bytes)
  pub some : 0 < length record-bytes

-- records one behind the other, each of which passes
pub data AllPass : List ℕ → Type 0 where
  no_more : AllPass []
  one_more : {first rest : List ℕ} → Passes first → AllPass rest → AllPass (first ++ rest)
