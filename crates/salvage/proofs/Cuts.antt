-- How a roll is cut into its pieces, step by step: what the definition's steps are, without their number.
-- Assumes nothing.
use Prim.Native.Nat.{ℕ, zero, suc, ◌+◌, ◌≤◌, ◌<◌}
use native.Mathlib.Omega.{arith}
use native.Mathlib.Decide.{dec_lt}
use mathlib.Core.Path.{◌≡◌, refl, sym, ◌∙◌}
use mathlib.Core.List.{List, ◌∷◌, ◌++◌}
use Rattle.std.specs.Prelude.{Option, None, Some}
use borrow.Author.Tests.{lt-ltb, le-ltb}
use lib.ListN.{length}
use Rattle.salvage.specs.Salvage.{kept_at, Piece, kept, run_of, pieces_from, pieces_of}
use Rattle.salvage.proofs.Records.{kept_range}

-- the pieces from a place on, where bytes are dropped from another place on
pub data Cut (roll : List ℕ) : ℕ → ℕ → List Piece → Type 0 where
  ended : {from at : ℕ} → at ≡ length roll → Cut roll from at (run_of from at)
  drops : {from at : ℕ} {rest : List Piece} → at < length roll → kept_at roll at ≡ None → Cut roll from (at + 1) rest → Cut roll from at rest
  keeps : {from at size : ℕ} {rest : List Piece} → kept_at roll at ≡ Some size → Cut roll (at + size) (at + size) rest
      → Cut roll from at (run_of from at ++ (kept at size ∷ rest))

-- each way through the definition
module _ (steps : ℕ) (roll : List ℕ) (from at : ℕ) where
  at_end : length roll ≤ at → pieces_from (suc steps) roll from at ≡ run_of from at
  unfolding pieces_from
  at_end over = rw (le-ltb at (length roll) over)

  drops_one : at < length roll → kept_at roll at ≡ None → pieces_from (suc steps) roll from at ≡ pieces_from steps roll from (at + 1)
  unfolding pieces_from
  drops_one inside none = rw (lt-ltb at (length roll) inside, none)

  keeps_one :
      (size : ℕ) → at < length roll → kept_at roll at ≡ Some size
      → pieces_from (suc steps) roll from at ≡ run_of from at ++ (kept at size ∷ pieces_from steps roll (at + size) (at + size))
  unfolding pieces_from
  keeps_one size inside is = rw (lt-ltb at (length roll) inside, is)

-- With a step for each byte that is left, the definition cuts the roll to its end.
one_step :
    (steps : ℕ) (roll : List ℕ) (from at : ℕ) → length roll ≤ at + suc steps
    → ((from at : ℕ) → at ≤ length roll → length roll ≤ at + steps → Cut roll from at (pieces_from steps roll from at))
    → at < length roll → (size : Option ℕ) → kept_at roll at ≡ size → Cut roll from at (pieces_from (suc steps) roll from at)
one_step steps roll from at enough on within None none =
    rw (drops_one steps roll from at within none) (drops within none (on from (at + 1) (omega arith) (omega arith)))
one_step steps roll from at enough on within (Some size) is =
    let range = kept_range roll at size is in
    rw (keeps_one steps roll from at size within is) (keeps is (on (at + size) (at + size) (omega arith) (omega arith)))

cut_from : (steps : ℕ) (roll : List ℕ) (from at : ℕ) → at ≤ length roll → length roll ≤ at + steps → Cut roll from at (pieces_from steps roll from at)
unfolding pieces_from
cut_from zero roll from at inside enough = ended {at = at} (omega arith)
cut_from (suc steps) roll from at inside enough =
    elim (dec_lt at (length roll)) [
      | no over ↦ rw (at_end steps roll from at (omega arith)) (ended {at = at} (omega arith))
      | yes within ↦ one_step steps roll from at enough (λ from at inside enough. cut_from steps roll from at inside enough) within (kept_at roll at) refl
    ]

pub cut : (roll : List ℕ) → Cut roll 0 0 (pieces_of roll)
unfolding pieces_of
cut roll = cut_from (length roll) roll 0 0 (omega arith) (omega arith)

-- a record is kept at a place or none is
one_or_none : (roll : List ℕ) (at size : ℕ) → kept_at roll at ≡ Some size → kept_at roll at ≡ None → ⊥
one_or_none roll at size is none = let z : ◌≡◌ {A = ℕ} 0 1 = cc in omega arith

-- What is left of the pieces, by what stands at the place.
module _ {roll : List ℕ} {from at : ℕ} where
  pub when_over : {pieces : List Piece} → Cut roll from at pieces → at ≡ length roll → pieces ≡ run_of from at
  when_over (ended is) over = refl
  when_over (drops inside none rest) over = absurd (omega arith)
  when_over (keeps {size = size} is rest) over = absurd (let range = kept_range roll at size is in omega arith)

  pub when_dropped : {pieces : List Piece} → Cut roll from at pieces → at < length roll → kept_at roll at ≡ None → Cut roll from (at + 1) pieces
  when_dropped (ended is) within none = absurd (omega arith)
  when_dropped (drops inside none' rest) within none = rest
  when_dropped (keeps {size = size} is rest) within none = absurd (one_or_none roll at size is none)

  pub when_kept :
      {pieces : List Piece} (size : ℕ) → Cut roll from at pieces → kept_at roll at ≡ Some size
      → (rest : List Piece) × Cut roll (at + size) (at + size) rest × (pieces ≡ run_of from at ++ (kept at size ∷ rest))
  when_kept size (ended over) is = absurd (let range = kept_range roll at size is in omega arith)
  when_kept size (drops inside none rest) is = absurd (one_or_none roll at size is none)
  when_kept size (keeps {size = size'} {rest = pieces} is' rest) is =
      let found : ◌≡◌ {A = Option ℕ} (Some size') (Some size) = sym is' ∙ is in
      let same : size' ≡ size = cc in
      (pieces, rw same at rest, rw same)
