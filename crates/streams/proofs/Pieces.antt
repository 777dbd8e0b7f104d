-- Whatever the pieces in which a file comes: what stands in the room is the pieces one behind the other.
-- Assumes nothing.
use Prim.Native.Nat.{ℕ, ◌+◌, ◌≤◌}
use native.Mathlib.Omega.{arith}
use mathlib.Core.Path.{◌≡◌, refl, sym, subst, ap, ◌∙◌}
use mathlib.Core.List.{List, [], ◌∷◌, ◌++◌, append-nil, append_assoc}
use Rattle.std.specs.Prelude.{Result, Ok, Err}
use lib.ListN.{length, take, drop}
use lib.Seq.{take-add}
use Rattle.streams.specs.Clauses.{Came, bytes_read}
use Rattle.streams.specs.declared.input.Failed.{Failed}
use Rattle.streams.specs.Pieces.{together, Fills, nothing_yet, next_piece, Filled, bytes_come}

-- a piece behind the others
one_behind : (pieces : List (List ℕ)) (piece : List ℕ) → together (pieces ++ (piece ∷ [])) ≡ together pieces ++ piece
unfolding together
one_behind [] piece = append-nil piece
one_behind (first ∷ pieces) piece = ap (first ++◌) (one_behind pieces piece) ∙ sym (append_assoc first (together pieces) piece)

pub came_together : {room : List ℕ} {count : ℕ} {pieces : List (List ℕ)} → Fills room count pieces → take count room ≡ together pieces
unfolding together
came_together nothing_yet = refl
came_together (next_piece {room} {room'} {place} {bytes} {pieces} fills came) =
    take-add place bytes room' ∙ ap (◌++ take bytes (drop place room')) (came.before_it ∙ came_together fills)
    ∙ sym (one_behind pieces (take bytes (drop place room')))

-- ---- Reading, piece by piece.

-- one read, by its answer
pub read_is :
    {E : Type 0} {before after : List ℕ} {place bytes : ℕ} {answer : Result ℕ E}
    → Came before place after (bytes_read answer) → answer ≡ Ok bytes → Came before place after bytes
read_is {before = before} {after} {place} came is = subst (λ (answer : Result ℕ _). Came before place after (bytes_read answer)) is came

pub read_failed :
    {E : Type 0} {before after : List ℕ} {place : ℕ} {error : E} {answer : Result ℕ E}
    → Came before place after (bytes_read answer) → answer ≡ Err error → Came before place after 0
read_failed {before = before} {after} {place} came is = subst (λ (answer : Result ℕ _). Came before place after (bytes_read answer)) is came

pub nothing_came : (room : List ℕ) → Filled room 0
nothing_came room = record { fits = omega arith; pieces = []; came = nothing_yet }

pub more_came :
    {room room' : List ℕ} {place bytes : ℕ} → Filled room place → Came room place room' bytes → length room' ≡ length room → Filled room' (place + bytes)
more_came f came same =
    record { fits = omega (arith, came.fits); pieces = _; came = next_piece f.came came }

-- a read that gives nothing leaves what came
pub none_came :
    {room room' : List ℕ} {place bytes : ℕ} → Filled room place → Came room place room' bytes → length room' ≡ length room → Filled room' place
none_came {room} {room'} {place} f came same =
    let none : Came room place room' 0 = record { fits = omega (arith, f.fits); before_it = came.before_it } in
    let there : place + 0 ≡ place = omega arith in
    rw there at (more_came f none same)

-- a room that was filled has the bytes that came
pub come_within :
    {room : List ℕ} {bytes : ℕ} {answer : Result ℕ Failed} → Filled room (bytes_come answer) → answer ≡ Ok bytes → bytes ≤ length room
come_within {room = room} filled is = (subst (λ (answer : Result ℕ Failed). Filled room (bytes_come answer)) is filled).fits
