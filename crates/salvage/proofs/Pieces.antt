-- The theorems about a roll's pieces. They are right: kept records pass, at no dropped byte does one begin that passes, and two runs never touch. So
-- they are the roll again, and their lengths add up; a roll of records that pass is kept whole, and what was kept is one.
-- Assumes nothing.
use Prim.Native.Nat.{ℕ, ◌+◌, ◌-◌, ◌≤◌, ◌<◌}
use native.Mathlib.Omega.{arith}
use native.Mathlib.Decide.{dec_lt}
use mathlib.Core.Path.{◌≡◌, refl, sym, ap, ◌∙◌}
use mathlib.Core.Bool.{Bool, true, false}
use mathlib.Core.List.{List, [], ◌∷◌, ◌++◌, append-nil}
use Rattle.std.specs.Prelude.{None, Some}
use borrow.Author.Tests.{lt-ltb, le-ltb}
use lib.ListN.{length, take, drop, length-append, length-drop, drop_of_length-le, take-append-drop}
use lib.Seq.{drop-drop, drop_at, take_at, length-take-le}
use Rattle.salvage.specs.Salvage.{kept_at, Piece, kept, dropped, run_of, pieces_of, kept_in, line_of, lines_in, kept_of, lines_of}
use Rattle.salvage.specs.Right.{Right, at_end, a_record, a_run, joined, kept_length, dropped_length, AllPass, no_more, one_more}
use Rattle.salvage.proofs.Records.{kept_range, kept_drop, passes, passes_in_front}
use Rattle.salvage.proofs.Cuts.{Cut, ended, drops, keeps, cut, when_over, when_kept}

-- ---- The run between two places.

pub run_some : (from to : ℕ) → from < to → run_of from to ≡ dropped from (to - from) ∷ []
unfolding run_of
run_some from to some = rw (lt-ltb from to some)

pub run_none : (from to : ℕ) → to ≤ from → run_of from to ≡ []
unfolding run_of
run_none from to order = rw (le-ltb from to order)

-- nothing of a run is kept
pub kept_behind : (roll : List ℕ) (from to : ℕ) (rest : List Piece) → kept_in roll (run_of from to ++ rest) ≡ kept_in roll rest
unfolding kept_in
kept_behind roll from to rest =
    elim (dec_lt from to) [
      | yes some ↦ rw (run_some from to some)
      | no order ↦ rw (run_none from to (omega arith))
    ]

-- its line stands before those of what comes behind it
pub lines_behind : (from to : ℕ) (rest : List Piece) → lines_in (run_of from to ++ rest) ≡ lines_in (run_of from to) ++ lines_in rest
unfolding lines_in
lines_behind from to rest =
    elim (dec_lt from to) [
      | yes some ↦ rw (run_some from to some) (ap (◌++ lines_in rest) (sym (append-nil (line_of from (to - from)))))
      | no order ↦ rw (run_none from to (omega arith))
    ]

-- ---- The pieces are right.

-- at none of the bytes between two places does a record begin that passes
pub Clear : List ℕ → ℕ → ℕ → Type 0
Clear roll from to = (i : ℕ) → from ≤ i → i < to → kept_at roll i ≡ None

-- behind a run, or none, come pieces that may stand behind both
run_right :
    (roll : List ℕ) (from at : ℕ) (rest : List Piece) → from ≤ at → Clear roll from at → ((after_run : Bool) → Right roll after_run at rest)
    → Right roll false from (run_of from at ++ rest)
unfolding Clear
run_right roll from at rest order clear behind =
    elim (dec_lt from at) [
      | yes some ↦
          let there : from + (at - from) ≡ at = omega arith in
          rw (run_some from at some)
          (a_run {size = at - from} {rest = rest} (omega arith) (λ i within. clear (from + i) (omega arith) (omega arith)) (rw there (behind true)))
      | no over ↦
          let same : from ≡ at = omega arith in
          rw (run_none from at (omega arith), same) (behind false)
    ]

cut_right :
    {roll : List ℕ} {from at : ℕ} {pieces : List Piece} → Cut roll from at pieces → from ≤ at → Clear roll from at
    → Right roll false from pieces
unfolding Clear
cut_right {roll} {from} {at} (ended over) order clear =
    rw append-nil at (run_right roll from at [] order clear (λ after_run. at_end over))
cut_right {roll} {from} {at} (drops inside none rest) order clear =
    cut_right rest (omega arith)
    (λ i from-it before_it.
    elim (dec_lt i at) [
      | yes earlier ↦ clear i from-it earlier
      | no here ↦ let same : i ≡ at = omega arith in rw same none
    ])
cut_right {roll} {from} {at} (keeps {size = size} {rest = pieces} is rest) order clear =
    let behind = cut_right rest (omega arith) (λ i from-it before_it. absurd (omega arith)) in
    run_right roll from at (kept at size ∷ pieces) order clear (λ after_run. a_record is behind)

pub pieces_right : (roll : List ℕ) → Right roll false 0 (pieces_of roll)
unfolding Clear
pieces_right roll = cut_right (cut roll) (omega arith) (λ i from-it before_it. absurd (omega arith))

-- ---- The pieces, one behind the other, are the roll.

front_and_back : (roll : List ℕ) (at size : ℕ) → take size (drop at roll) ++ drop (at + size) roll ≡ drop at roll
front_and_back roll at size =
    rw (sym (drop-drop size at roll)) (take-append-drop size (drop at roll))

right_joined : {roll : List ℕ} {after_run : Bool} {at : ℕ} {pieces : List Piece} → Right roll after_run at pieces → joined roll pieces ≡ drop at roll
unfolding joined
right_joined {roll} (at_end is) = rw is (sym (drop_of_length-le roll {i = length roll} (omega arith)))
right_joined {roll} (a_record {at = at} {size = size} is rest) =
    ap (take size (drop at roll) ++◌) (right_joined rest) ∙ front_and_back roll at size
right_joined {roll} (a_run {at = at} {size = size} some clear rest) =
    ap (take size (drop at roll) ++◌) (right_joined rest) ∙ front_and_back roll at size

pub pieces_are_the_roll : (roll : List ℕ) → joined roll (pieces_of roll) ≡ roll
pieces_are_the_roll roll = right_joined (pieces_right roll)

-- ---- Their lengths add up.

right_lengths :
    {roll : List ℕ} {after_run : Bool} {at : ℕ} {pieces : List Piece} → Right roll after_run at pieces
    → (at + (kept_length pieces + dropped_length pieces) ≡ length roll) × (length (kept_in roll pieces) ≡ kept_length pieces)
unfolding kept_length dropped_length kept_in
right_lengths (at_end is) = (omega arith, refl)
right_lengths {roll} (a_record {at = at} {size = size} {rest = pieces} is rest) =
    let on = right_lengths rest in
    let range = kept_range roll at size is in
    let there = length-drop at roll in
    let long : length (take size (drop at roll)) ≡ size = length-take-le size (drop at roll) (omega arith) in
    (omega (arith, on.0), length-append (take size (drop at roll)) (kept_in roll pieces) ∙ rw (long, on.1))
right_lengths (a_run some clear rest) = let on = right_lengths rest in (omega (arith, on.0), on.1)

pub lengths_add_up : (roll : List ℕ) → length (kept_of roll) + dropped_length (pieces_of roll) ≡ length roll
unfolding kept_of
lengths_add_up roll = let all = right_lengths (pieces_right roll) in omega (arith, all.0, all.1)

-- ---- A roll of records that pass is kept whole.

whole_from :
    {roll records : List ℕ} {at : ℕ} {pieces : List Piece} → AllPass records → drop at roll ≡ records → at ≤ length roll → Cut roll at at pieces
    → (kept_in roll pieces ≡ records) × (lines_in pieces ≡ [])
unfolding kept_in lines_in
whole_from {roll} {at = at} no_more e inside c =
    let there = length-drop at roll in
    let nothing : length (drop at roll) ≡ 0 = ap length e in
    let is = when_over c (omega arith) ∙ run_none at at (omega arith) in
    (rw is, rw is)
whole_from {roll} {at = at} (one_more {first = first} {rest = rest} p ps) e inside c =
    let size = length first in
    let is : kept_at roll at ≡ Some size = sym (kept_drop roll at inside) ∙ ap (λ (l : List ℕ). kept_at l 0) e ∙ passes_in_front first rest p in
    let range = kept_range roll at size is in
    let found = when_kept size c is in
    let pieces_are = rw (run_none at at (omega arith)) at found.2 in
    let behind : drop (at + size) roll ≡ rest = sym (drop-drop size at roll) ∙ ap (drop size) e ∙ drop_at first rest size refl in
    let on = whole_from ps behind (omega arith) found.1 in
    let front : take size (drop at roll) ≡ first = ap (take size) e ∙ take_at first rest size refl in
    (rw (pieces_are, front, on.0), rw (pieces_are, on.1))

pub kept_whole : {roll : List ℕ} → AllPass roll → (kept_of roll ≡ roll) × (lines_of roll ≡ [])
unfolding kept_of lines_of
kept_whole {roll} all = whole_from all refl (omega arith) (cut roll)

-- ---- What was kept is a roll of records that pass, so that salvaging it keeps all of it.

right_passes : {roll : List ℕ} {after_run : Bool} {at : ℕ} {pieces : List Piece} → Right roll after_run at pieces → AllPass (kept_in roll pieces)
unfolding kept_in
right_passes (at_end is) = no_more
right_passes {roll} (a_record {at = at} {size = size} is rest) = one_more (passes roll at size is) (right_passes rest)
right_passes (a_run some clear rest) = right_passes rest

pub each_passes : (roll : List ℕ) → AllPass (kept_of roll)
unfolding kept_of
each_passes roll = right_passes (pieces_right roll)

pub kept_again : (roll : List ℕ) → (kept_of (kept_of roll) ≡ kept_of roll) × (lines_of (kept_of roll) ≡ [])
kept_again roll = kept_whole (each_passes roll)
