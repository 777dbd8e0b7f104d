-- How far a pass has come: what is kept so far stands at the roll's front, and the lines so far at the front of theirs. Both are what comes of the whole
-- roll but for the pieces that are left. The bytes that are not passed yet stand where they stood, so that the test answers of them what it answers of
-- the whole roll.
-- Assumes nothing.
use Prim.Native.Nat.{ℕ, ◌+◌, ◌-◌, ◌*◌, ◌≤◌, ◌<◌}
use native.Mathlib.Omega.{arith}
use native.Mathlib.Decide.{dec_lt}
use mathlib.Core.Path.{◌≡◌, refl, sym, ap, ◌∙◌}
use mathlib.Core.List.{List, [], ◌∷◌, ◌++◌, append-nil, append_assoc}
use Rattle.std.specs.Prelude.{Some}
use borrow.Author.Tests.{lt-ltb, le-ltb}
use lib.ListN.{length, take, drop, length-drop}
use lib.Seq.{drop-drop, take-paste, drop-paste}
use Rattle.text.specs.Clauses.{Put}
use Rattle.salvage.specs.declared.Pass.{Pass}
use Rattle.salvage.specs.Salvage.{most_roll, kept_at, Piece, kept, run_of, kept_in, lines_in, kept_of, lines_of, too_long, salvaged, outcome_of}
use Rattle.salvage.specs.Clauses.{room_size, most_line, Passing, Stepped, one_dropped, one_kept}
use Rattle.salvage.proofs.Records.{kept_range, kept_same}
use Rattle.salvage.proofs.Cuts.{Cut, cut, when_over, when_dropped, when_kept}
use Rattle.salvage.proofs.Pieces.{kept_behind, lines_behind}

pub record Reached (whole roll lines : List ℕ) (pass : Pass) : Type 0 where
  pub same_length : length roll ≡ length whole
  pub short : length whole ≤ most_roll
  pub kept_before : pass.kept ≤ pass.from
  pub order : pass.from ≤ pass.at
  pub inside : pass.at ≤ length whole
  pub few : 29 * length lines ≤ 12 * pass.from
  pub others : drop pass.kept roll ≡ drop pass.kept whole
  pub rest : List Piece
  pub left : Cut whole pass.from pass.at rest
  pub keeps : kept_of whole ≡ take pass.kept roll ++ kept_in whole rest
  pub tells : lines_of whole ≡ lines ++ lines_in rest

abbrev pub start : Pass
start = record { at = 0; from = 0; kept = 0 }

pub begins : (whole : List ℕ) → length whole ≤ most_roll → Reached whole whole [] start
unfolding kept_of lines_of
begins whole short =
    record {
      same_length = refl;
      short = short;
      kept_before = omega arith;
      order = omega arith;
      inside = omega arith;
      few = omega arith;
      others = refl;
      rest = _;
      left = cut whole;
      keeps = refl;
      tells = refl;
    }

-- What a step asks holds while a byte is left.
pub goes_on : {whole roll lines : List ℕ} {pass : Pass} → Reached whole roll lines pass → pass.at < length roll → Passing roll lines pass
goes_on r more =
    record {
      line_room = record { few = r.few; order = r.order; short = omega (arith, r.same_length, r.short) };
      kept_before = r.kept_before;
      left = more;
      short = omega (arith, r.same_length, r.short);
    }

-- what stands from a place on behind what is kept stands there in the whole roll
from_place : (roll whole : List ℕ) (front at : ℕ) → drop front roll ≡ drop front whole → front ≤ at → drop at roll ≡ drop at whole
from_place roll whole front at same order =
    let parts : at ≡ front + (at - front) = omega arith in
    rw parts (sym (drop-drop (at - front) front roll) ∙ ap (drop (at - front)) same ∙ drop-drop (at - front) front whole)

-- a line is told only where 29 bytes at least are passed
line_paid : (from at size end end' : ℕ) → from ≤ at → 28 ≤ size → end' ≤ end + most_line from at → 29 * end ≤ 12 * from → 29 * end' ≤ 12 * (at + size)
line_paid from at size end end' order long room few =
    elim (dec_lt from at) [
      | yes some ↦ let most : end' ≤ end + 12 = rw (lt-ltb from at some) at room in omega arith
      | no none ↦ let most : end' ≤ end + 0 = rw (le-ltb from at (omega arith)) at room in omega arith
    ]

-- the last line has its room
pub lines_fit : (from to end end' : ℕ) → from ≤ to → to ≤ most_roll → 29 * end ≤ 12 * from → end' ≤ end + most_line from to → end' ≤ room_size
lines_fit from to end end' order short few room =
    elim (dec_lt from to) [
      | yes some ↦ let most : end' ≤ end + 12 = rw (lt-ltb from to some) at room in omega arith
      | no none ↦ let most : end' ≤ end + 0 = rw (le-ltb from to (omega arith)) at room in omega arith
    ]

-- a kept record goes behind what is kept so far, and the line of the run before it behind the lines so far
kept_on :
    (front whole : List ℕ) (from at size : ℕ) {all : List Piece} (pieces : List Piece) → all ≡ run_of from at ++ (kept at size ∷ pieces)
    → front ++ kept_in whole all ≡ (front ++ take size (drop at whole)) ++ kept_in whole pieces
unfolding kept_in
kept_on front whole from at size pieces are =
    rw (are, kept_behind whole from at (kept at size ∷ pieces)) (sym (append_assoc front (take size (drop at whole)) (kept_in whole pieces)))

told_on :
    (front : List ℕ) (from at size : ℕ) {all : List Piece} (pieces : List Piece) → all ≡ run_of from at ++ (kept at size ∷ pieces)
    → front ++ lines_in all ≡ (front ++ lines_in (run_of from at)) ++ lines_in pieces
unfolding lines_in
told_on front from at size pieces are =
    rw (are, lines_behind from at (kept at size ∷ pieces)) (sym (append_assoc front (lines_in (run_of from at)) (lines_in pieces)))

-- A step goes on by a piece, or by a byte of one.
pub steps_on :
    {whole roll lines roll' lines' : List ℕ} {pass next : Pass} → Reached whole roll lines pass → pass.at < length roll → length roll' ≡ length roll
    → Stepped roll lines pass roll' lines' next → Reached whole roll' lines' next × (pass.at < next.at)
steps_on {whole} {roll} {lines} {pass = pass} r more same-roll (one_dropped is) =
    let same = kept_same roll whole pass.at (omega (arith, r.same_length)) r.inside (from_place roll whole pass.kept pass.at r.others (omega (arith, r.kept_before, r.order))) in (
      record {
        same_length = r.same_length;
        short = r.short;
        kept_before = r.kept_before;
        order = omega (arith, r.order);
        inside = omega (arith, r.same_length);
        few = r.few;
        others = r.others;
        rest = r.rest;
        left = when_dropped r.left (omega (arith, r.same_length)) (sym same ∙ is);
        keeps = r.keeps;
        tells = r.tells;
      },
      omega arith,
    )
steps_on {whole} {roll} {lines} {roll'} {lines'} {pass} r more same-roll (one_kept {size = size} is put moved) =
    let at = pass.at in
    let order = r.order in
    let kept_before = r.kept_before in
    let there = from_place roll whole pass.kept at r.others (omega arith) in
    let same = kept_same roll whole at (omega (arith, r.same_length)) r.inside there in
    let is-kept : kept_at whole at ≡ Some size = sym same ∙ is in
    let range = kept_range whole at size is-kept in
    let found = when_kept size r.left is-kept in
    let pieces = found.0 in
    let from-there : size ≤ length (drop at roll) = omega (arith, length-drop at roll, r.same_length) in
    let front : take (pass.kept + size) roll' ≡ take pass.kept roll ++ take size (drop at whole) =
    ap (take (pass.kept + size)) moved
    ∙ take-paste roll pass.kept (drop at roll) size (omega (arith, r.same_length, r.inside)) from-there
    ∙ ap (λ (l : List ℕ). take pass.kept roll ++ take size l) there
    in
    let back : drop (pass.kept + size) roll' ≡ drop (pass.kept + size) roll =
    ap (drop (pass.kept + size)) moved ∙ drop-paste roll pass.kept (drop at roll) size (omega (arith, r.same_length, r.inside)) from-there
    in (
      record {
        same_length = same-roll ∙ r.same_length;
        short = r.short;
        kept_before = omega arith;
        order = omega arith;
        inside = range.0;
        few = line_paid pass.from at size (length lines) (length lines') order range.1 put.room r.few;
        others = back ∙ from_place roll whole pass.kept (pass.kept + size) r.others (omega arith);
        rest = pieces;
        left = found.1;
        keeps = r.keeps ∙ kept_on (take pass.kept roll) whole pass.from at size pieces found.2 ∙ ap (◌++ kept_in whole pieces) (sym front);
        tells = r.tells ∙ told_on lines pass.from at size pieces found.2 ∙ ap (◌++ lines_in pieces) (sym put.put);
      },
      omega arith,
    )

-- At the roll's end the last run's line is told, and that is all.
pub all_done :
    {whole roll lines lines' : List ℕ} {pass : Pass} → Reached whole roll lines pass → length whole ≤ pass.at
    → Put (lines_in (run_of pass.from (length whole))) (most_line pass.from (length whole)) lines lines'
    → outcome_of whole ≡ salvaged (take pass.kept roll) lines'
unfolding outcome_of kept_in
all_done {whole} {roll} {lines} {pass = pass} r over put =
    let here : pass.at ≡ length whole = omega (arith, r.inside) in
    let are : r.rest ≡ run_of pass.from (length whole) = rw here at (when_over r.left here) in
    let front = take pass.kept roll in
    let none_left : kept_in whole (run_of pass.from (length whole)) ≡ [] =
    rw append-nil at (kept_behind whole pass.from (length whole) [])
    in
    rw (
      le-ltb most_roll (length whole) r.short,
      r.keeps ∙ ap (λ (p : List Piece). front ++ kept_in whole p) are ∙ ap (front ++◌) none_left ∙ append-nil front,
      r.tells ∙ ap (λ (p : List Piece). lines ++ lines_in p) are ∙ sym put.put,
    )

pub is_too_long : (whole : List ℕ) → most_roll < length whole → outcome_of whole ≡ too_long
unfolding outcome_of
is_too_long whole long = rw (lt-ltb most_roll (length whole) long)
