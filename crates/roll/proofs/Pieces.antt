-- What stands at the start of a piece that tells it stands at the start of every longer one; and the lines of a roll by what stands at its
-- start.
-- Assumes nothing.
use Prim.Native.Nat.{ℕ, suc, ◌+◌, ◌-◌, ◌≤◌, ◌<◌}
use native.Mathlib.Omega.{arith}
use native.Mathlib.Decide.{ℕ_discrete, dec_lt}
use mathlib.Core.Path.{◌≡◌, refl, sym, ◌∙◌}
use mathlib.Core.Logic.{◌⊎◌, inl, inr}
use mathlib.Core.Bool.{Bool, true, false, ◌&&◌, ◌||◌, and-false, or-true, false≢true}
use mathlib.Core.List.{List, [], ◌∷◌, ◌++◌}
use borrow.Author.Tests.{lt-ltb, le-ltb, le-leb, lt-leb, ltb-false, eq-eqb, ne_eqb}
use lib.ListN.{length, take, drop, length-append}
use lib.Seq.{take-append-le}
use lib.Dec.{leb, ltb}
use Rattle.wire.specs.Number.{get_le}
use Rattle.wire.specs.Frame.{frame_at}
use Rattle.wire.specs.declared.Frame.{Frame}
use Rattle.wire.specs.declared.Frame.TheVariants as frame
use Rattle.wire.proofs.Number.{get_front}
use Rattle.wire.proofs.Frames.{tested, broken_back, whole, whole_back}
use Rattle.statement.specs.Record.{largest_statement}
use Rattle.settle.specs.Runs.{run_from}
use Rattle.roll.specs.declared.Line.{Line}
use Rattle.roll.specs.declared.Line.TheVariants.{Refused}
use Rattle.roll.specs.declared.Step.{Step}
use Rattle.roll.specs.declared.Step.TheVariants.{End, More, Record, Broken}
use Rattle.roll.specs.Lines.{offers_of, broken_in, lines_in, lines_of}
use Rattle.roll.specs.Pieces.{unfinished, outcome_at, step_of, book_step}
use Rattle.roll.proofs.Starts.{few_unfinished, length_decides, more_way, end_way, broken_way, whole_way}

-- ---- Where a piece tells what stands at its start: its length is out of range, or its record ends within it.

data Told (piece : List ℕ) : Type 0 where
  out : (get_le 2 piece 0 < 2) ⊎ (1024 < get_le 2 piece 0) → Told piece
  within : 2 ≤ get_le 2 piece 0 → get_le 2 piece 0 ≤ 1024 → 2 + get_le 2 piece 0 ≤ length piece → Told piece

record Decided (piece : List ℕ) : Type 0 where
  enough : 4 ≤ length piece
  told : Told piece

decided : (piece : List ℕ) → unfinished piece ≡ false → Decided piece
decided piece e =
    elim (dec_lt (length piece) 4) [
      | yes few ↦ absurd (false≢true (sym e ∙ sym (few_unfinished piece few)))
      | no enough ↦ record { enough = omega arith; told = range (omega arith) }
    ]
  where
    long : ℕ
    long = get_le 2 piece 0

    range : 4 ≤ length piece → Told piece
    range enough =
        elim (dec_lt long 2) [
          | yes small ↦ out (inl small)
          | no least ↦
              elim (dec_lt 1024 long) [
                | yes large ↦ out (inr large)
                | no most ↦
                    within (omega arith) (omega arith)
                    (ltb-false (length piece) (2 + long)
                    (rw (le-leb 2 long (omega arith), le-leb long 1024 (omega arith)) at (length_decides piece long enough refl ∙ e)))
              ]
        ]

finished : (piece : List ℕ) → Decided piece → unfinished piece ≡ false
finished piece d = sym (length_decides piece (get_le 2 piece 0) d.enough refl) ∙ go d.told
  where
    go : Told piece → leb 2 (get_le 2 piece 0) && leb (get_le 2 piece 0) 1024 && ltb (length piece) (2 + get_le 2 piece 0) ≡ false
    go (out (inl small)) = rw (lt-leb 2 (get_le 2 piece 0) small)
    go (out (inr large)) = rw (lt-leb (get_le 2 piece 0) 1024 large, and-false)
    go (within least most fits) = rw (le-ltb (length piece) (2 + get_le 2 piece 0) fits, and-false)

-- a longer piece tells the same
longer_told : (piece rest : List ℕ) → Decided piece → Decided (piece ++ rest)
longer_told piece rest d = record { enough = omega (arith, length-append piece rest); told = go d.told }
  where
    same : get_le 2 (piece ++ rest) 0 ≡ get_le 2 piece 0
    same = get_front 2 piece rest 0 (omega (arith, d.enough))

    go : Told piece → Told (piece ++ rest)
    go (out (inl small)) = out (inl (omega (arith, same)))
    go (out (inr large)) = out (inr (omega (arith, same)))
    go (within least most fits) = within (omega (arith, same)) (omega (arith, same)) (omega (arith, same, length-append piece rest))

-- what is told is the frame
out_frame : (piece : List ℕ) → 4 ≤ length piece → (get_le 2 piece 0 < 2) ⊎ (1024 < get_le 2 piece 0) → frame_at piece 0 ≡ frame.Broken
out_frame piece enough wrong = broken_back piece 0 (tested piece 0 (get_le 2 piece 0) refl (omega arith) ∙ go wrong)
  where
    long : ℕ
    long = get_le 2 piece 0

    go : (long < 2) ⊎ (1024 < long) → (ltb long 2 || ltb 1024 long) || ltb (length piece - 0) (2 + long) ≡ true
    go (inl small) = rw (lt-ltb long 2 small)
    go (inr large) = rw (lt-ltb 1024 long large, or-true)

within_frame :
    (piece : List ℕ) → 2 ≤ get_le 2 piece 0 → get_le 2 piece 0 ≤ 1024 → 2 + get_le 2 piece 0 ≤ length piece
    → frame_at piece 0 ≡ frame.Whole (get_le 2 piece 2) (get_le 2 piece 0 - 2)
within_frame piece least most fits =
    whole_back piece 0 (get_le 2 piece 2) (get_le 2 piece 0 - 2)
    (record { kind_is = refl; length_is = omega arith; fits = omega arith; short = omega arith })

longer_frame : (piece rest : List ℕ) → Decided piece → frame_at (piece ++ rest) 0 ≡ frame_at piece 0
longer_frame piece rest d = go d.told
  where
    same : get_le 2 (piece ++ rest) 0 ≡ get_le 2 piece 0
    same = get_front 2 piece rest 0 (omega (arith, d.enough))

    longer : length (piece ++ rest) ≡ length piece + length rest
    longer = length-append piece rest

    go : Told piece → frame_at (piece ++ rest) 0 ≡ frame_at piece 0
    go (out wrong) =
        out_frame (piece ++ rest) (omega (arith, longer, d.enough)) (rw same wrong) ∙ sym (out_frame piece d.enough wrong)
    go (within least most fits) =
        within_frame (piece ++ rest) (omega (arith, same)) (omega (arith, same)) (omega (arith, same, longer))
        ∙ rw (same, get_front 2 piece rest 2 (omega (arith, d.enough))) (sym (within_frame piece least most fits))

-- ---- Where the step at a piece is not `More`, it is the same at every longer piece, whether more can come or not.

-- such a piece tells what stands at its start
not_more : (file book piece : List ℕ) → (step_of file book piece true ≡ More → ⊥) → unfinished piece ≡ false
not_more file book piece other = go (unfinished piece) refl
  where
    go : (t : Bool) → unfinished piece ≡ t → unfinished piece ≡ false
    go true e = absurd (other (more_way file book piece true e).0)
    go false e = e

step_whole :
    (file book piece rest : List ℕ) (kind body : ℕ) → frame_at piece 0 ≡ frame.Whole kind body
    → outcome_at file book (piece ++ rest) (4 + body) ≡ outcome_at file book piece (4 + body)
unfolding outcome_at
step_whole file book piece rest kind body e =
    let facts = whole piece 0 kind body e in
    rw (take-append-le (4 + body) piece rest (omega arith))

pub longer_same :
    (file book piece rest : List ℕ) (more : Bool) → (step_of file book piece true ≡ More → ⊥)
    → (step_of file book (piece ++ rest) more ≡ step_of file book piece true)
    × (book_step file book (piece ++ rest) more ≡ book_step file book piece true)
longer_same file book piece rest more other = go (frame_at piece 0) refl
  where
    all : List ℕ
    all = piece ++ rest

    short : true && unfinished piece ≡ false
    short = not_more file book piece other

    d : Decided piece
    d = decided piece short

    long : more && unfinished all ≡ false
    long = rw (finished all (longer_told piece rest d), and-false)

    go :
        (f : Frame) → frame_at piece 0 ≡ f
        → (step_of file book all more ≡ step_of file book piece true) × (book_step file book all more ≡ book_step file book piece true)
    go frame.Broken e =
        let here = broken_way file book piece true short (λ none. omega (arith, d.enough)) e in
        let there = broken_way file book all more long (λ none. omega (arith, (longer_told piece rest d).enough)) (longer_frame piece rest d ∙ e) in
        (there.0 ∙ sym here.0, there.1 ∙ sym here.1)
    go (frame.Whole kind body) e =
        let here = whole_way file book piece true short kind body e in
        let there = whole_way file book all more long kind body (longer_frame piece rest d ∙ e) in
        let same = step_whole file book piece rest kind body e in
        (rw same at there.0 ∙ sym here.0, rw same at there.1 ∙ sym here.1)

-- ---- A whole roll.

-- the lines of a roll by what stands at its start
unfoldable pub after_step : Step → (Line → ℕ → List Line) → List Line
after_step End on = []
after_step More on = []
after_step Broken on = Refused 5 ∷ []
after_step (Record line used) on = line ∷ on line used

-- a whole record is the first of the roll's
first_offer :
    (records : ℕ) (roll : List ℕ) (kind body : ℕ) → frame_at roll 0 ≡ frame.Whole kind body
    → offers_of (suc records) roll ≡ record { bytes = take (4 + body) roll; room = largest_statement } ∷ offers_of records (drop (4 + body) roll)
unfolding offers_of
first_offer records roll kind body e = rw (e, offers_of)

no_offer : (records : ℕ) (roll : List ℕ) → frame_at roll 0 ≡ frame.Broken → offers_of (suc records) roll ≡ []
unfolding offers_of
no_offer records roll e = rw (e, offers_of)

pub lines_step :
    (records : ℕ) (file book roll : List ℕ)
    → lines_of (suc records) file book roll
    ≡ after_step (step_of file book roll false) (λ line used. lines_of records file (book_step file book roll false) (drop used roll))
unfolding lines_of lines_in run_from offers_of broken_in outcome_at after_step
lines_step records file book roll = go (frame_at roll 0) refl
  where
    go :
        (f : Frame) → frame_at roll 0 ≡ f
        → lines_of (suc records) file book roll
        ≡ after_step (step_of file book roll false) (λ line used. lines_of records file (book_step file book roll false) (drop used roll))
    go frame.Broken e =
        elim (ℕ_discrete (length roll) 0) [
          | yes none ↦ rw ((end_way file book roll false refl none).0, no_offer records roll e, eq-eqb (length roll) 0 none)
          | no some ↦ rw ((broken_way file book roll false refl some e).0, no_offer records roll e, e, ne_eqb (length roll) 0 some)
        ]
    go (frame.Whole kind body) e =
        let way = whole_way file book roll false refl kind body e in
        let facts = whole roll 0 kind body e in
        rw (way.0, way.1, first_offer records roll kind body e, e, ne_eqb (length roll) 0 (λ none. omega arith))
