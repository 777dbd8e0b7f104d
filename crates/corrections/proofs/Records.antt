-- Whether a roll has an nth record: whole frames counted one after another.
-- Assumes nothing.
use Prim.Native.Nat.{ℕ, zero, suc, ◌+◌, ◌≤◌, ◌<◌}
use native.Mathlib.Omega.{arith}
use native.Mathlib.Nat.{add-zero}
use mathlib.Core.Path.{◌≡◌, refl, sym, ap, ◌∙◌}
use mathlib.Core.Bool.{true, false, ◌&&◌, ◌||◌, and-false, false≢true}
use mathlib.Core.List.{List}
use native.Mathlib.Decide.{ℕ_discrete}
use borrow.Author.Tests.{le-leb, lt-leb, ltb-true, ltb-false, eq-eqb, ne_eqb}
use lib.ListN.{length, drop}
use lib.Seq.{drop-drop}
use lib.Dec.{leb, ltb, eqb}
use Rattle.wire.specs.Frame.{frame_at}
use Rattle.wire.specs.declared.Frame.{Frame}
use Rattle.wire.specs.declared.Frame.TheVariants as frame
use Rattle.wire.proofs.Frames.{whole}
use Rattle.editions.proofs.OpeningLaws.{frame_drop}
use Rattle.roll.specs.Lines.{most_records, offers_of}
use Rattle.corrections.specs.Corrections.{has_record}

-- ---- How many records a roll has.

-- one more by a whole frame, none by a broken one
whole_counts :
    (left : ℕ) (roll : List ℕ) (kind body : ℕ) → frame_at roll 0 ≡ frame.Whole kind body
    → length (offers_of (suc left) roll) ≡ suc (length (offers_of left (drop (4 + body) roll)))
unfolding offers_of
whole_counts left roll kind body e = rw (e, offers_of)

broken_counts : (left : ℕ) (roll : List ℕ) → frame_at roll 0 ≡ frame.Broken → length (offers_of left roll) ≡ 0
unfolding offers_of
broken_counts zero roll e = refl
broken_counts (suc left) roll e = rw (e, offers_of)

-- and no more than are looked for
pub counts_most : (left : ℕ) (roll : List ℕ) → length (offers_of left roll) ≤ left
unfolding offers_of
counts_most zero roll = omega arith
counts_most (suc left) roll = go (frame_at roll 0) refl (counts_most left)
  where
    go : (f : Frame) → frame_at roll 0 ≡ f → ((later : List ℕ) → length (offers_of left later) ≤ left) → length (offers_of (suc left) roll) ≤ suc left
    go frame.Broken e most = omega (arith, broken_counts (suc left) roll e)
    go (frame.Whole kind body) e most = omega (arith, whole_counts left roll kind body e, most (drop (4 + body) roll))

-- ---- Counting them, of at most so many.

-- so many are passed, and the next one would stand at a place
pub record Counted (most : ℕ) (roll : List ℕ) (next counter : ℕ) : Type 0 where
  pub inside : next ≤ length roll
  pub left : ℕ
  pub all : counter + left ≡ most
  pub count : length (offers_of most roll) ≡ counter + length (offers_of left (drop next roll))

pub counted_none : (most : ℕ) (roll : List ℕ) → Counted most roll 0 0
counted_none most roll = record { inside = omega arith; left = most; all = omega arith; count = omega arith }

-- A whole frame is passed.
pub counted_more :
    {most : ℕ} {roll : List ℕ} {next counter : ℕ} (kind body : ℕ) → Counted most roll next counter → counter < most
    → frame_at roll next ≡ frame.Whole kind body → Counted most roll (next + 4 + body) (counter + 1)
counted_more {most} {roll} {next} {counter} kind body so_far more e = go so_far.left so_far.all so_far.count
  where
    go :
        (left : ℕ) → counter + left ≡ most → length (offers_of most roll) ≡ counter + length (offers_of left (drop next roll))
        → Counted most roll (next + 4 + body) (counter + 1)
    go zero all count = absurd (omega arith)
    go (suc left) all count =
        let here : frame_at (drop next roll) 0 ≡ frame.Whole kind body = frame_drop next roll 0 ∙ ap (frame_at roll) (add-zero next) ∙ e in
        let place : next + (4 + body) ≡ next + 4 + body = omega arith in
        let behind : drop (4 + body) (drop next roll) ≡ drop (next + 4 + body) roll =
        drop-drop (4 + body) next roll ∙ ap (λ (at : ℕ). drop at roll) place
        in
        let one = whole_counts left (drop next roll) kind body here in
        record {
          inside = omega (arith, (whole roll next kind body e).fits);
          left = left;
          all = omega arith;
          count = omega (arith, count, one, ap (λ (rest : List ℕ). length (offers_of left rest)) behind);
        }

-- ---- What is answered.

-- an nth record is there where there are so many
has_is : (roll : List ℕ) (n count : ℕ) → length (offers_of most_records roll) ≡ count → has_record roll n ≡ leb 1 n && leb n count
unfolding has_record
has_is roll n count e = rw e

-- n is out of range.
pub none_such : (roll : List ℕ) (n : ℕ) → eqb n 0 || ltb most_records n ≡ true → false ≡ has_record roll n
none_such roll n out =
    elim (ℕ_discrete n 0) [
      | yes e ↦ sym (has_is roll n _ refl ∙ rw (lt-leb 1 n (omega arith)))
      | no ne ↦
          let large : most_records < n = ltb-true most_records n (rw (ne_eqb n 0 ne) at out) in
          sym (has_is roll n _ refl ∙ rw (lt-leb n (length (offers_of most_records roll)) (omega (arith, counts_most most_records roll)), and-false))
    ]

pub in-range : (n : ℕ) → eqb n 0 || ltb most_records n ≡ false → (1 ≤ n) × (n ≤ most_records)
in-range n within =
    elim (ℕ_discrete n 0) [
      | yes e ↦ absurd (false≢true (sym within ∙ rw (eq-eqb n 0 e)))
      | no ne ↦ (omega arith, ltb-false most_records n (rw (ne_eqb n 0 ne) at within))
    ]

-- A broken frame comes before it.
pub broken_before :
    {roll : List ℕ} {next counter : ℕ} (n : ℕ) → Counted most_records roll next counter → counter < n → frame_at roll next ≡ frame.Broken
    → false ≡ has_record roll n
broken_before {roll} {next} {counter} n so_far more e =
    let here : frame_at (drop next roll) 0 ≡ frame.Broken = frame_drop next roll 0 ∙ ap (frame_at roll) (add-zero next) ∙ e in
    let none = broken_counts so_far.left (drop next roll) here in
    sym (has_is roll n counter (omega (arith, so_far.count, none)) ∙ rw (lt-leb n counter more, and-false))

-- All up to it are whole.
pub all_whole : {roll : List ℕ} {next : ℕ} (n : ℕ) → Counted most_records roll next n → 1 ≤ n → true ≡ has_record roll n
all_whole {roll} {next} n so_far some =
    sym (has_is roll n _ refl ∙ rw (le-leb 1 n some, le-leb n (length (offers_of most_records roll)) (omega (arith, so_far.count))))
