-- What a frame is, by its bytes: a whole record with its four facts, or a broken frame, and never both.
-- Assumes nothing.
use Prim.Native.Nat.{ℕ, ◌+◌, ◌-◌, ◌≤◌, ◌<◌}
use native.Mathlib.Omega.{arith}
use mathlib.Core.Path.{◌≡◌, refl, sym, ◌∙◌}
use native.Mathlib.Decide.{dec_lt}
use mathlib.Core.Bool.{Bool, true, false, ◌||◌, or-true, or-false, false≢true}
use mathlib.Core.List.{List}
use borrow.Author.Tests.{lt-ltb, le-ltb, ltb-false}
use lib.ListN.{length, take}
use lib.Seq.{length-take-le}
use lib.Dec.{ltb}
use Rattle.wire.specs.Number.{get_le}
use Rattle.wire.specs.Frame.{longest_record, most_length, broken, frame_at}
use Rattle.wire.specs.declared.Frame.TheVariants.{Whole, Broken}
use Rattle.wire.proofs.Number.{get_take}

-- A whole record at a place: its kind, its body's length, and that it ends within the bytes.
pub record WholeAt (b : List ℕ) (p kind body : ℕ) : Type 0 where
  pub kind_is : kind ≡ get_le 2 b (p + 2)
  pub length_is : get_le 2 b p ≡ 2 + body
  pub fits : p + 4 + body ≤ length b
  pub short : body ≤ 1022

-- Where fewer than 4 bytes remain, the frame is broken.
pub cut_broken : (b : List ℕ) (p : ℕ) → length b - p < 4 → broken b p ≡ true
unfolding broken
cut_broken b p h = rw (lt-ltb (length b - p) 4 h)

-- Where 4 bytes remain, it is broken as the three other tests say.
pub tested :
    (b : List ℕ) (p long : ℕ) → long ≡ get_le 2 b p → 4 ≤ length b - p
    → broken b p ≡ (ltb long 2 || ltb most_length long) || ltb (length b - p) (2 + long)
unfolding broken
tested b p long e h = rw (le-ltb (length b - p) 4 h, e)

-- where neither of two tests holds, each fails
neither : (s t : Bool) → s || t ≡ false → (s ≡ false) × (t ≡ false)
neither true t e = absurd (false≢true (sym e))
neither false t e = (refl, e)

-- A frame that is not broken has the facts of a whole record.
pub unbroken : (b : List ℕ) (p : ℕ) → broken b p ≡ false → WholeAt b p (get_le 2 b (p + 2)) (get_le 2 b p - 2)
unfolding broken
unbroken b p e =
    let head = neither (ltb (length b - p) 4) _ e in
    let rest = neither (ltb (get_le 2 b p) 2 || ltb most_length (get_le 2 b p)) _ head.1 in
    let range = neither (ltb (get_le 2 b p) 2) _ rest.0 in
    let remain = ltb-false (length b - p) 4 head.0 in
    let least = ltb-false (get_le 2 b p) 2 range.0 in
    let most = ltb-false 1024 (get_le 2 b p) range.1 in
    let within = ltb-false (length b - p) (2 + get_le 2 b p) rest.1 in
    record { kind_is = refl; length_is = omega arith; fits = omega arith; short = omega arith }

-- A frame that is not broken is given as whole.
pub unbroken_given : (b : List ℕ) (p : ℕ) → broken b p ≡ false → frame_at b p ≡ Whole (get_le 2 b (p + 2)) (get_le 2 b p - 2)
unfolding frame_at
unbroken_given b p e = rw e

-- A frame that is broken by the rules' words is given as broken.
pub broken_back : (b : List ℕ) (p : ℕ) → broken b p ≡ true → frame_at b p ≡ Broken
unfolding frame_at
broken_back b p e = rw e

-- A frame that is given as broken is broken by the rules' words.
pub broken_is : (b : List ℕ) (p : ℕ) → frame_at b p ≡ Broken → broken b p ≡ true
broken_is b p e = go (broken b p) refl
  where
    go : (t : Bool) → broken b p ≡ t → broken b p ≡ true
    go true is = is
    go false is =
        let given = unbroken_given b p is in
        absurd (let z : ◌≡◌ {A = ℕ} 0 1 = cc in omega arith)

-- A frame that is given as whole has the facts of a whole record.
pub whole : (b : List ℕ) (p kind body : ℕ) → frame_at b p ≡ Whole kind body → WholeAt b p kind body
whole b p kind body e = go (broken b p) refl
  where
    go : (t : Bool) → broken b p ≡ t → WholeAt b p kind body
    go true is =
        let given = broken_back b p is in
        absurd (let z : ◌≡◌ {A = ℕ} 0 1 = cc in omega arith)
    go false is =
        let given = unbroken_given b p is in
        let same_kind : get_le 2 b (p + 2) ≡ kind = cc in
        let same_body : get_le 2 b p - 2 ≡ body = cc in
        rw (same_kind, same_body) at (unbroken b p is)

-- What has the facts of a whole record is given as that record.
pub whole_back : (b : List ℕ) (p kind body : ℕ) → WholeAt b p kind body → frame_at b p ≡ Whole kind body
whole_back b p kind body w =
    let long = get_le 2 b p in
    let sound : broken b p ≡ false =
    tested b p long refl (omega arith)
    ∙ rw (le-ltb long 2 (omega arith), le-ltb most_length long (omega arith), le-ltb (length b - p) (2 + long) (omega arith))
    in
    let same_body : get_le 2 b p - 2 ≡ body = omega arith in
    unbroken_given b p sound ∙ rw (w.kind_is, same_body)

-- where the longest record's bytes follow, a frame is broken by its length alone
by_length : (b : List ℕ) (at : ℕ) → at + longest_record ≤ length b → broken b at ≡ ltb (get_le 2 b at) 2 || ltb most_length (get_le 2 b at)
by_length b at fits = tested b at (get_le 2 b at) refl (omega arith) ∙ go
  where
    long : ℕ
    long = get_le 2 b at

    go : (ltb long 2 || ltb most_length long) || ltb (length b - at) (2 + long) ≡ ltb long 2 || ltb most_length long
    go =
        elim (dec_lt most_length long) [
          | yes large ↦ rw (lt-ltb most_length long large, or-true)
          | no most ↦ rw (le-ltb (length b - at) (2 + long) (omega arith), or-false)
        ]

-- So the frame at a place is decided by that many bytes from there on.
pub frame_take :
    (n : ℕ) (b : List ℕ) (at : ℕ) → n ≤ length b → at + longest_record ≤ n → frame_at (take n b) at ≡ frame_at b at
unfolding frame_at
frame_take n b at there fits =
    rw (
      by_length (take n b) at (omega (arith, length-take-le n b there)),
      by_length b at (omega arith),
      get_take 2 n b at (omega arith),
      get_take 2 n b (at + 2) (omega arith),
    )

-- And a record that is whole within the first bytes is whole in these alone.
pub whole_take :
    (n : ℕ) (b : List ℕ) (at kind body : ℕ) → n ≤ length b → at + 4 + body ≤ n → frame_at b at ≡ Whole kind body
    → frame_at (take n b) at ≡ Whole kind body
whole_take n b at kind body there fits e =
    let facts = whole b at kind body e in
    whole_back (take n b) at kind body
    (record {
      kind_is = facts.kind_is ∙ sym (get_take 2 n b (at + 2) (omega arith));
      length_is = get_take 2 n b at (omega arith) ∙ facts.length_is;
      fits = omega (arith, length-take-le n b there);
      short = facts.short;
    })
