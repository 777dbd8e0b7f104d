-- The fields' bytes put one after another, and what filling a slice comes to.
-- Assumes nothing.
use Prim.Native.Nat.{ℕ, zero, suc, ◌+◌, ◌*◌, ◌≤◌, ◌<◌}
use native.Mathlib.Nat.{zero-add, le_antisymm}
use native.Mathlib.Numerals.{add-one}
use native.Mathlib.Omega.{arith}
use mathlib.Core.Path.{◌≡◌, refl, ap, ◌∙◌}
use mathlib.Core.Bool.{Bool, true, false, cond}
use mathlib.Core.List.{List, ◌++◌, append_assoc}
use lib.ListN.{length, drop, length-append}
use lib.Seq.{sets, sets-eq}
use lib.Dec.{ltb}
use borrow.Author.Tests.{lt-ltb, le-ltb}
use Rattle.wire.specs.Number.{put_le, bytes_of}
use Rattle.wire.specs.Frame.{longest_record}
use Rattle.wire.proofs.Number.{sets_more}
use Rattle.wire.proofs.Frames.{unbroken}
use Rattle.statement.specs.Record.{person_size, person_bytes}
use Rattle.statement.specs.Clauses.{Wrote}
use Rattle.statement.specs.Reading.{size_in}
use Rattle.statement.proofs.Head.{length_person}
use Rattle.statement.proofs.Wrote.{nothing_wrote, behind_wrote}
use Rattle.reader.specs.declared.Head.{Head}
use Rattle.reader.specs.declared.Whose.{Whose}
use Rattle.reader.specs.declared.Amount.{Amount}
use Rattle.reader.specs.declared.Read.TheVariants.{Refused}
use Rattle.reader.specs.declared.fields.Filled.TheVariants as out
use Rattle.reader.specs.Fields.{Fields, head_in, whose_in, charges_of, amount_of}
use Rattle.reader.specs.Reading.{head_at, fields_for, Reading, refused, told, read_at}
use Rattle.reader.specs.Clauses.{read_as}
use Rattle.reader.specs.Filling.{
  kind_of,
  party_of,
  whose_bytes,
  ride_bytes,
  amount_bytes,
  field_bytes,
  field_size,
  filling_from,
  filling_of,
  filled_as,
  unfilled,
  filled,
  FilledIn,
}
use Rattle.reader.proofs.Places.{fields_head, fields_whose}
use Rattle.reader.proofs.Accepted.{AcceptedAt, View, right_view, view}

-- Five numbers put one after another are the first five bytes.
pub whose_put :
    (b : List ℕ) (whose : Whose)
    → put_le 1 (put_le 1 (put_le 1 (put_le 1 (put_le 1 b 0 (kind_of whose)) 1 (charges_of whose)) 2 (party_of whose).adults) 3 (party_of whose).children) 4
    (party_of whose).bicycles
    ≡ sets b 0 (whose_bytes whose)
unfolding put_le bytes_of whose_bytes
whose_put b whose = refl

-- And four the nine behind them.
pub ride_put :
    (b : List ℕ) (head : Head)
    → put_le 4 (put_le 2 (put_le 2 (put_le 1 b 5 head.area) 6 head.km.0) 8 head.minutes.0) 10 head.opening.0 ≡ sets b 5 (ride_bytes head)
unfolding put_le bytes_of ride_bytes
ride_put b head = refl

-- ---- The charges.

module _ (fields : Fields) (b : List ℕ) (place : ℕ) where
  pub none_put : Wrote (amount_bytes fields 0) b place b place
  unfolding amount_bytes
  none_put = nothing_wrote b place

  -- One turn: the next charge stored behind those before it.
  pub one_put :
      (i next : ℕ) {b₁ b₂ : List ℕ} {amount : Amount} {r : ℕ} → Wrote (amount_bytes fields i) b place b₁ next → amount ≡ amount_of fields i
      → Wrote (person_bytes amount.charge.0 amount.cut) b₁ next b₂ r → Wrote (amount_bytes fields (i + 1)) b place b₂ r
  unfolding amount_bytes
  one_put i next so_far read here = rw add-one (behind_wrote so_far (rw read at here))

  pub all_put : (i count : ℕ) {b' : List ℕ} {r : ℕ} → i ≤ count → count ≤ i → Wrote (amount_bytes fields i) b place b' r → Wrote (amount_bytes fields count) b place b' r
  all_put i count most least so_far = rw (le_antisymm most least) at so_far

-- Each charge has ten bytes.
pub length_amounts : (fields : Fields) (n : ℕ) → length (amount_bytes fields n) ≡ person_size * n
unfolding amount_bytes
length_amounts fields zero = refl
length_amounts fields (suc n) =
    let mine = amount_of fields n in
    omega (
      arith,
      length-append (amount_bytes fields n) (person_bytes mine.charge.0 mine.cut),
      length_person mine.charge.0 mine.cut,
      length_amounts fields n,
    )

-- The five bytes, the nine and ten for each charge.
pub length_fields : (fields : Fields) → length (field_bytes fields) ≡ field_size (charges_of (whose_in fields))
unfolding field_bytes whose_bytes ride_bytes bytes_of
length_fields fields =
    let rest = ride_bytes (head_in fields) ++ amount_bytes fields (charges_of (whose_in fields)) in
    let front : length (whose_bytes (whose_in fields)) ≡ 5 = refl in
    let ride : length (ride_bytes (head_in fields)) ≡ 9 = refl in
    omega (
      arith,
      front,
      ride,
      length-append (whose_bytes (whose_in fields)) rest,
      length-append (ride_bytes (head_in fields)) (amount_bytes fields (charges_of (whose_in fields))),
      length_amounts fields (charges_of (whose_in fields)),
    )

-- ---- What filling comes to.

module _ (s : List ℕ) (p : ℕ) (b : List ℕ) where
  -- A refused record leaves the slice.
  pub refused_filling : {n : ℕ} → read_as (read_at s p) ≡ Refused n → FilledIn (filling_of s p (length b)) b b (out.Refused n)
  unfolding filling_from
  refused_filling {n} e = go (read_at s p) refl e
    where
      go : (r : Reading) → read_at s p ≡ r → read_as r ≡ Refused n → FilledIn (filling_of s p (length b)) b b (out.Refused n)
      go (refused m) is e' = let same : m ≡ n = cc in rw (is, same) (record { answer = refl; fields_are = refl })
      go (told fields size) is e' = absurd (let z : ◌≡◌ {A = ℕ} 0 1 = cc in omega arith)

  module _ {size : ℕ} {head : Head} {whose : Whose} (accepted : AcceptedAt s p size head whose) where
    -- So does a slice that is too short.
    pub short_filling : length b < field_size (charges_of whose) → FilledIn (filling_of s p (length b)) b b (out.Refused 12)
    unfolding filling_from
    short_filling small =
        rw (accepted.read, fields_whose s p whose, lt-ltb (length b) (field_size (charges_of whose)) small) (record { answer = refl; fields_are = refl })

    abbrev fields : Fields
    fields = fields_for s p whose

    -- Else the five bytes, the nine and the charges are the fields, and what is behind them stays.
    pub all_filled :
        {b₁ b₂ b₃ : List ℕ} {count r : ℕ} → field_size (charges_of whose) ≤ length b → count ≡ charges_of whose → b₁ ≡ sets b 0 (whose_bytes whose)
        → b₂ ≡ sets b₁ 5 (ride_bytes head) → Wrote (amount_bytes fields count) b₂ 14 b₃ r → FilledIn (filling_of s p (length b)) b b₃ (out.Record size)
    unfolding filling_from field_bytes whose_bytes ride_bytes bytes_of
    all_filled {b₁} {b₂} {b₃} {count} enough all one other charges =
        let bytes = field_bytes fields in
        let whole : length bytes ≤ length b = omega (arith, length_fields fields, ap (λ (w : Whose). field_size (charges_of w)) (fields_whose s p whose)) in
        let wrote : b₃ ≡ sets b 0 bytes =
        charges.stored
        ∙ rw (other, one, all, accepted.head_is, fields_whose s p whose, fields_head s p whose)
        (ap (λ (l : List ℕ). sets l 14 (amount_bytes fields (charges_of whose))) (sets_more b 0 (whose_bytes whose) (ride_bytes (head_at s p)))
        ∙ sets_more b 0 (whose_bytes whose ++ ride_bytes (head_at s p)) (amount_bytes fields (charges_of whose))
        ∙ ap (sets b 0) (append_assoc (whose_bytes whose) (ride_bytes (head_at s p)) (amount_bytes fields (charges_of whose))))
        in
        rw (accepted.read, fields_whose s p whose, le-ltb (length b) (field_size (charges_of whose)) enough)
        (record {
          answer = refl;
          fields_are = wrote ∙ sets-eq bytes b 0 (omega arith) ∙ ap (λ (k : ℕ). bytes ++ drop k b) (zero-add (length bytes));
        })

-- An accepted record's bytes are a frame's.
pub filled_size : (s : List ℕ) (p room : ℕ) {size : ℕ} → filled_as (filling_of s p room) ≡ out.Record size → size ≤ longest_record
unfolding filling_from
filled_size s p room {size} e = go (read_at s p) (view s p) e
  where
    go : (r : Reading) → View s p r → filled_as (filling_from r room) ≡ out.Record size → size ≤ longest_record
    go (refused n) v e' = absurd (let z : ◌≡◌ {A = ℕ} 0 1 = cc in omega arith)
    go (told f n) (right_view whose fitted right) e' = room_for (ltb room (field_size (charges_of (whose_in (fields_for s p whose))))) e'
      where
        room_for : (t : Bool) → filled_as (cond t (unfilled 12) (filled (fields_for s p whose) (size_in s p))) ≡ out.Record size → size ≤ longest_record
        room_for true e'' = absurd (let z : ◌≡◌ {A = ℕ} 0 1 = cc in omega arith)
        room_for false e'' =
            let same : size_in s p ≡ size = cc in
            let frame = unbroken s p fitted.whole in
            omega (arith, frame.length_is, frame.short)
