-- What is kept and what is due as bytes: numbers put there and read back; what was collected in a month; 24; and the room for the records.
-- Assumes nothing.
use Prim.Native.Nat.{ℕ, ◌+◌, ◌^◌, ◌≤◌, ◌<◌}
use native.Mathlib.Nat.{zero-add}
use native.Mathlib.Omega.{arith}
use mathlib.Core.Path.{◌≡◌, refl, sym, ap, ◌∙◌}
use mathlib.Core.Bool.{Bool, true, false, not, ◌||◌, false≢true}
use mathlib.Core.List.{List, [], ◌++◌, append-nil}
use borrow.Author.Tests.{eq-eqb, ne_eqb, le-ltb, lt-ltb, eqb-true, ltb-true, ltb-false, not-false}
use lib.ListN.{length, drop, length-append}
use lib.Seq.{sets, sets-eq, drop-length}
use lib.Dec.{eqb, ltb}
use Rattle.wire.specs.Number.{get_le, put_le, bytes_of}
use Rattle.wire.proofs.Number.{length_bytes, put_sets, sets_put}
use Rattle.statement.proofs.Records.{get_first, get_next}
use Rattle.ceiling.specs.Ceiling.{
  most_collected,
  kept_size,
  kept_month,
  kept_amount,
  kept_as,
  collected_in,
  due_size,
  due_of,
  uncollectable,
  room_for,
}
use Rattle.ceiling.specs.Clauses.{Collectable, AmountIs, RoomIs, Collected}

-- ---- Numbers put.

set_first : (bytes b : List ℕ) → length bytes ≤ length b → sets b 0 bytes ≡ bytes ++ drop (length bytes) b
set_first bytes b room = sets-eq bytes b 0 (omega (arith, room)) ∙ ap (λ (k : ℕ). bytes ++ drop k b) (zero-add (length bytes))

-- One number put first: the further bytes stay.
pub put_first : (b : List ℕ) (v : ℕ) → 4 ≤ length b → put_le 4 b 0 v ≡ bytes_of 4 v ++ drop 4 b
put_first b v room =
    put_sets 4 b 0 v
    ∙ set_first (bytes_of 4 v) b (omega (arith, length_bytes 4 v, room))
    ∙ ap (λ (k : ℕ). bytes_of 4 v ++ drop k b) (length_bytes 4 v)

-- Two numbers fill what is kept.
pub put_both : (b : List ℕ) (v w : ℕ) → length b ≡ kept_size → put_le 4 (put_le 4 b 0 v) 4 w ≡ kept_as v w
put_both b v w size =
    let bytes = bytes_of 4 v ++ bytes_of 4 w in
    let long : length bytes ≡ 8 = length-append (bytes_of 4 v) (bytes_of 4 w) ∙ omega (arith, length_bytes 4 v, length_bytes 4 w) in
    ap (λ (x : List ℕ). put_le 4 x 4 w) (put_sets 4 b 0 v)
    ∙ ap (λ (k : ℕ). put_le 4 (sets b 0 (bytes_of 4 v)) k w) (sym (zero-add (length (bytes_of 4 v)) ∙ length_bytes 4 v))
    ∙ sets_put 4 b 0 w (bytes_of 4 v)
    ∙ set_first bytes b (omega (arith, long, size))
    ∙ ap (λ (rest : List ℕ). bytes ++ rest) (ap (λ (k : ℕ). drop k b) (long ∙ sym size) ∙ drop-length b)
    ∙ append-nil bytes

-- ---- And read back.

pub month_back : (month amount : ℕ) → month < 256 ^ 4 → kept_month (kept_as month amount) ≡ month
month_back month amount small = get_first 4 month (bytes_of 4 amount) small

pub amount_back : (month amount : ℕ) → amount < 256 ^ 4 → kept_amount (kept_as month amount) ≡ amount
amount_back month amount small =
    get_next 4 4 month (bytes_of 4 amount) 0
    ∙ ap (λ (b : List ℕ). get_le 4 b 0) (sym (append-nil (bytes_of 4 amount)))
    ∙ get_first 4 amount [] small

-- ---- What was collected in a month.

pub same_month : (kept : List ℕ) (month : ℕ) → kept_month kept ≡ month → collected_in kept month ≡ kept_amount kept
unfolding collected_in
same_month kept month is = rw (eq-eqb (kept_month kept) month is)

pub other_month : (kept : List ℕ) (month : ℕ) → (kept_month kept ≡ month → ⊥) → collected_in kept month ≡ 0
unfolding collected_in
other_month kept month is = rw (ne_eqb (kept_month kept) month is)

pub amount_same :
    {kept : List ℕ} {month r ceiling : ℕ} → Collectable ceiling kept → kept_month kept ≡ month → r ≡ kept_amount kept → AmountIs kept month r
amount_same {kept} {month} ok is here = record { value = here ∙ sym (same_month kept month is); range = omega (arith, here, ok.amount_most) }

pub amount_other : {kept : List ℕ} {month : ℕ} → (kept_month kept ≡ month → ⊥) → AmountIs kept month 0
amount_other {kept} {month} is = record { value = sym (other_month kept month is); range = omega arith }

-- ---- Collected.

pub collected :
    {ceiling month charged before collects : ℕ} {kept due between kept' due' : List ℕ} → Collectable ceiling kept → due_size ≤ length due
    → before ≡ collected_in kept month → collects ≡ due_of ceiling before charged → between ≡ put_le 4 kept 0 month
    → kept' ≡ put_le 4 between 4 (before + collects) → due' ≡ put_le 4 due 0 collects → Collected ceiling kept month charged due kept' due'
collected {ceiling} {month} {charged} {before} {collects} {kept} {due} ok room before-is collects-is month-put kept_is due_is =
    let all : collects ≡ due_of ceiling (collected_in kept month) charged = collects-is ∙ ap (λ (x : ℕ). due_of ceiling x charged) before-is in
    record {
      kept_is =
          kept_is
          ∙ ap (λ (b : List ℕ). put_le 4 b 4 (before + collects)) month-put
          ∙ put_both kept month (before + collects) ok.size
          ∙ ap (λ (x : ℕ). kept_as month (x + collects)) before-is
          ∙ ap (λ (x : ℕ). kept_as month (collected_in kept month + x)) all;
      due_is = due_is ∙ put_first due collects room ∙ ap (λ (x : ℕ). bytes_of 4 x ++ drop 4 due) all;
    }

-- ---- 24.

pub size_wrong : (ceiling : ℕ) (kept : List ℕ) → (length kept ≡ kept_size → ⊥) → uncollectable ceiling kept ≡ true
unfolding uncollectable
size_wrong ceiling kept is = rw (ne_eqb (length kept) kept_size is)

pub size_right :
    (ceiling : ℕ) (kept : List ℕ) → length kept ≡ kept_size → uncollectable ceiling kept ≡ ltb most_collected ceiling || ltb most_collected (kept_amount kept)
unfolding uncollectable
size_right ceiling kept is = rw (eq-eqb (length kept) kept_size is)

neither : (s t : Bool) → s || t ≡ false → (s ≡ false) × (t ≡ false)
neither true t e = absurd (false≢true (sym e))
neither false t e = (refl, e)

pub collectable : (ceiling : ℕ) (kept : List ℕ) → uncollectable ceiling kept ≡ false → Collectable ceiling kept
unfolding uncollectable
collectable ceiling kept e =
    let (size, rest) = neither (not (eqb (length kept) kept_size)) (ltb most_collected ceiling || ltb most_collected (kept_amount kept)) e in
    let (high, much) = neither (ltb most_collected ceiling) (ltb most_collected (kept_amount kept)) rest in
    record {
      size = eqb-true (length kept) kept_size (not-false (eqb (length kept) kept_size) size);
      ceiling_most = ltb-false most_collected ceiling high;
      amount_most = ltb-false most_collected (kept_amount kept) much;
    }

-- ---- The room for the records.

pub short_room : (room due : ℕ) → due < due_size → RoomIs room due 0
unfolding room_for
short_room room due short = record { value = rw (lt-ltb due due_size short); range = omega arith }

pub whole_room : (room due : ℕ) → due_size ≤ due → RoomIs room due room
unfolding room_for
whole_room room due long = record { value = rw (le-ltb due due_size long); range = omega arith }

-- where there is some, what is due has its room
pub some_room : (room due : ℕ) → 1 ≤ room_for room due → due_size ≤ due
some_room room due some = go (ltb due due_size) refl
  where
    go : (t : Bool) → ltb due due_size ≡ t → due_size ≤ due
    go false e = ltb-false due due_size e
    go true e = absurd (omega (arith, some, (short_room room due (ltb-true due due_size e)).value))
