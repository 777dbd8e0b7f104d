-- The charges of a record, added up: from none on, one charge more at a time. And those of a statement, one record more at a time.
-- Assumes nothing.
use Prim.Native.Nat.{ℕ, zero, suc, ◌+◌, ◌*◌, ◌^◌, ◌≤◌, ◌<◌}
use native.Mathlib.Numerals.{add-one}
use native.Mathlib.Nat.{zero-add, le_refl, le_antisymm}
use native.Mathlib.Omega.{arith}
use mathlib.Core.Path.{◌≡◌, refl}
use mathlib.Core.List.{List}
use borrow.Author.Tests.{lt-ltb, le-ltb}
use Rattle.statement.specs.Record.{most_parts}
use Rattle.statement.specs.Reading.{size_in, charge_in, cents_up_to, cents_in, cents_from, cents_over}
use Rattle.statement.specs.Clauses.{RecordAt, RecordsTo, no_more, one_more, most_cents, CentsUpTo, CentsOf, CentsOver}

-- No charge at all comes to nothing.
pub cents_none : (statement : List ℕ) (place : ℕ) → CentsUpTo statement place 0 0
unfolding cents_up_to
cents_none statement place = record { value = refl; range = omega arith }

-- One turn: the next charge is added.
pub cents_more :
    (statement : List ℕ) (place i cents charge : ℕ) → CentsUpTo statement place i cents → charge ≡ charge_in statement place i → charge < 2 ^ 32
    → CentsUpTo statement place (i + 1) (cents + charge)
unfolding cents_up_to
cents_more statement place i cents charge so_far here small =
    record { value = rw (add-one, so_far.value, here); range = omega arith }

-- After the last turn they are all added.
pub cents_all :
    (statement : List ℕ) (place count i cents : ℕ) → i ≤ count → count ≤ i → CentsUpTo statement place i cents
    → CentsUpTo statement place count cents
cents_all statement place count i cents most least so_far = rw (le_antisymm most least) at so_far

-- ---- Of a statement.

-- Of records that go on, and where they end.
pub cents_go_on :
    (statement : List ℕ) (most : ℕ) {place end : ℕ} → place < end
    → cents_from (suc most) statement place end ≡ cents_in statement place + cents_from most statement (place + size_in statement place) end
unfolding cents_from
cents_go_on statement most {place} {end} on = rw (lt-ltb place end on)

pub cents_end : (statement : List ℕ) (most : ℕ) {place end : ℕ} → end ≤ place → cents_from most statement place end ≡ 0
unfolding cents_from
cents_end statement zero over = refl
cents_end statement (suc most) {place} {end} over = rw (le-ltb place end over)

-- so much is added of the records before a place, and at most `left` records are left
pub record Added (statement : List ℕ) (size place cents : ℕ) : Type 0 where
  pub left : ℕ
  pub few : left ≤ most_parts
  pub records : RecordsTo statement size left place
  pub value : cents + cents_from left statement place size ≡ cents_over statement size
  pub range : cents + left * most_cents ≤ most_parts * most_cents

-- Before the first record nothing is added.
pub added_none : {statement : List ℕ} {size : ℕ} → RecordsTo statement size most_parts 0 → Added statement size 0 0
added_none {statement} {size} records =
    record { left = most_parts; few = le_refl most_parts; records = records; value = zero-add _; range = omega arith }

-- Where the end is not reached, a record stands, and the next one behind it.
module _ {statement : List ℕ} {size place : ℕ} (on : place < size) where
  pub record_next : {most : ℕ} → RecordsTo statement size most place → RecordAt statement place
  record_next (no_more is) = absurd (omega (arith, is, on))
  record_next (one_more at rest) = at

  pub added_more :
      {cents more : ℕ} → Added statement size place cents → CentsOf statement place more
      → Added statement size (place + size_in statement place) (cents + more)
  added_more {cents} {more} so_far here = go so_far.left so_far.few so_far.records so_far.value so_far.range
    where
      go :
          (left : ℕ) → left ≤ most_parts → RecordsTo statement size left place → cents + cents_from left statement place size ≡ cents_over statement size
          → cents + left * most_cents ≤ most_parts * most_cents → Added statement size (place + size_in statement place) (cents + more)
      go left few (no_more is) value range = absurd (omega (arith, is, on))
      go (suc left) few (one_more at rest) value range =
          record {
            left = left;
            few = omega arith;
            records = rest;
            value = omega (arith, value, cents_go_on statement left on, here.value);
            range = omega (arith, range, here.range);
          }

-- Behind the last record all is added.
pub added_all : {statement : List ℕ} {size place cents : ℕ} → size ≤ place → Added statement size place cents → CentsOver statement size cents
added_all {statement} over so_far =
    record { value = omega (arith, so_far.value, cents_end statement so_far.left over); range = omega (arith, so_far.range) }
