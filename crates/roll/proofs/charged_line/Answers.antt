-- `roll::charged_line` meets its contract: the second record is read where the bytes go on behind the first.
use Prim.Native.Nat.{ℕ, ◌≤◌, ◌<◌}
use native.Mathlib.Omega.{arith}
use mathlib.Core.Path.{◌≡◌, subst}
use mathlib.Core.List.{List}
use borrow.Author.Tests.{lt-ltb, le-ltb}
use Rattle.statement.specs.Reading.{size_in}
use Rattle.statement.specs.Clauses.{RecordAt}
use Rattle.roll.specs.declared.Entry.{Entry}
use Rattle.roll.specs.declared.Line.TheVariants.{Charged, Both}
use Rattle.roll.specs.Clauses.{EntryIn, Readable, line_in, LineIn}
use Rattle.roll.proofs.charged_line.Goals as goal

module _ (bytes : List ℕ) (size behind : ℕ) (is : behind ≡ size_in bytes 0) where
  goes_on : Readable bytes size → behind < size → RecordAt bytes behind
  goes_on ok on = rw is (ok.second (omega arith))

  both-lines : (one other : Entry) → behind < size → EntryIn bytes 0 one → EntryIn bytes behind other → LineIn bytes size (Both one other)
  unfolding line_in
  both-lines one other on first second =
      let next = subst (λ (place : ℕ). EntryIn bytes place other) is second in
      record {
        value = rw (lt-ltb (size_in bytes 0) size (omega arith), first.value, next.value);
        range = omega (arith, first.range, second.range);
      }

  one_line : (one : Entry) → size ≤ behind → EntryIn bytes 0 one → LineIn bytes size (Charged one)
  unfolding line_in
  one_line one over first =
      record { value = rw (le-ltb (size_in bytes 0) size (omega arith), first.value); range = omega (arith, first.range) }

pub entry_at-requires : goal.entry_at-requires
entry_at-requires c = goes_on _ _ _ c.size_at-behind.ensures.0 c.requires c.if-behind-size.true

pub returns-then-behind-size : goal.returns-then-behind-size
returns-then-behind-size c = both-lines _ _ _ c.size_at-behind.ensures.0 _ _ c.if-behind-size.true c.entry_at-first.ensures c.entry_at.ensures

pub returns : goal.returns
returns c = one_line _ _ _ c.size_at-behind.ensures.0 _ c.if-behind-size.false c.entry_at-first.ensures
