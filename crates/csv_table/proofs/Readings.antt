-- What is printed of a record, by what reading it comes to.
-- Assumes nothing.
use Prim.Native.Nat.{ℕ, ◌+◌}
use native.Mathlib.Numerals.{add-one}
use native.Mathlib.Omega.{arith}
use mathlib.Core.Path.{◌≡◌, refl, sym}
use mathlib.Core.Bool.{◌&&◌}
use mathlib.Core.List.{List, [], ◌++◌}
use Rattle.wire.proofs.Tests.{both_left}
use Rattle.reader.specs.declared.Head.{Head}
use Rattle.reader.specs.declared.Whose.{Whose}
use Rattle.reader.specs.declared.Read.TheVariants.{Refused, Record}
use Rattle.reader.specs.Fields.{Fields, head_in, whose_in, charges_of, amount_of}
use Rattle.reader.specs.Ranges.{head_right, whose_right}
use Rattle.reader.specs.Reading.{Reading, refused, told, head_at, fields_for, read_at}
use Rattle.reader.specs.Clauses.{read_as}
use Rattle.reader.proofs.Places.{fields_head, fields_whose}
use Rattle.reader.proofs.Ranges.{head_told}
use Rattle.reader.proofs.Accepted.{AcceptedAt, accepted_at, accepted_readable, accepted_few}
use Rattle.csv_table.specs.Text.{row_text, rows_text, refused_text, record_text}
use Rattle.csv_table.specs.Clauses.{Tells}

-- ---- A refused record.

pub refused_read : (number refusal : ℕ) (r : Reading) → Refused refusal ≡ read_as r → record_text number r ≡ refused_text number refusal
unfolding record_text
refused_read number refusal (refused other) e = let same : refusal ≡ other = cc in rw same
refused_read number refusal (told fields size) e = absurd (let z : ◌≡◌ {A = ℕ} 0 1 = cc in omega arith)

-- ---- An accepted one.

module _ (s : List ℕ) {size : ℕ} {head : Head} {whose : Whose} (e : Record size head whose ≡ read_as (read_at s 0)) where
  accepted : AcceptedAt s 0 size head whose
  accepted = accepted_at s 0 (sym e)

  pub told_read : Tells s head whose
  told_read =
      let head_is = accepted.head_is in
      let front =
      both_left (head_right (head_in (fields_for s 0 whose)) && whose_right (whose_in (fields_for s 0 whose))) _ accepted.right
      in
      let right = both_left (head_right (head_in (fields_for s 0 whose))) _ front in
      let opening = (head_told (head_in (fields_for s 0 whose)) right).opening in
      record {
        head_is = head_is;
        readable = accepted_readable accepted;
        few = accepted_few accepted;
        opening = rw head_is (rw (fields_head s 0 whose) at opening);
      }

  pub told_text : (number : ℕ) → rows_text number (fields_for s 0 whose) (charges_of whose) ≡ record_text number (read_at s 0)
  unfolding record_text
  told_text number = rw (accepted.read, fields_whose s 0 whose)

-- ---- Line by line.

pub no_rows : (number : ℕ) (fields : Fields) → rows_text number fields 0 ≡ []
unfolding rows_text
no_rows number fields = refl

pub one_row :
    (number : ℕ) (s : List ℕ) (head : Head) (whose : Whose) (i : ℕ) → head ≡ head_at s 0
    → rows_text number (fields_for s 0 whose) (i + 1)
    ≡ rows_text number (fields_for s 0 whose) i ++ row_text number head whose i (amount_of (fields_for s 0 whose) i)
unfolding rows_text
one_row number s head whose i is = rw (is, add-one i, fields_head s 0 whose, fields_whose s 0 whose)
