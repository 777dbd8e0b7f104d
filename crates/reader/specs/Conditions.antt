-- docs/RULES.md, section 20: the three refusals of a reading, each as a condition in the rules' words, and in their order.
use Rattle.std.specs.Prelude.{ℕ, ◌≤◌, ◌≡◌, List, ◌++◌, drop}
use Rattle.wire.specs.Frame.{frame_at}
use Rattle.wire.specs.declared.Frame.TheVariants.{Whole, Broken}
use Rattle.statement.specs.Record.{long_with, most_charges, persons_of, charge_kind}
use Rattle.statement.specs.Kind4.{charges_kind, charges_long}
use Rattle.statement.specs.Reading.{long_in}
use Rattle.reader.specs.declared.Whose.{Whose}
use Rattle.reader.specs.declared.charges.Fit.TheVariants.{Fits}
use Rattle.reader.specs.Fields.{Fields, Complete, written}
use Rattle.reader.specs.Ranges.{InRange}
use Rattle.reader.specs.Reading.{party_at, fields_for, whose_at, broken_frame, other_record, out_of_range}

-- 15: another kind than 4 and 6, or a length that fits no party: not that of 1 to 31 charges, or not what the three numbers give
pub data OtherRecord (statement : List ℕ) (place kind : ℕ) : Type 0 where
  other_kind : (kind ≡ charges_kind → ⊥) → (kind ≡ charge_kind → ⊥) → OtherRecord statement place kind
  no_charges :
      kind ≡ charges_kind → ((n : ℕ) → 1 ≤ n → n ≤ most_charges → long_in statement place ≡ charges_long n → ⊥) → OtherRecord statement place kind
  no_party :
      kind ≡ charge_kind
      → (long_in statement place ≡ long_with (persons_of (party_at statement place)) (party_at statement place).bicycles → ⊥)
      → OtherRecord statement place kind

-- the three, in order: 15 only of a whole frame, 16 only where kind and length fit. The fields are those that then stand there
pub data RefusedBy (statement : List ℕ) (place : ℕ) : ℕ → Type 0 where
  broken-frame : frame_at statement place ≡ Broken → RefusedBy statement place broken_frame
  other-record :
      (kind body : ℕ) → frame_at statement place ≡ Whole kind body → OtherRecord statement place kind → RefusedBy statement place other_record
  out-of-range :
      (kind body : ℕ) → frame_at statement place ≡ Whole kind body → (whose : Whose) → whose_at statement place ≡ Fits whose
      → (InRange (fields_for statement place whose) → ⊥) → RefusedBy statement place out_of_range

-- the record of some fields in range stands at a place, whatever is behind it
pub record StandsAt (fields : Fields) (statement : List ℕ) (place : ℕ) : Type 0 where
  pub complete : Complete fields
  pub range : InRange fields
  pub rest : List ℕ
  pub is : drop place statement ≡ written fields ++ rest
