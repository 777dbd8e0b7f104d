-- The faults that editions bring, one by one: a file that does not begin with kind 9, a record of kind 9 where something is due, a third one, and a
-- date that does not rise. And the bounds of any fault.
-- Assumes nothing.
use Prim.Native.Nat.{ℕ, ◌+◌, ◌≤◌}
use native.Mathlib.Omega.{arith}
use mathlib.Core.Path.{◌≡◌, refl, sym, ◌∙◌}
use mathlib.Core.Bool.{true, false≢true}
use mathlib.Core.List.{List, []}
use lib.ListN.{drop}
use Rattle.units.specs.declared.Minutes.{Minutes}
use Rattle.wire.specs.Frame.{frame_at}
use Rattle.wire.specs.declared.Frame.TheVariants.{Whole}
use Rattle.layout.specs.declared.Counts.{Counts}
use Rattle.layout.specs.Layout.{longest_tariff}
use Rattle.layout.specs.Rules.{factors_due}
use Rattle.layout.specs.Scan.{FaultlessUntil, FaultSays}
use Rattle.layout.proofs.Entries.{still_due, other_frame, fault_entry}
use Rattle.layout.proofs.FaultlessUntil.{early}
use Rattle.scan.proofs.Faults.{fault_exactly, fault_most}
use Rattle.editions.specs.declared.FileReading.TheVariants.{Fault}
use Rattle.editions.specs.Openings.{
  edition_kind,
  opening_body,
  opening_size,
  date_at,
  minute_at,
  Opened,
  OpeningSays,
  broken_off,
  ended,
  other-record,
  no_date,
  too-early,
}
use Rattle.editions.specs.Reading.{read_file, longest_file}
use Rattle.editions.specs.InWords.{
  first_tariff,
  second_tariff,
  SecondBegins,
  FileSays,
  first_opening,
  first-tariff,
  second_opening,
  second-tariff,
}
use Rattle.editions.proofs.OpeningLaws.{frame_drop}
use Rattle.editions.proofs.FileLaws.{nothing_due, says, said}

-- An empty file lacks its first record.
pub empty_file : read_file [] ≡ Fault 2 0
empty_file = said [] (first_opening (ended refl (omega arith)))

-- a record of kind 9 is no part of a tariff
no_part :
    (file : List ℕ) (start place body : ℕ) (so_far : Counts) → frame_at file (start + place) ≡ Whole edition_kind body
    → FaultSays (drop start file) place so_far 2
no_part file start place body so_far frame =
    fault_entry (drop start file) place so_far 2
    (other_frame (drop start file) place so_far edition_kind body (frame_drop start file place ∙ frame) refl (λ e. omega arith) (λ e. omega arith))

module _ (file : List ℕ) where
  -- The first record is of another kind.
  pub no_opening : (kind body : ℕ) → frame_at file 0 ≡ Whole kind body → (kind ≡ edition_kind → ⊥) → read_file file ≡ Fault 2 0
  no_opening kind body frame other = said file (first_opening (other-record kind body refl frame (λ nine four. other nine)))

  module _ {since : Minutes} (opened : Opened file 0 0 since) where
    -- A record of kind 9 stands where an area or a factor record is due.
    pub opening_too_soon :
        (place body : ℕ) (so_far : Counts) → FaultlessUntil (first_tariff file) place so_far → still_due so_far (factors_due (first_tariff file) so_far) ≡ true
        → frame_at file (opening_size + place) ≡ Whole edition_kind body → read_file file ≡ Fault 2 (opening_size + place)
    opening_too_soon place body so_far passed some frame =
        said file
        (first-tariff opened passed (no_part file opening_size place body so_far frame)
        (λ begins. false≢true (sym (nothing_due so_far _ begins.some begins.all) ∙ some)))

    module _ (place : ℕ) (counts : Counts) (begins : SecondBegins file place counts) where
      -- The second edition's date is not after the first's: the same date is refused too.
      pub date_not_after :
          frame_at file (opening_size + place) ≡ Whole edition_kind opening_body → date_at file (opening_size + place) ≡ true
          → minute_at file (opening_size + place) ≤ since.0 → read_file file ≡ Fault 3 (opening_size + place)
      date_not_after frame date not_after = said file (second_opening opened begins (too-early refl frame date (omega arith)))

      -- A third record of kind 9 stands behind faultless records of the second edition.
      pub third_opening :
          {since₂ : Minutes} → Opened file (opening_size + place) (since.0 + 1) since₂ → (place₂ body : ℕ) (so_far : Counts)
          → FaultlessUntil (second_tariff file (opening_size + place)) place₂ so_far
          → frame_at file (opening_size + place + opening_size + place₂) ≡ Whole edition_kind body
          → read_file file ≡ Fault 2 (opening_size + place + opening_size + place₂)
      third_opening opened₂ place₂ body so_far passed frame =
          said file
          (second-tariff opened begins opened₂ passed (no_part file (opening_size + place + opening_size) place₂ body so_far frame))

-- ---- A fault's number is at most 3, and its place no later than the longest file's end.

opening_number : {file : List ℕ} {at least number : ℕ} → OpeningSays file at least number → number ≤ 3
opening_number (broken_off e inside frame) = omega arith
opening_number (ended e over) = omega arith
opening_number (other-record kind body e frame other) = omega arith
opening_number (no_date e frame not-one) = omega arith
opening_number (too-early e frame one early) = omega arith

tariff_most :
    (b : List ℕ) (number place : ℕ) (so_far : Counts) → FaultlessUntil b place so_far → FaultSays b place so_far number → (number ≤ 3) × (place ≤ longest_tariff)
tariff_most b number place so_far passed wrong = fault_most b number place ((fault_exactly b number place).1 (so_far, passed, wrong))

meant_most : (file : List ℕ) {number at : ℕ} → FileSays file (Fault number at) → (number ≤ 3) × (at ≤ longest_file)
meant_most file (first_opening wrong) = (opening_number wrong, omega arith)
meant_most file (first-tariff {number} {place} {so_far} opened passed wrong no_second) =
    let most = tariff_most (first_tariff file) number place so_far passed wrong in
    (most.0, omega (arith, most.1))
meant_most file (second_opening {place} {counts} opened begins wrong) =
    (opening_number wrong, omega (arith, early (first_tariff file) place counts begins.passed))
meant_most file (second-tariff {number} {place} {place₂} {counts} {so_far} opened begins opened₂ passed wrong) =
    let most = tariff_most (second_tariff file (opening_size + place)) number place₂ so_far passed wrong in
    (most.0, omega (arith, most.1, early (first_tariff file) place counts begins.passed))

pub file_fault_most : (file : List ℕ) (number at : ℕ) → read_file file ≡ Fault number at → (number ≤ 3) × (at ≤ longest_file)
file_fault_most file number at e = meant_most file (rw e at (says file))
