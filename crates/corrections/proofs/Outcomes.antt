-- The ways through a correction: 23, the file's fault, 12, or both rolls settled; and what is told of each.
-- Assumes nothing.
use Prim.Native.Nat.{ℕ, zero, suc, ◌^◌, ◌≤◌, ◌<◌}
use native.Mathlib.Omega.{arith}
use mathlib.Core.Path.{◌≡◌, refl, sym, ap, ◌∙◌}
use mathlib.Core.Bool.{Bool, true, false, ◌||◌, false≢true}
use borrow.Author.Tests.{ltb-false}
use mathlib.Core.List.{List, ◌++◌}
use lib.ListN.{length, get_or, drop, replicate, length-replicate}
use lib.Dec.{ltb}
use Rattle.editions.specs.declared.Editions.{Editions}
use Rattle.editions.specs.declared.FileReading.TheVariants.{Fault}
use Rattle.editions.specs.Reading.{read_file, ReadFile}
use Rattle.settle.specs.declared.Answer.TheVariants.{Refused, Written}
use Rattle.settle.specs.Runs.{Settlement}
use Rattle.corrections.specs.Corrections.{
  has_record,
  settled_with,
  settled_before,
  statements_in,
  payers,
  paid_by,
  differences_size,
  differences_from,
  Correction,
  uncorrected,
  corrected,
  no_record,
  no_room,
  too_little,
  correction_of,
}
use Rattle.corrections.specs.Clauses.{AtMost, AddedUp, StatementsWritten, CorrectionTold}
use Rattle.corrections.proofs.Differences.{differences_alike}

-- ---- The ways.

module _ (file roll : List ℕ) (n : ℕ) (replacement : List ℕ) (room differences : ℕ) where
  pub no_record_way : has_record roll n ≡ false → correction_of file roll n replacement room differences ≡ uncorrected no_record 0
  unfolding correction_of
  no_record_way e = rw e

  module _ (has : has_record roll n ≡ true) where
    pub fault_way : {number at : ℕ} → read_file file ≡ Fault number at → correction_of file roll n replacement room differences ≡ uncorrected number at
    unfolding correction_of
    fault_way e = rw (has, e, correction_of)

    module _ (editions : Editions) (read : ReadFile file editions) where
      pub no_room_way :
          too_little room differences (settled_with file roll n replacement) ≡ true
          → correction_of file roll n replacement room differences ≡ uncorrected no_room 0
      unfolding correction_of
      no_room_way e = rw (has, read, correction_of, e)

      pub corrected_way :
          too_little room differences (settled_with file roll n replacement) ≡ false
          → correction_of file roll n replacement room differences
          ≡ corrected (settled_before file roll replacement) (settled_with file roll n replacement)
      unfolding correction_of
      corrected_way e = rw (has, read, correction_of, e)

-- the test for room, by the bytes that were counted
pub room_tested :
    (room differences bytes : ℕ) (new : List Settlement) {t : Bool} → bytes ≡ length (statements_in new)
    → ltb room bytes || ltb differences differences_size ≡ t → too_little room differences new ≡ t
unfolding too_little
room_tested room differences bytes new is e = rw is at e

pub room_there :
    (room differences bytes : ℕ) → ltb room bytes || ltb differences differences_size ≡ false → (bytes ≤ room) × (differences_size ≤ differences)
room_there room differences bytes e = go (ltb room bytes) (ltb differences differences_size) refl refl e
  where
    go : (s t : Bool) → ltb room bytes ≡ s → ltb differences differences_size ≡ t → s || t ≡ false → (bytes ≤ room) × (differences_size ≤ differences)
    go true t is is' e' = absurd (false≢true (sym e'))
    go false true is is' e' = absurd (false≢true (sym e'))
    go false false is is' e' = (ltb-false room bytes is, ltb-false differences differences_size is')

-- ---- What is told.

pub told_uncorrected :
    {correction : Correction} (statements differences : List ℕ) {number place : ℕ} → correction ≡ uncorrected number place → place < 2 ^ 32
    → CorrectionTold correction statements statements differences differences (Refused number place)
told_uncorrected statements differences e near = rw e (record { answer = refl; fits = near; statements_is = refl; differences_is = refl })

-- no sum at first
pub no_sums : AtMost 0 (replicate payers 0)
no_sums = record { size = length-replicate {A = ℕ} payers 0; each = none payers }
  where
    none : (many payer : ℕ) → get_or (replicate {A = ℕ} many 0) payer 0 ≤ 0
    none zero payer = omega arith
    none (suc many) zero = omega arith
    none (suc many) (suc payer) = none many payer

pub told_corrected :
    {correction : Correction} (file roll : List ℕ) (n : ℕ) (replacement statements differences : List ℕ) {statements' differences' olds news : List ℕ}
    {some bytes : ℕ} → correction ≡ corrected (settled_before file roll replacement) (settled_with file roll n replacement)
    → AddedUp file roll 0 replacement olds some → AddedUp file roll n replacement news bytes
    → StatementsWritten file roll n replacement statements statements'
    → differences' ≡ differences_from payers 0 (λ payer. get_or olds payer 0) (λ payer. get_or news payer 0) ++ drop differences_size differences
    → CorrectionTold correction statements statements' differences differences' (Written bytes)
told_corrected file roll n replacement statements differences {olds = olds} {news} e before after written put =
    rw e
    (record {
      answer = ap Written after.bytes;
      fits = omega (arith, after.bytes_most);
      statements_is = written;
      differences_is =
          put
          ∙ ap (λ (l : List ℕ). l ++ drop differences_size differences)
          (differences_alike (λ p. get_or olds p 0) (λ p. paid_by p (settled_before file roll replacement)) (λ p. get_or news p 0)
          (λ p. paid_by p (settled_with file roll n replacement)) (λ p h. before.paid p) (λ p h. after.paid p));
    })
