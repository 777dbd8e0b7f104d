-- What checking a file answers: it fits one number, and of a faulty file it is what settling under it answers.
-- Assumes nothing.
use Prim.Native.Nat.{ℕ, ◌^◌, ◌<◌}
use native.Mathlib.Omega.{arith}
use mathlib.Core.Path.{◌≡◌, sym, ap, ◌∙◌}
use mathlib.Core.List.{List}
use lib.ListN.{length}
use Rattle.editions.specs.declared.Editions.{Editions}
use Rattle.editions.specs.declared.FileReading.TheVariants.{Fault}
use Rattle.editions.specs.Reading.{read_file, ReadFile}
use Rattle.editions.proofs.Lengths.{file_most}
use Rattle.editions.proofs.Cases.{file_fault_most}
use Rattle.settle.specs.declared.Answer.TheVariants.{Refused, Written}
use Rattle.settle.specs.Outcome.{settled, answer_of}
use Rattle.settle.proofs.Ways.{fault_way}
use Rattle.milecopper.specs.Clauses.{encoded_as}
use Rattle.milecopper.specs.Tariffs.{tariff_answer}

module _ (file : List ℕ) (number at : ℕ) (fault : read_file file ≡ Fault number at) where
  pub fault_fits : at < 2 ^ 32
  fault_fits = omega (arith, (file_fault_most file number at fault).1)

  pub fault_answer : tariff_answer file ≡ encoded_as (Refused number at)
  unfolding tariff_answer
  fault_answer = rw (fault, tariff_answer)

  pub fault_settled : (book trip : List ℕ) (room : ℕ) → tariff_answer file ≡ answer_of (settled file book trip room)
  fault_settled book trip room = fault_answer ∙ sym (ap answer_of (fault_way file book trip room number at fault))

module _ (file : List ℕ) (editions : Editions) (read : ReadFile file editions) where
  pub length_fits : length file < 2 ^ 32
  length_fits = omega (arith, file_most file editions read)

  pub faultless_answer : tariff_answer file ≡ encoded_as (Written (length file))
  unfolding tariff_answer
  faultless_answer = rw (read, tariff_answer)
