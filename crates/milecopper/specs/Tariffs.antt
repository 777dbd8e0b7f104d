-- docs/RULES.md, section 4: what checking a file of editions alone answers. A faulty one: the refusal, 1 to 3, and the place of the first faulty record. A
-- faultless one: its length.
use Rattle.std.specs.Prelude.{ℕ, List, length}
use Rattle.editions.specs.declared.FileReading.TheVariants.{Fault, Faultless}
use Rattle.editions.specs.Reading.{read_file}
use Rattle.settle.specs.declared.Answer.TheVariants.{Refused, Written}
use Rattle.milecopper.specs.Clauses.{encoded_as}

unfoldable pub tariff_answer : List ℕ → ℕ
tariff_answer file =
    elim (read_file file) [
      | Fault number at ↦ encoded_as (Refused number at)
      | Faultless editions ↦ encoded_as (Written (length file))
    ]
