-- docs/RULES.md, R14.6: the one number that C is answered, taken apart again.
use Rattle.std.specs.Prelude.{ℕ, ◌/◌, ◌%◌, ◌^◌, ◌≤◌, ◌<◌, ◌≡◌, List, length}
use Rattle.editions.specs.declared.FileReading.{FileReading}
use Rattle.editions.specs.declared.FileReading.TheVariants.{Fault, Faultless}
use Rattle.reader.specs.Filling.{Filling, unfilled, filled}
use Rattle.settle.specs.declared.Answer.{Answer}
use Rattle.settle.specs.declared.Answer.TheVariants.{Refused, Written}

-- a refusal: the number is 2^32 or more, above that stands the refusal's number, below it its place. Else it is the bytes written
pub data Apart (r : ℕ) : Answer → Type 0 where
  a_refusal : {number place : ℕ} → 2 ^ 32 ≤ r → r / 2 ^ 32 ≡ number → r % 2 ^ 32 ≡ place → Apart r (Refused number place)
  some_bytes : {size : ℕ} → r < 2 ^ 32 → r ≡ size → Apart r (Written size)

-- what an answer has to be for that: a refusal has a number, and a place of 32 bits; and so many has a size
abbrev pub Tellable : Answer → Type 0
Tellable (Refused number place) = (1 ≤ number) × (place < 2 ^ 32)
Tellable (Written size) = size < 2 ^ 32

-- what reading a record answers, and checking a tariff
abbrev pub told_filling : Filling → Answer
told_filling (unfilled number) = Refused number 0
told_filling (filled fields size) = Written size

abbrev pub told_tariff : List ℕ → FileReading → Answer
told_tariff file (Fault number at) = Refused number at
told_tariff file (Faultless editions) = Written (length file)
