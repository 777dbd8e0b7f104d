-- An answer as one number: the lower 32 bits hold a place or a size, those above a refusal's number.
use Rattle.std.specs.Prelude.{ℕ, ◌≡◌, List}
use Rattle.reader.specs.Filling.{Filling, unfilled, filled, fields_after}
use Rattle.settle.specs.declared.Answer.{Answer}
use Rattle.settle.specs.declared.Answer.TheVariants.{Refused, Written}
use Rattle.settle.specs.Outcome.{refused_as}

abbrev pub encoded_as : Answer → ℕ
encoded_as (Refused number place) = refused_as number place
encoded_as (Written size) = size

-- what reading a record into a slice answers: a refusal, which has no place; or the record's bytes
abbrev pub filling_answer : Filling → ℕ
filling_answer (unfilled number) = refused_as number 0
filling_answer (filled fields size) = size

-- the answer and every byte left in the slice are the filling's
pub record ReadTo (filling : Filling) (before after : List ℕ) (r : ℕ) : Type 0 where
  pub answer : r ≡ filling_answer filling
  pub fields_are : after ≡ fields_after filling before
