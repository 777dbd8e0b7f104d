-- docs/RULES.md, section 14: what a quote and its posting are to settling, and what a posting's refusal says.
use Rattle.std.specs.Prelude.{ℕ, ◌≡◌, ◌⊎◌, List}
use Rattle.editions.specs.declared.Editions.{Editions}
use Rattle.editions.specs.Reading.{ReadFile}
use Rattle.editions.specs.declared.FileReading.TheVariants.{Fault}
use Rattle.editions.specs.InWords.{FileSays}
use Rattle.statement.specs.Record.{Part, largest_statement, statement_of}
use Rattle.deciding.specs.declared.refusals.Refusal.{Refusal}
use Rattle.deciding.specs.declared.refusals.Refusal.TheVariants.{NoRoom}
use Rattle.deciding.specs.Refusals.{refusal, First}
use Rattle.settle.specs.Outcome.{Quote, unquoted, priced, Outcome, refused, accepted, quoted, settled}
use Rattle.settle.specs.Posting.{unposted, renewed, posting_rows, posting_of}
use Rattle.promises.specs.Conditions.{posting_condition}

-- settling in two steps. The quote and settling refuse alike, with one number and one place; and where that is not 12, which asks for room
-- that a posting does not need, so does the posting of any record. Or both accept: the quote writes the records of settling's parts, and
-- these posted at once give settling's book
pub data InTwoSteps (file book trip : List ℕ) : Quote → Outcome → Type 0 where
  refuse_alike :
      {number place : ℕ} → (number ≡ refusal NoRoom) ⊎ ((offered : List ℕ) → posting_of file book trip offered ≡ unposted number place)
      → InTwoSteps file book trip (unquoted number place) (refused number place)
  accept_alike :
      {new : List ℕ} {parts : List Part} → posting_of file book trip (statement_of parts) ≡ renewed new
      → InTwoSteps file book trip (priced parts) (accepted new parts)

-- the record is the bytes of the quote on the present book, wherever it comes from; and the book is the one that settling leaves
pub record PostsQuote (file book trip offered new : List ℕ) : Type 0 where
  pub parts : List Part
  pub quote : quoted file book trip largest_statement ≡ priced parts
  pub bytes : statement_of parts ≡ offered
  pub as_settled : settled file book trip largest_statement ≡ accepted new parts

-- a refusal of a posting. 1 to 3: all before its place is faultless, and there is wrong what its number says. 4 to 11 and 13: it has no
-- place, the file is faultless, and its condition is the first of the posting's table that holds
pub data PostingRefusedBy (file book trip offered : List ℕ) (n place : ℕ) : Type 0 where
  at_fault : FileSays file (Fault n place) → PostingRefusedBy file book trip offered n place
  at_row : (editions : Editions) → ReadFile file editions → (why : Refusal) → n ≡ refusal why → place ≡ 0
      → First (posting_condition file editions book trip offered) why (posting_rows file editions book trip offered)
      → PostingRefusedBy file book trip offered n place
