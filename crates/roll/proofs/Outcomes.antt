-- What settling a record of a roll tells: a refusal's number; or a size, and then the line of its part, or of its two parts, can be read off
-- the statement.
-- Assumes nothing.
use Prim.Native.Nat.{ℕ, ◌≤◌, ◌<◌}
use native.Mathlib.Omega.{arith}
use mathlib.Core.Path.{◌≡◌, sym, ap, subst, ◌∙◌}
use mathlib.Core.List.{List, [], ◌∷◌, ◌++◌}
use borrow.Author.Tests.{lt-ltb, le-ltb}
use lib.ListN.{length}
use Rattle.editions.specs.declared.Editions.{Editions}
use Rattle.statement.specs.Record.{Part, largest_statement, statement_of, Recordable}
use Rattle.statement.specs.Reading.{size_in}
use Rattle.statement.specs.Clauses.{StandsAt, Recordables, none, more}
use Rattle.statement.proofs.Charges.{length_record, one_part, length_two}
use Rattle.statement.proofs.Records.{opening_is, area_is, km_is, minutes_is, cents_is, size_is, record_at, first_stands, second_stands}
use Rattle.settle.specs.declared.Answer.{Answer}
use Rattle.settle.specs.declared.Answer.TheVariants as answer
use Rattle.settle.specs.Outcome.{Outcome, refused, accepted, settled_under, settled, parts_in, book_after, statement_after}
use Rattle.deciding.specs.Clauses.{Ready}
use Rattle.settle.specs.Clauses.{Told, ToldSound, NextSettled}
use Rattle.settle.proofs.Parts.{OneOrTwo, alone, both, Accepted, no_size, under_accepted, settled_accepted}
use Rattle.settle.proofs.Ways.{faultless_way}
use Rattle.roll.specs.declared.Line.{Line}
use Rattle.roll.specs.declared.Line.TheVariants.{Refused}
use Rattle.roll.specs.Lines.{part_entry, line_of}
use Rattle.roll.specs.Clauses.{StatementRoom, entry_in, Readable, line_in, LineIn, SettledLine}

-- A record says what is said of its part.
entry_is :
    {part : Part} {statement : List ℕ} {place : ℕ} → StandsAt part statement place → Recordable part → entry_in statement place ≡ part_entry part
unfolding entry_in part_entry
entry_is {part} {statement} {place} stands ok =
    rw (
      area_is part statement place stands ok,
      km_is part statement place stands ok,
      minutes_is part statement place stands ok,
      opening_is part statement place stands ok,
      cents_is part statement place stands ok,
    )

-- ---- A statement of one part or of two.

-- a statement of so many bytes can be read, and its line is the outcome's
record Says (o : Outcome) (statement : List ℕ) (size : ℕ) : Type 0 where
  readable : Readable statement size
  line : line_in statement size ≡ line_of o

-- Behind the only record nothing goes on.
one_says :
    (new : List ℕ) (part : Part) (rest : List ℕ) → Recordable part
    → Says (accepted new (part ∷ [])) (statement_of (part ∷ []) ++ rest) (length (statement_of (part ∷ [])))
unfolding line_in line_of
one_says new part rest ok =
    let statement = statement_of (part ∷ []) ++ rest in
    let stands = first_stands part [] rest in
    let over : length (statement_of (part ∷ [])) ≤ size_in statement 0 = omega (arith, size_is stands ok, ap length (one_part part)) in
    record {
      readable = record { first = record_at stands ok; second = λ on. absurd (omega arith) };
      line = rw (le-ltb (size_in statement 0) (length (statement_of (part ∷ []))) over, entry_is stands ok);
    }

-- Behind the first of two records the second begins.
two_says :
    (new : List ℕ) (one other : Part) (rest : List ℕ) → Recordable one → Recordable other
    → Says (accepted new (one ∷ other ∷ [])) (statement_of (one ∷ other ∷ []) ++ rest) (length (statement_of (one ∷ other ∷ [])))
unfolding line_in line_of
two_says new one other rest ok also =
    let statement = statement_of (one ∷ other ∷ []) ++ rest in
    let first = first_stands one (other ∷ []) rest in
    let behind = size_is first ok in
    let second : StandsAt other statement (size_in statement 0) = subst (StandsAt other statement) (sym behind) (second_stands one other [] rest) in
    let on : size_in statement 0 < length (statement_of (one ∷ other ∷ [])) = omega (arith, length_two one other, length_record other also.complete) in
    record {
      readable = record { first = record_at first ok; second = λ goes_on. record_at second also };
      line = rw (lt-ltb (size_in statement 0) (length (statement_of (one ∷ other ∷ []))) on, entry_is first ok, entry_is second also);
    }

says :
    (new : List ℕ) {parts : List Part} (rest : List ℕ) → OneOrTwo parts → Recordables parts
    → Says (accepted new parts) (statement_of parts ++ rest) (length (statement_of parts))
says new rest (alone part) (more ok none) = one_says new part rest ok
says new rest (both one other) (more ok (more also none)) = two_says new one other rest ok also

-- ---- What is told of an outcome.

-- A trip that was written has one part or two.
few_parts : {o : Outcome} {statement : List ℕ} {size : ℕ} → Accepted o statement size → OneOrTwo (parts_in o)
few_parts w = subst (λ (o : Outcome). OneOrTwo (parts_in o)) (sym w.is) w.few

written_says :
    (o : Outcome) → OneOrTwo (parts_in o) → {book book' statement statement' : List ℕ} {size : ℕ}
    → Told o book book' statement statement' (answer.Written size) → Says o statement' size
written_says (refused number place) few told = no_size told.answer
written_says (accepted new parts) few {size = size} told =
    let answered = told.answer in
    let all : size ≡ length (statement_of parts) = cc in
    rw (all, told.statement_is) (says new _ few told.recordable)

turned_down :
    (o : Outcome) {book book' statement statement' : List ℕ} {number place : ℕ} → Told o book book' statement statement' (answer.Refused number place)
    → Refused number ≡ line_of o
unfolding line_of
turned_down (refused number place) told = let same = told.answer in ap Refused cc
turned_down (accepted new parts) told = no_size (sym told.answer)

-- So what was settled under any file can be read.
pub settled_readable :
    (file book trip : List ℕ) (room : ℕ) {book' statement statement' : List ℕ} {r : Answer} {size : ℕ}
    → Told (settled file book trip room) book book' statement statement' r → r ≡ answer.Written size → Readable statement' size
settled_readable file book trip room told is =
    let wrote = rw is at told in (written_says _ (few_parts (settled_accepted file book trip room wrote)) wrote).readable

-- ---- What settling a record of a roll tells.

module _ {file : List ℕ} {editions : Editions} {book : List ℕ} (trip : List ℕ) {book' statement statement' : List ℕ} {r : Answer} (ready : Ready file editions book)
    (room : StatementRoom statement) (lent : NextSettled file editions book trip statement book' statement' r) where
  o : ToldSound (settled_under file editions book trip largest_statement) editions book book' statement statement' r
  o =
      subst (λ (bytes : ℕ). ToldSound (settled_under file editions book trip bytes) editions book book' statement statement' r) room lent

  under : settled file book trip largest_statement ≡ settled_under file editions book trip largest_statement
  under = faultless_way file book trip largest_statement editions ready.read

  told_says : {size : ℕ} → r ≡ answer.Written size → Says (settled_under file editions book trip largest_statement) statement' size
  told_says is = let told = rw is at o.told in written_says _ (few_parts (under_accepted file editions book trip largest_statement told)) told

  pub readable : {size : ℕ} → r ≡ answer.Written size → Readable statement' size
  readable is = (told_says is).readable

  pub charged_settled : {size : ℕ} {line : Line} → r ≡ answer.Written size → LineIn statement' size line → SettledLine file editions book trip statement book' statement' line
  charged_settled is e =
      record {
        line = e.value ∙ (told_says is).line ∙ ap line_of (sym under);
        book_is = o.told.book_is ∙ ap (λ (x : Outcome). book_after x book) (sym under);
        statement_is = o.told.statement_is ∙ ap (λ (x : Outcome). statement_after x statement) (sym under);
        sound_again = o.sound_again;
        range = e.range;
      }

  pub refused_settled : {number place : ℕ} → r ≡ answer.Refused number place → SettledLine file editions book trip statement book' statement' (Refused number)
  refused_settled is =
      record {
        line = turned_down _ (rw is at o.told) ∙ ap line_of (sym under);
        book_is = o.told.book_is ∙ ap (λ (x : Outcome). book_after x book) (sym under);
        statement_is = o.told.statement_is ∙ ap (λ (x : Outcome). statement_after x statement) (sym under);
        sound_again = o.sound_again;
        range = omega arith;
      }
