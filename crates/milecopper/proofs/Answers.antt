-- The exported number is the answer of the outcome, of the quote, of the posting, of a page's change, of a trip under a ceiling and of a correction.
-- Assumes nothing.
use Prim.Native.Nat.{ℕ}
use native.Mathlib.Omega.{arith}
use mathlib.Core.Path.{◌≡◌, refl, sym, ap, ◌∙◌}
use mathlib.Core.List.{List}
use Rattle.reader.specs.declared.fields.Filled.{Filled}
use Rattle.reader.specs.declared.fields.Filled.TheVariants as out
use Rattle.reader.specs.Filling.{Filling, unfilled, filled, filled_as, FilledIn}
use Rattle.settle.specs.declared.Answer.{Answer}
use Rattle.settle.specs.declared.Answer.TheVariants.{Refused, Written}
use Rattle.settle.specs.Outcome.{Quote, unquoted, priced, Outcome, refused, accepted, answer_of, quote_answer, Settled, Quoted}
use Rattle.settle.specs.Posting.{Posting, unposted, renewed, posting_answer, Posted}
use Rattle.settle.specs.Clauses.{told_by, Told, told_quote, QuoteTold, told_posting, PostingTold}
use Rattle.page.specs.Pages.{Change, unchanged, changed}
use Rattle.accounts.specs.Members.{change_answer, Changed}
use Rattle.accounts.specs.Clauses.{told_change, ChangeTold}
use Rattle.ceiling.specs.Clauses.{MonthTold, MonthSettled}
use Rattle.corrections.specs.Corrections.{Correction, uncorrected, corrected, correction_answer}
use Rattle.corrections.specs.Clauses.{told_correction, CorrectionTold, Corrected}
use Rattle.milecopper.specs.Clauses.{encoded_as, filling_answer, ReadTo}

answer-is : (o : Outcome) → encoded_as (told_by o) ≡ answer_of o
answer-is (refused number place) = refl
answer-is (accepted new parts) = refl

pub settled-told :
    {o : Outcome} {book book' statement statement' : List ℕ} {a : Answer} {r : ℕ} → Told o book book' statement statement' a → r ≡ encoded_as a
    → Settled o book book' statement statement' r
settled-told {o} told is =
    record { answer = is ∙ ap encoded_as told.answer ∙ answer-is o; book_is = told.book_is; statement_is = told.statement_is }

pub month-told :
    {o : Outcome} {ceiling : ℕ} {trip kept kept' book book' statement statement' due due' : List ℕ} {a : Answer} {r : ℕ}
    → MonthTold o ceiling trip kept kept' book book' statement statement' due due' a → r ≡ encoded_as a
    → MonthSettled o ceiling trip kept kept' book book' statement statement' due due' r
month-told {o} month is =
    record {
      answer = is ∙ ap encoded_as month.told.answer ∙ answer-is o;
      book_is = month.told.book_is;
      statement_is = month.told.statement_is;
      kept_is = month.kept_is;
      due_is = month.due_is;
    }

quote-answer-is : (q : Quote) → encoded_as (told_quote q) ≡ quote_answer q
quote-answer-is (unquoted number place) = refl
quote-answer-is (priced parts) = refl

pub quoted-told :
    {q : Quote} {statement statement' : List ℕ} {a : Answer} {r : ℕ} → QuoteTold q statement statement' a → r ≡ encoded_as a → Quoted q statement statement' r
quoted-told {q} told is = record { answer = is ∙ ap encoded_as told.answer ∙ quote-answer-is q; statement_is = told.statement_is }

posting-answer-is : (p : Posting) → encoded_as (told_posting p) ≡ posting_answer p
posting-answer-is (unposted number place) = refl
posting-answer-is (renewed new) = refl

pub posted_told :
    {p : Posting} {book book' : List ℕ} {a : Answer} {r : ℕ} → PostingTold p book book' a → r ≡ encoded_as a → Posted p book book' r
posted_told {p} told is = record { answer = is ∙ ap encoded_as told.answer ∙ posting-answer-is p; book_is = told.book_is }

change-answer-is : (c : Change) → encoded_as (told_change c) ≡ change_answer c
change-answer-is (unchanged number) = refl
change-answer-is (changed new) = refl

pub changed-told :
    {c : Change} {page page' : List ℕ} {a : Answer} {r : ℕ} → ChangeTold c page page' a → r ≡ encoded_as a → Changed c page page' r
changed-told {c} told is = record { answer = is ∙ ap encoded_as told.answer ∙ change-answer-is c; page_is = told.page_is }

correction-answer-is : (c : Correction) → encoded_as (told_correction c) ≡ correction_answer c
correction-answer-is (uncorrected number place) = refl
correction-answer-is (corrected old new) = refl

pub corrected-told :
    {c : Correction} {statements statements' differences differences' : List ℕ} {a : Answer} {r : ℕ}
    → CorrectionTold c statements statements' differences differences' a → r ≡ encoded_as a
    → Corrected c statements statements' differences differences' r
corrected-told {c} told is =
    record {
      answer = is ∙ ap encoded_as told.answer ∙ correction-answer-is c;
      statements_is = told.statements_is;
      differences_is = told.differences_is;
    }

-- A filling's answer, refused or not, as one number.
refused-answer : (f : Filling) {n : ℕ} → filled_as f ≡ out.Refused n → encoded_as (Refused n 0) ≡ filling_answer f
refused-answer (unfilled m) {n} e = let same : m ≡ n = cc in rw same
refused-answer (filled fields size) e = absurd (let z : ◌≡◌ {A = ℕ} 0 1 = cc in omega arith)

record-answer : (f : Filling) {size : ℕ} → filled_as f ≡ out.Record size → encoded_as (Written size) ≡ filling_answer f
record-answer (unfilled m) e = absurd (let z : ◌≡◌ {A = ℕ} 0 1 = cc in omega arith)
record-answer (filled fields m) {size} e = let same : m ≡ size = cc in sym same

pub refused_read :
    {f : Filling} {before after : List ℕ} {a : Filled} {n r : ℕ} → FilledIn f before after a → a ≡ out.Refused n → r ≡ encoded_as (Refused n 0)
    → ReadTo f before after r
refused_read {f} told e is = record { answer = is ∙ refused-answer f (sym told.answer ∙ e); fields_are = told.fields_are }

pub record_read :
    {f : Filling} {before after : List ℕ} {a : Filled} {size r : ℕ} → FilledIn f before after a → a ≡ out.Record size → r ≡ encoded_as (Written size)
    → ReadTo f before after r
record_read {f} told e is = record { answer = is ∙ record-answer f (sym told.answer ∙ e); fields_are = told.fields_are }

-- Two results that the contract allows are equal: the answer, and every byte of the slice.
pub reads-alike :
    {f : Filling} {before after after' : List ℕ} {r r' : ℕ} → ReadTo f before after r → ReadTo f before after' r' → (r ≡ r') × (after ≡ after')
reads-alike one other = (one.answer ∙ sym other.answer, one.fields_are ∙ sym other.fields_are)
