-- What the program writes, put together, is the text of the roll's lines, whatever the pieces in which the roll came and whenever it wrote; and
-- every roll is run through. Each turn's text is that of the line that it takes from those still to come.
-- Assumes nothing.
use Prim.Native.Nat.{ℕ, suc, ◌+◌, ◌-◌, ◌≤◌, ◌<◌}
use native.Mathlib.Omega.{arith}
use mathlib.Core.Path.{◌≡◌, refl, sym, ap, ◌∙◌}
use mathlib.Core.Logic.{inl, inr}
use mathlib.Core.Bool.{Bool, true, false, false≢true}
use mathlib.Core.List.{List, [], ◌∷◌, ◌++◌, append-nil}
use borrow.Author.Tests.{eqb-false}
use lib.ListN.{drop}
use lib.Seq.{drop-append-le}
use Rattle.streams.specs.Runs.{asks, puts, ends, Prints}
use Rattle.streams.proofs.Printed.{Still, Tells, Ends}
use Rattle.streams.proofs.Printed as run
use Rattle.ledger.specs.Words.{fresh_book}
use Rattle.roll.specs.declared.Line.{Line}
use Rattle.roll.specs.declared.Line.TheVariants.{Refused}
use Rattle.roll.specs.declared.Step.{Step}
use Rattle.roll.specs.declared.Step.TheVariants.{End, More, Record, Broken}
use Rattle.settle.specs.Runs.{run_from}
use Rattle.roll.specs.Lines.{most_records, lines_of, lines_in, offers_of, broken_in}
use Rattle.roll.specs.Pieces.{step_of, book_step}
use Rattle.roll.proofs.Starts.{record_within, more_short}
use Rattle.roll.proofs.Pieces.{longer_same, after_step, lines_step}
use Rattle.lines.specs.declared.tally.Tally.{Tally}
use Rattle.lines.specs.Text.{text_of}
use Rattle.lines.specs.Turns.{records, counted, effect_of}
use Rattle.lines.specs.Turns as lines
use Rattle.lines.proofs.Taken.{counted_one}
use Rattle.lines.proofs.Told.{asks_more, PutsRecord, puts_record, at_end, at_broken, at_last, ends_by}
use Rattle.lines.proofs.Told as told
use Rattle.lines.proofs.Rest.{rest_text, rest_none, rest_more, all_text}
use Rattle.settle_roll.specs.Prints.{Carried, on_book, turn_under, start}
use Rattle.settle_roll.specs.Clauses.{records_left}

-- ---- What a turn does on the book, by what it does.

asks_by : (book : List ℕ) (d : lines.Effect) → on_book book d ≡ asks → d ≡ lines.asks
unfolding on_book
asks_by book lines.asks e = refl
asks_by book (lines.puts used text tally) e = absurd (let z : ◌≡◌ {A = ℕ} 0 1 = cc in omega arith)
asks_by book (lines.ends text) e = absurd (let z : ◌≡◌ {A = ℕ} 0 1 = cc in omega arith)

puts_by :
    (book : List ℕ) (d : lines.Effect) {used : ℕ} {text : List ℕ} {on : Carried} → on_book book d ≡ puts used text on
    → (d ≡ lines.puts used text on.tally) × (on.book ≡ book)
unfolding on_book
puts_by book lines.asks e = absurd (let z : ◌≡◌ {A = ℕ} 0 1 = cc in omega arith)
puts_by book (lines.puts used' text' tally) {used} {text} {on} e =
    let same : ◌≡◌ {A = Carried} on (record { book = book; tally = tally }) = cc in
    let of-used : used ≡ used' = cc in
    let of-text : text ≡ text' = cc in (rw (of-used, of-text, same), rw same)
puts_by book (lines.ends text) e = absurd (let z : ◌≡◌ {A = ℕ} 0 1 = cc in omega arith)

ends_with : (book : List ℕ) (d : lines.Effect) {text : List ℕ} → on_book book d ≡ ends text → d ≡ lines.ends text
unfolding on_book
ends_with book lines.asks e = absurd (let z : ◌≡◌ {A = ℕ} 0 1 = cc in omega arith)
ends_with book (lines.puts used text tally) e = absurd (let z : ◌≡◌ {A = ℕ} 0 1 = cc in omega arith)
ends_with book (lines.ends text) e = cc

-- ---- The lines that are still to come.

-- a record may come
abbrev Few : Carried → Type 0
Few on = records on.tally < most_records

-- the lines of bytes that are still to be settled
lines_left : List ℕ → Carried → List ℕ → List Line
lines_left file on roll = lines_of (records_left on) file on.book roll

text_left : List ℕ → Carried → List ℕ → List ℕ
text_left file on roll = rest_text on.tally (lines_left file on roll)

no_lines : (left : ℕ) (file book roll : List ℕ) → left ≤ 0 → lines_of left file book roll ≡ []
unfolding lines_of lines_in run_from offers_of broken_in
no_lines left file book roll none = let zero_is : left ≡ 0 = omega arith in rw zero_is

-- what stands at the start of the bytes kept stands at the start of all that is left
record SameStart (file book kept : List ℕ) (more : Bool) (rest : List ℕ) : Type 0 where
  step : step_of file book (kept ++ rest) false ≡ step_of file book kept more
  book-after : book_step file book (kept ++ rest) false ≡ book_step file book kept more

same_start :
    (file book kept : List ℕ) (more : Bool) (rest : List ℕ) → Still more rest → (step_of file book kept more ≡ More → ⊥)
    → SameStart file book kept more rest
same_start file book kept true rest still other =
    let same = longer_same file book kept rest false other in record { step = same.0; book-after = same.1 }
same_start file book kept false rest (inl more) other = absurd (false≢true more)
same_start file book kept false rest (inr none) other =
    let all : kept ++ rest ≡ kept = rw none (append-nil kept) in record { step = rw all; book-after = rw all }

module _ (file kept : List ℕ) (more : Bool) (on : Carried) (rest : List ℕ) (few : Few on) (still : Still more rest) where
  abbrev step_here : Step
  step_here = step_of file on.book kept more

  abbrev book_here : List ℕ
  book_here = book_step file on.book kept more

  -- the lines of what is left, by what stands at its start
  left_lines :
      (step : Step) → step_here ≡ step → (step ≡ More → ⊥)
      → lines_left file on (kept ++ rest)
      ≡ after_step step (λ line used. lines_of (most_records - (records on.tally + 1)) file book_here (drop used (kept ++ rest)))
  unfolding lines_left
  left_lines step e other =
      let here = same_start file on.book kept more rest still (rw e other) in
      let one_left : most_records - records on.tally ≡ suc (most_records - (records on.tally + 1)) = omega (arith, few) in
      rw (one_left, lines_step, here.step, here.book-after, e)

  -- behind a record come the lines of the rest, on the book that it left
  left_record :
      (line : Line) (used : ℕ) → step_here ≡ Record line used
      → lines_left file on (kept ++ rest)
      ≡ line ∷ lines_of (most_records - records (counted on.tally line)) file book_here (drop used kept ++ rest)
  unfolding after_step
  left_record line used e =
      let fits = record_within file on.book kept more line used e in
      left_lines (Record line used) e (λ more. let z : ◌≡◌ {A = ℕ} 0 1 = cc in omega arith)
      ∙ rw (counted_one on.tally line, drop-append-le used kept rest fits.1)

  -- ---- A turn's text.

  record-text :
      (used : ℕ) (text : List ℕ) (after : Carried) → PutsRecord step_here on.tally used text after.tally → after.book ≡ book_here
      → text_left file on (kept ++ rest) ≡ text ++ text_left file after (drop used kept ++ rest)
  unfolding lines_left text_left
  record-text used text after put book_is =
      rw (put.text_is, put.after_is, book_is, ← rest_more on.tally put.line, ← left_record put.line used put.is)

  after_record : (used : ℕ) (text : List ℕ) (after : Tally) → PutsRecord step_here on.tally used text after → records after < most_records
  after_record used text after put =
      let one = counted_one on.tally put.line in
      let not-all = eqb-false (records (counted on.tally put.line)) most_records put.not_last in
      rw put.after_is (omega (arith, few))

  -- ---- The last turn's text.

  over_text : {text : List ℕ} (step : Step) → step_here ≡ step → told.Ends on.tally text step → text_left file on (kept ++ rest) ≡ text
  unfolding after_step text_left
  over_text More e none = elim none [ ]
  over_text End e (at_end is) =
      let none = left_lines End e (λ more. let z : ◌≡◌ {A = ℕ} 0 1 = cc in omega arith) in rw none (rest_none on.tally) ∙ sym is
  over_text Broken e (at_broken is) =
      let only = left_lines Broken e (λ more. let z : ◌≡◌ {A = ℕ} 0 1 = cc in omega arith) in
      sym (is ∙ rw (only, rest_more on.tally (Refused 5) [], rest_none (counted on.tally (Refused 5))))
  over_text (Record line used) e (at_last all is) =
      let only = left_record line used e ∙ ap (line ∷◌) (no_lines _ file _ _ (omega (arith, all))) in
      sym (is ∙ rw (only, rest_more on.tally line [], rest_none (counted on.tally line)))

-- ---- All turns.

module _ (file : List ℕ) where
  tells : Tells (turn_under file) Few (text_left file)
  unfolding turn_under
  tells =
      record {
        at_put =
            λ kept more on rest used text after few still e.
            let did = puts_by (book_step file on.book kept more) (effect_of (step_of file on.book kept more) on.tally) e in
            let put = puts_record (step_of file on.book kept more) on.tally did.0 in (
              after_record file kept more on rest few still used text after.tally put,
              record-text file kept more on rest few still used text after put did.1,
            );
        at_end =
            λ kept more on rest text few still e.
            let did = ends_with (book_step file on.book kept more) (effect_of (step_of file on.book kept more) on.tally) e in
            over_text file kept more on rest few still _ refl (ends_by _ on.tally did);
      }

  -- What is written from the start on is the text of the roll's lines.
  pub printed :
      (roll texts : List ℕ) → Prints (turn_under file) start roll texts → texts ≡ text_of (lines_of most_records file fresh_book roll)
  unfolding lines_left text_left start
  printed roll texts prints =
      run.printed tells prints (omega arith) (inl refl) ∙ all_text (lines_of most_records file fresh_book roll)

  ends_all : Ends (turn_under file) Few records_left
  unfolding turn_under
  ends_all =
      record {
        at_put =
            λ kept more on used text after few e.
            let did = puts_by (book_step file on.book kept more) (effect_of (step_of file on.book kept more) on.tally) e in
            let put = puts_record (step_of file on.book kept more) on.tally did.0 in
            let one = counted_one on.tally put.line in
            let not-all = eqb-false (records (counted on.tally put.line)) most_records put.not_last in
            (rw put.after_is (omega (arith, few)), rw put.after_is (omega (arith, few)));
        at_asks =
            λ kept more on e.
            (more_short file on.book kept more (asks_more _ _ (asks_by _ (effect_of (step_of file on.book kept more) on.tally) e))).0;
      }

  -- Every roll is run through.
  pub runs : (roll : List ℕ) → (texts : List ℕ) × Prints (turn_under file) start roll texts
  unfolding start
  runs roll = run.runs ends_all start roll (omega arith)
