-- What a turn does, by what stands at the start of the bytes that have come.
-- Assumes nothing.
use Prim.Native.Nat.{ℕ, ◌+◌, ◌≤◌}
use native.Mathlib.Omega.{arith}
use mathlib.Core.Path.{◌≡◌, refl, sym, subst, ◌∙◌}
use mathlib.Core.Bool.{Bool, true, false, ◌||◌, false≢true}
use mathlib.Core.List.{List, ◌++◌}
use borrow.Author.Tests.{eqb-false}
use lib.ListN.{length}
use lib.Dec.{eqb}
use Rattle.editions.specs.declared.Editions.{Editions}
use Rattle.roll.specs.declared.Line.{Line}
use Rattle.roll.specs.declared.Line.TheVariants.{Charged, Both, Refused}
use Rattle.roll.specs.declared.Step.{Step}
use Rattle.roll.specs.declared.Step.TheVariants.{End, More, Record, Broken}
use Rattle.deciding.specs.Clauses.{Ready}
use Rattle.roll.specs.Clauses.{line_cents, step_cents, most_line_cents, Stepped}
use Rattle.roll.proofs.Starts.{record_within, more_short}
use Rattle.lines.specs.declared.tally.Tally.{Tally}
use Rattle.lines.specs.declared.turns.Turn.{Turn}
use Rattle.lines.specs.declared.turns.Turn.TheVariants as turn
use Rattle.lines.specs.Text.{line_text}
use Rattle.roll.specs.Lines.{most_records}
use Rattle.lines.specs.Turns.{records, counted, tail_of, Effect, asks, puts, ends, line_effect, effect_of}
use Rattle.text.specs.Clauses.{Put}
use Rattle.lines.specs.Clauses.{most_line, most_record, most_turn, Counting, Counted, Did, asked, put, ended, LineTaken, Range, Turned}
use Rattle.text.proofs.Puts.{put_join, put_same}

-- A run that goes on has not come to its last record.
going_on : (last : Bool) (n : ℕ) → last || eqb n most_records ≡ false → n ≡ most_records → ⊥
going_on true n e is = false≢true (sym e)
going_on false n e is = eqb-false n most_records e is

-- ---- A record's line.

module _ (tally : Tally) (line : Line) (used : ℕ) (last : Bool) where
  pub last_effect :
      last || eqb (records (counted tally line)) most_records ≡ true
      → line_effect tally line used last ≡ ends (line_text (records (counted tally line)) line ++ tail_of (counted tally line))
  unfolding line_effect
  last_effect e = rw e

  pub on_effect :
      last || eqb (records (counted tally line)) most_records ≡ false
      → line_effect tally line used last ≡ puts used (line_text (records (counted tally line)) line) (counted tally line)
  unfolding line_effect
  on_effect e = rw e

  module _ (after : Tally) (c : Counted tally line after) where
    pub last_taken :
        {a b d : List ℕ} → last || eqb (records after) most_records ≡ true
        → Put (line_text (records after) line) most_record a b → Put (tail_of after) most_line b d
        → LineTaken tally line used last a d turn.Over
    last_taken e x y =
        let tail = put_join x y in
        record { did = rw (last_effect (rw c.is at e)) (ended (rw c.is at tail)); cents = rw c.is at c.cents }

    pub on_taken :
        {a b : List ℕ} → last || eqb (records after) most_records ≡ false
        → Put (line_text (records after) line) most_record a b → LineTaken tally line used last a b (turn.On used after)
    on_taken e x = record { did = rw (on_effect (rw c.is at e)) (rw c.is (put (rw c.is at x))); cents = rw c.is at c.cents }

-- ---- What a turn leaves is in range.

put_range :
    {a b : List ℕ} {r : Turn} (piece : List ℕ) (more : Bool) (tally : Tally) (used : ℕ) (text : List ℕ) (after : Tally)
    → used ≤ length piece → Counting after → records after ≡ records tally + 1 → Did a b (puts used text after) r
    → Range piece more tally a b r
put_range piece more tally used text after within counting one (put x) = (within, (x.room, (counting, one)))

ended_range :
    {a b : List ℕ} {r : Turn} (piece : List ℕ) (more : Bool) (tally : Tally) (text : List ℕ) → Did a b (ends text) r
    → Range piece more tally a b r
ended_range piece more tally text (ended x) = x.room

pub counted_one : (tally : Tally) (line : Line) → records (counted tally line) ≡ records tally + 1
unfolding counted
counted_one tally (Charged entry) = omega arith
counted_one tally (Both one other) = omega arith
counted_one tally (Refused refusal) = omega arith

line_range :
    {tally : Tally} {line : Line} {used : ℕ} {last : Bool} {a b : List ℕ} {r : Turn} (piece : List ℕ) (more : Bool)
    → LineTaken tally line used last a b r → Counting tally → used ≤ length piece → Range piece more tally a b r
line_range {tally = tally} {line = line} {used = used} {last = last} {a = a} {b = b} {r = r} piece more taken counting within =
    go (last || eqb (records (counted tally line)) most_records) refl
  where
    go : (t : Bool) → last || eqb (records (counted tally line)) most_records ≡ t → Range piece more tally a b r
    go true e = ended_range piece more tally _ (rw (last_effect tally line used last e) at taken.did)
    go false e =
        let one = counted_one tally line in
        let not-all = going_on last (records (counted tally line)) e in
        put_range piece more tally used _ (counted tally line) within (record { few = omega arith; cents = taken.cents }) one
        (rw (on_effect tally line used last e) at taken.did)

-- ---- The ways through a turn.

module _ {file : List ℕ} {editions : Editions} {book piece : List ℕ} {more : Bool} {tally : Tally} {statement book' statement' : List ℕ} {s : Step}
    (ready : Ready file editions book) (counting : Counting tally) (step : Stepped file editions book piece more statement book' statement' s)
  where
    again : Ready file editions book'
    again = record { read = ready.read; sound_book = step.sound_again }

    pub more_turned : {a : List ℕ} → s ≡ More → Turned file editions book piece more tally a book' a turn.More
    unfolding effect_of
    more_turned is =
        let found = sym step.found ∙ is in
        record { did = rw found (asked refl); book_is = step.book_is; again = again; range = more_short file book piece more found }

    pub end_turned :
        {a b : List ℕ} → s ≡ End → Put (tail_of tally) most_line a b → Turned file editions book piece more tally a book' b turn.Over
    unfolding effect_of
    end_turned is x =
        let found = sym step.found ∙ is in
        record { did = rw found (ended (put_same x refl (omega arith))); book_is = step.book_is; again = again; range = omega (arith, x.room) }

    pub broken_turned :
        {a b : List ℕ} {r : Turn} → s ≡ Broken → LineTaken tally (Refused 5) 0 true a b r
        → Turned file editions book piece more tally a book' b r
    unfolding effect_of
    broken_turned is x =
        let found = sym step.found ∙ is in
        record { did = rw found x.did; book_is = step.book_is; again = again; range = line_range piece more x counting (omega arith) }

    pub record_turned :
        {line : Line} {used : ℕ} {a b : List ℕ} {r : Turn} → s ≡ Record line used → LineTaken tally line used false a b r
        → Turned file editions book piece more tally a book' b r
    unfolding effect_of
    record_turned {line} {used} is x =
        let found = sym step.found ∙ is in
        record {
          did = rw found x.did;
          book_is = step.book_is;
          again = again;
          range = line_range piece more x counting (record_within file book piece more line used found).1;
        }

-- what a record's line says
pub record_cents : {s : Step} (line : Line) (used : ℕ) → step_cents s ≤ most_line_cents → s ≡ Record line used → line_cents line ≤ most_line_cents
record_cents line used range is = subst (λ (t : Step). step_cents t ≤ most_line_cents) is range

-- ---- What was done, by the turn's answer.

module _ {before after : List ℕ} where
  pub asked_by : {d : Effect} → Did before after d turn.More → (d ≡ asks) × (after ≡ before)
  asked_by (asked same) = (refl, same)

  pub put_by :
      {d : Effect} {used : ℕ} {tally : Tally} → Did before after d (turn.On used tally)
      → (text : List ℕ) × (d ≡ puts used text tally) × Put text most_record before after
  put_by (put x) = (_, refl, x)

  pub ended_by : {d : Effect} → Did before after d turn.Over → (text : List ℕ) × (d ≡ ends text) × Put text most_turn before after
  ended_by (ended x) = (_, refl, x)
