-- What a turn does tells what stood at the start of the bytes that had come.
-- Assumes nothing.
use Prim.Native.Nat.{ℕ}
use native.Mathlib.Omega.{arith}
use mathlib.Core.Path.{◌≡◌, refl, sym, ◌∙◌}
use mathlib.Core.Bool.{Bool, true, false, ◌||◌}
use mathlib.Core.List.{List, ◌++◌}
use borrow.Author.Tests.{eqb-true}
use lib.Dec.{eqb}
use Rattle.roll.specs.declared.Line.{Line}
use Rattle.roll.specs.declared.Line.TheVariants.{Refused}
use Rattle.roll.specs.declared.Step.{Step}
use Rattle.roll.specs.declared.Step.TheVariants.{End, More, Record, Broken}
use Rattle.lines.specs.declared.tally.Tally.{Tally}
use Rattle.lines.specs.Text.{line_text}
use Rattle.roll.specs.Lines.{most_records}
use Rattle.lines.specs.Turns.{records, counted, tail_of, Effect, asks, puts, ends, effect_of}
use Rattle.lines.proofs.Taken.{last_effect, on_effect}

-- what a turn does is one thing
asks_ends : {d : Effect} {text : List ℕ} → d ≡ asks → d ≡ ends text → ⊥
asks_ends p q = let z : ◌≡◌ {A = ℕ} 0 1 = cc in omega arith

pub asks_puts : {d : Effect} {used : ℕ} {text : List ℕ} {tally : Tally} → d ≡ asks → d ≡ puts used text tally → ⊥
asks_puts p q = let z : ◌≡◌ {A = ℕ} 0 1 = cc in omega arith

ends_puts : {d : Effect} {last : List ℕ} {used : ℕ} {text : List ℕ} {tally : Tally} → d ≡ ends last → d ≡ puts used text tally → ⊥
ends_puts p q = let z : ◌≡◌ {A = ℕ} 0 1 = cc in omega arith

-- a line's text, and the tail behind it
abbrev pub last_text : Tally → Line → List ℕ
last_text tally line = line_text (records (counted tally line)) line ++ tail_of (counted tally line)

-- ---- It asks for more where a record is not whole yet.

pub asks_more : (step : Step) (tally : Tally) → effect_of step tally ≡ asks → step ≡ More
unfolding effect_of
asks_more More tally e = refl
asks_more End tally e = absurd (asks_ends e refl)
asks_more Broken tally e = absurd (asks_ends e (last_effect tally (Refused 5) 0 true refl))
asks_more (Record line used) tally e = go (false || eqb (records (counted tally line)) most_records) refl
  where
    go : (t : Bool) → false || eqb (records (counted tally line)) most_records ≡ t → Record line used ≡ More
    go true last = absurd (asks_ends e (last_effect tally line used false last))
    go false on = absurd (asks_puts e (on_effect tally line used false on))

-- ---- It goes on behind a whole record that is not the last.

pub record PutsRecord (step : Step) (tally : Tally) (used : ℕ) (text : List ℕ) (after : Tally) : Type 0 where
  pub line : Line
  pub is : step ≡ Record line used
  pub text_is : text ≡ line_text (records (counted tally line)) line
  pub after_is : after ≡ counted tally line
  pub not_last : eqb (records (counted tally line)) most_records ≡ false

pub puts_record :
    (step : Step) (tally : Tally) {used : ℕ} {text : List ℕ} {after : Tally} → effect_of step tally ≡ puts used text after
    → PutsRecord step tally used text after
unfolding effect_of
puts_record More tally e = absurd (asks_puts refl e)
puts_record End tally e = absurd (ends_puts refl e)
puts_record Broken tally e = absurd (ends_puts (last_effect tally (Refused 5) 0 true refl) e)
puts_record (Record line used') tally {used} {text} {after} e = go (false || eqb (records (counted tally line)) most_records) refl
  where
    go : (t : Bool) → false || eqb (records (counted tally line)) most_records ≡ t → PutsRecord (Record line used') tally used text after
    go true last = absurd (ends_puts (last_effect tally line used' false last) e)
    go false on =
        let same = sym e ∙ on_effect tally line used' false on in
        let of-used : used ≡ used' = cc in
        record { line = line; is = rw of-used; text_is = cc; after_is = cc; not_last = on }

-- ---- It ends the run at the roll's end, at a broken frame, and with the last record.

pub data Ends (tally : Tally) (text : List ℕ) : Step → Type 0 where
  at_end : text ≡ tail_of tally → Ends tally text End
  at_broken : text ≡ last_text tally (Refused 5) → Ends tally text Broken
  at_last : {line : Line} {used : ℕ} → records (counted tally line) ≡ most_records → text ≡ last_text tally line → Ends tally text (Record line used)

pub ends_by : (step : Step) (tally : Tally) {text : List ℕ} → effect_of step tally ≡ ends text → Ends tally text step
unfolding effect_of
ends_by More tally e = absurd (asks_ends refl e)
ends_by End tally e = at_end cc
ends_by Broken tally e = let same = sym e ∙ last_effect tally (Refused 5) 0 true refl in at_broken cc
ends_by (Record line used) tally {text} e = go (false || eqb (records (counted tally line)) most_records) refl
  where
    go : (t : Bool) → false || eqb (records (counted tally line)) most_records ≡ t → Ends tally text (Record line used)
    go true last =
        let same = sym e ∙ last_effect tally line used false last in
        at_last (eqb-true (records (counted tally line)) most_records last) cc
    go false on = absurd (ends_puts e (on_effect tally line used false on))
