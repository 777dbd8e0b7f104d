-- The text of a roll's lines from a tally on: a line more is a text more, and from the first one on it is the text of them all.
-- Assumes nothing.
use Prim.Native.Nat.{ℕ, ◌+◌}
use native.Mathlib.Omega.{arith}
use mathlib.Core.Path.{◌≡◌, sym, ap, ◌∙◌}
use mathlib.Core.List.{List, [], ◌∷◌, ◌++◌, append_assoc}
use Rattle.roll.specs.declared.Line.{Line}
use Rattle.roll.specs.declared.Line.TheVariants.{Charged, Both, Refused}
use Rattle.lines.specs.declared.tally.Tally.{Tally}
use Rattle.lines.specs.Text.{header, line_text, tail_text, lines_text, accepted_of, refused_of, cents_of, text_of}
use Rattle.lines.specs.Turns.{records, counted, tail_of}
use Rattle.lines.proofs.Taken.{counted_one}

-- the lines that come after a tally, and the tail
pub rest_text : Tally → List Line → List ℕ
rest_text tally lines =
    lines_text (records tally + 1) lines
    ++ tail_text (tally.accepted + accepted_of lines) (tally.refused + refused_of lines) (tally.cents + cents_of lines)

-- the same numbers give the same tail
same_tail : {a b c d e f : ℕ} → a ≡ d → b ≡ e → c ≡ f → tail_text a b c ≡ tail_text d e f
same_tail p q r = cc

-- no line more
pub rest_none : (tally : Tally) → rest_text tally [] ≡ tail_of tally
unfolding rest_text lines_text accepted_of refused_of cents_of
rest_none tally = same_tail (omega arith) (omega arith) (omega arith)

-- a line's numbers are those of the tally with it
line_tail : (tally : Tally) (line : Line) (lines : List Line)
    → tail_text (tally.accepted + accepted_of (line ∷ lines)) (tally.refused + refused_of (line ∷ lines)) (tally.cents + cents_of (line ∷ lines))
    ≡ tail_text ((counted tally line).accepted + accepted_of lines) ((counted tally line).refused + refused_of lines)
    ((counted tally line).cents + cents_of lines)
unfolding counted accepted_of refused_of cents_of
line_tail tally (Charged entry) lines = same_tail (omega arith) (omega arith) (omega arith)
line_tail tally (Both one other) lines = same_tail (omega arith) (omega arith) (omega arith)
line_tail tally (Refused refusal) lines = same_tail (omega arith) (omega arith) (omega arith)

-- one line more
pub rest_more : (tally : Tally) (line : Line) (lines : List Line)
    → rest_text tally (line ∷ lines) ≡ line_text (records (counted tally line)) line ++ rest_text (counted tally line) lines
unfolding rest_text lines_text
rest_more tally line lines = rw (counted_one tally line, line_tail tally line lines, append_assoc)

-- from the first one on
pub all_text : (lines : List Line) → header ++ rest_text (record { accepted = 0; refused = 0; cents = 0 }) lines ≡ text_of lines
unfolding rest_text text_of
all_text lines =
    ap (λ (tail : List ℕ). header ++ (lines_text 1 lines ++ tail)) (same_tail (omega arith) (omega arith) (omega arith))
    ∙ sym (append_assoc header (lines_text 1 lines) _)
