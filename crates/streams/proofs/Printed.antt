-- What a run writes, put together, is the text of its input, whatever the pieces in which the input came and whenever it wrote; and every input
-- is run through.
-- Assumes nothing.
use Prim.Native.Nat.{ℕ, zero, suc, ◌<◌}
use native.Mathlib.Omega.{arith}
use native.Mathlib.Decide.{dec_lt}
use mathlib.Core.Path.{◌≡◌, refl, ap, ◌∙◌}
use mathlib.Core.Logic.{◌⊎◌, inl, inr}
use mathlib.Core.Bool.{Bool, true, false≢true}
use mathlib.Core.List.{List, [], ◌∷◌, ◌++◌, append_assoc}
use borrow.Author.Tests.{lt-ltb}
use lib.ListN.{length, drop}
use lib.Dec.{ltb}
use Rattle.streams.specs.Runs.{
  Effect,
  asks,
  puts,
  ends,
  Turns,
  State,
  turn_at,
  came,
  went,
  written,
  fed,
  holds,
  writes,
  Prints,
  goes_on,
  is_over,
}

-- no byte comes once the input is at its end
abbrev pub Still : Bool → List ℕ → Type 0
Still more rest = (more ≡ true) ⊎ (rest ≡ [])

-- bytes that come: no more come once there are none
still_more : (piece rest : List ℕ) → (length piece ≡ 0 → rest ≡ []) → Still (ltb 0 (length piece)) rest
still_more piece rest told =
    elim (dec_lt 0 (length piece)) [
      | yes some ↦ inl (lt-ltb 0 (length piece) some)
      | no none ↦ inr (told (omega arith))
    ]

-- what a turn does is one thing
pub asks_puts : {A : Type 0} {d : Effect A} {used : ℕ} {text : List ℕ} {on : A} → d ≡ asks → d ≡ puts used text on → ⊥
asks_puts p q = let z : ◌≡◌ {A = ℕ} 0 1 = cc in omega arith

-- what is still to be written of an input, by what is carried on: each turn's text comes first in it, and the last turn's is all of it
pub record Tells {A : Type 0} (turn : Turns A) (Fine : A → Type 0) (textFrom : A → List ℕ → List ℕ) : Type 0 where
  pub at_put : (kept : List ℕ) (more : Bool) (a : A) (rest : List ℕ) (used : ℕ) (text : List ℕ) (on : A) → Fine a → Still more rest
      → turn kept more a ≡ puts used text on → Fine on × (textFrom a (kept ++ rest) ≡ text ++ textFrom on (drop used kept ++ rest))
  pub at_end : (kept : List ℕ) (more : Bool) (a : A) (rest text : List ℕ) → Fine a → Still more rest → turn kept more a ≡ ends text
      → textFrom a (kept ++ rest) ≡ text

module _ {A : Type 0} {turn : Turns A} {Fine : A → Type 0} {textFrom : A → List ℕ → List ℕ} (tells : Tells turn Fine textFrom) where
  pub printed :
      {s : State A} {input texts : List ℕ} → Prints turn s input texts → Fine s.carried → Still s.more input
      → texts ≡ s.held ++ textFrom s.carried (s.kept ++ input)
  unfolding turn_at came went written
  printed (goes_on {s} {input} (fed piece e) told on) fine still =
      printed on fine (still_more piece input (told e)) ∙ rw (append_assoc s.kept piece input)
  printed (goes_on {s} {input} (holds {used} {text} {on = a} e) told on) fine still =
      let put = tells.at_put s.kept s.more s.carried input used text a fine still e in
      printed on put.0 still ∙ rw (put.1, append_assoc s.held text)
  printed (goes_on {s} {input} (writes {used} {text} {on = a} e) told on) fine still =
      let put = tells.at_put s.kept s.more s.carried input used text a fine still e in
      ap ((s.held ++ text) ++◌) (printed on put.0 still) ∙ rw (put.1, append_assoc s.held text)
  printed (is_over {s} {input} {text} e) fine still = rw (tells.at_end s.kept s.more s.carried input text fine still e)

-- ---- Every input is run through.

-- a turn that goes on leaves less to do, and none asks for more bytes where none can come
pub record Ends {A : Type 0} (turn : Turns A) (Fine : A → Type 0) (budget : A → ℕ) : Type 0 where
  pub at_put : (kept : List ℕ) (more : Bool) (a : A) (used : ℕ) (text : List ℕ) (on : A) → Fine a → turn kept more a ≡ puts used text on
      → Fine on × (budget on < budget a)
  pub at_asks : (kept : List ℕ) (more : Bool) (a : A) → turn kept more a ≡ asks → more ≡ true

module _ {A : Type 0} {turn : Turns A} {Fine : A → Type 0} {budget : A → ℕ} (ends_by : Ends turn Fine budget) where
  abbrev Through : State A → List ℕ → Type 0
  Through s input = (texts : List ℕ) × Prints turn s input texts

  -- once no byte came, no turn asks for more
  none_asked : (s : State A) → turn_at turn (came s []) ≡ asks → ⊥
  unfolding turn_at came
  none_asked s e = false≢true (ends_by.at_asks _ _ _ e)

  module _ (left : ℕ) (on : (s : State A) (input : List ℕ) → Fine s.carried → budget s.carried < left → Through s input) where
    -- a turn, where it is known what comes after one that asks for more
    turn_on :
        (s : State A) (input : List ℕ) → Fine s.carried → budget s.carried < suc left → (turn_at turn s ≡ asks → Through s input)
        → Through s input
    unfolding went turn_at
    turn_on s input fine few ask = go (turn_at turn s) refl
      where
        go : (effect : Effect A) → turn_at turn s ≡ effect → Through s input
        go asks e = ask e
        go (ends text) e = (_, is_over e)
        go (puts used text a) e =
            let less = ends_by.at_put s.kept s.more s.carried used text a fine e in
            let next = on (went s used text a) input less.0 (omega (arith, less.1)) in
            (next.0, goes_on (holds e) (λ b none. absurd (asks_puts b e)) next.1)

    -- turn after turn, byte by byte
    turns_on : (s : State A) (input : List ℕ) → Fine s.carried → budget s.carried < suc left → Through s input
    unfolding came
    turns_on s [] fine few =
        turn_on s [] fine few
        (λ e.
        let next = turn_on (came s []) [] fine few (λ again. absurd (none_asked s again)) in
        (next.0, goes_on (fed [] e) (λ b none. refl) next.1))
    turns_on s (byte ∷ input) fine few =
        turn_on s (byte ∷ input) fine few
        (λ e.
        let next = turns_on (came s (byte ∷ [])) input fine few in
        (next.0, goes_on (fed (byte ∷ []) e) (λ b none. absurd (omega arith)) next.1))

  through : (left : ℕ) (s : State A) (input : List ℕ) → Fine s.carried → budget s.carried < left → Through s input
  through zero s input fine few = absurd (omega arith)
  through (suc left) s input fine few = turns_on left (through left) s input fine few

  pub runs : (s : State A) (input : List ℕ) → Fine s.carried → (texts : List ℕ) × Prints turn s input texts
  runs s input fine = through (suc (budget s.carried)) s input fine (omega arith)
