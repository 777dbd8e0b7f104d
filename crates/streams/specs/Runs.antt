-- A run: a program reads its input piece by piece, takes turns on the bytes that have come, and writes what they put. What a turn does is the
-- program's own; `A` is what its turns carry on from one to the next.
use Rattle.std.specs.Prelude.{ℕ, ◌≡◌, Bool, List, [], ◌++◌, length, drop, ltb}

-- what a turn does: it asks for more bytes; or it uses bytes, puts a text and carries something on; or it puts a text, and the run is over
pub data Effect (A : Type 0) : Type 0 where
  asks : Effect A
  puts : ℕ → List ℕ → A → Effect A
  ends : List ℕ → Effect A

-- a turn, on the bytes that have come, where more can come behind them or not
abbrev pub Turns : Type 0 → Type 0
Turns A = List ℕ → Bool → A → Effect A

-- how far a run has come: the bytes that have come and are not used yet, whether more can come, the bytes that were put and are not written
-- yet, and what is carried on
pub record State (A : Type 0) : Type 0 where
  pub kept : List ℕ
  pub more : Bool
  pub held : List ℕ
  pub carried : A

module _ {A : Type 0} where
  -- the turn that comes
  unfoldable pub turn_at : Turns A → State A → Effect A
  turn_at turn s = turn s.kept s.more s.carried

  -- bytes have come, behind those kept; none is the input's end
  unfoldable pub came : State A → List ℕ → State A
  came s piece = record { kept = s.kept ++ piece; more = ltb 0 (length piece); held = s.held; carried = s.carried }

  -- a turn has used bytes, put a text and carried something on
  unfoldable pub went : State A → ℕ → List ℕ → A → State A
  went s used text on = record { kept = drop used s.kept; more = s.more; held = s.held ++ text; carried = on }

  -- all that was put is written
  unfoldable pub written : State A → State A
  written s = record { kept = s.kept; more = s.more; held = []; carried = s.carried }

-- one step of the loop: the bytes that come, the bytes that are written, and how far the run has come then
pub data Goes {A : Type 0} (turn : Turns A) (s : State A) : List ℕ → List ℕ → State A → Type 0 where
  -- where a turn asks for more bytes, some are read
  fed : (piece : List ℕ) → turn_at turn s ≡ asks → Goes turn s piece [] (came s piece)
  -- what a turn puts is held
  holds : {used : ℕ} {text : List ℕ} {on : A} → turn_at turn s ≡ puts used text on → Goes turn s [] [] (went s used text on)
  -- or it is written, with all that was held
  writes : {used : ℕ} {text : List ℕ} {on : A} → turn_at turn s ≡ puts used text on
      → Goes turn s [] (s.held ++ text) (written (went s used text on))

-- a whole run, from a state on, on the bytes of the input that have not come yet: all that it writes. The input comes in pieces of any
-- lengths; where it is read and no byte comes, it is at its end
pub data Prints {A : Type 0} (turn : Turns A) : State A → List ℕ → List ℕ → Type 0 where
  goes_on : {s s' : State A} {piece input text rest : List ℕ} → Goes turn s piece text s'
      → (turn_at turn s ≡ asks → length piece ≡ 0 → input ≡ []) → Prints turn s' input rest → Prints turn s (piece ++ input) (text ++ rest)
  -- a turn ends the run, and all that is held is written, with what it puts
  is_over : {s : State A} {input text : List ℕ} → turn_at turn s ≡ ends text → Prints turn s input (s.held ++ text)
