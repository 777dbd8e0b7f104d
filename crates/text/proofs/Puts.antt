-- Texts put one behind another.
-- Assumes nothing.
use Prim.Native.Nat.{ℕ, zero, suc, ◌+◌, ◌-◌, ◌/◌, ◌%◌, ◌^◌, ◌≤◌, ◌<◌}
use native.Mathlib.Omega.{arith}
use native.Mathlib.Nat.{pow-suc, div-div-eq-div-mul}
use mathlib.Core.Path.{◌≡◌, refl, sym, ap, ◌∙◌}
use mathlib.Core.List.{List, [], ◌∷◌, ◌++◌, append-nil, append_assoc}
use lib.ListN.{length, take, drop, set, length-drop, drop_of_length-le}
use lib.Seq.{take-suc-set, take_all, take-take, take-append-add, length-take-le}
use Rattle.std.specs.Int.{byte_at, bytes_low_first}
use Rattle.text.specs.Clauses.{Put, Before, Behind}
use Rattle.text.specs.Fours.{first_bytes}

-- a text put behind another
pub put_join :
    {first second : List ℕ} {m n : ℕ} {a b c : List ℕ}
    → Put first m a b → Put second n b c → Put (first ++ second) (m + n) a c
put_join x y = record { put = y.put ∙ rw (x.put, append_assoc); room = omega arith }

-- the same text in other words, with more room to spare
pub put_same :
    {text same : List ℕ} {m n : ℕ} {a b : List ℕ}
    → Put text m a b → text ≡ same → m ≤ n → Put same n a b
put_same {a = a} x is wide = record { put = x.put ∙ ap (a ++◌) is; room = omega arith }

-- a text behind another, on a slice from a place on
pub behind_join :
    {first second : List ℕ} {m n : ℕ} {a b c : List ℕ} {place middle end : ℕ}
    → Behind first m a place b middle → Behind second n b middle c end → Behind (first ++ second) (m + n) a place c end
behind_join x y = record { put = y.put ∙ rw (x.put, append_assoc); order = omega arith; room = omega arith }

-- the same text in other words, with more room to spare
pub behind_same :
    {text same : List ℕ} {m n : ℕ} {a b : List ℕ} {place end : ℕ}
    → Behind text m a place b end → text ≡ same → m ≤ n → Behind same n a place b end
behind_same {a = a} {place = place} x is wide =
    record { put = x.put ∙ ap (take place a ++◌) is; order = x.order; room = omega arith }

-- one byte behind what is there
pub byte_behind : (out : List ℕ) (place value : ℕ) → place < length out → Behind (value ∷ []) 1 out place (set out place value) (place + 1)
byte_behind out place value within =
    let next : place + 1 ≡ suc place = omega arith in
    record { put = rw (next, take-suc-set out place value within); order = omega arith; room = omega arith }

-- the first bytes of what was put
pub shorter :
    {text : List ℕ} {m : ℕ} {a b : List ℕ} {place end : ℕ}
    → Behind text m a place b end → place ≤ length a → (n : ℕ) → place + n ≤ end → Behind (take n text) n a place b (place + n)
shorter {text = text} {a = a} {b = b} {place = place} {end = end} x within n fewer =
    let front : length (take place a) ≡ place = length-take-le place a within in
    let first : take (place + n) (take place a ++ text) ≡ take place a ++ take n text =
    ap (λ (k : ℕ). take (k + n) (take place a ++ text)) (sym front) ∙ take-append-add (take place a) text n
    in
    record { put = sym (take-take (place + n) end b fewer) ∙ ap (take (place + n)) x.put ∙ first; order = omega arith; room = omega arith }

-- ---- A word's bytes: those that std gives, the lowest first, are the word's first ones.

later_bytes : (i count word : ℕ) → bytes_low_first i count word ≡ first_bytes count (word / 256 ^ i)
unfolding first_bytes
later_bytes i zero word = refl
later_bytes i (suc count) word =
    let next : word / 256 ^ suc i ≡ word / 256 ^ i / 256 = sym (div-div-eq-div-mul word (256 ^ i) 256 ∙ ap (word /◌) (sym (pow-suc 256 i))) in
    rw (byte_is i word, later_bytes (suc i) count word, next)
  where
    byte_is : (i word : ℕ) → byte_at i word ≡ word / 256 ^ i % 256
    byte_is zero word = let whole : word / 1 ≡ word = omega arith in rw whole
    byte_is (suc i) word = refl

pub low_first : (word : ℕ) → bytes_low_first 0 8 word ≡ first_bytes 8 word
low_first word = let whole : word / 1 ≡ word = omega arith in later_bytes 0 8 word ∙ ap (first_bytes 8) whole

-- ---- A text that is put together from its end on.

-- the part of a buffer from a place on, to be copied
module _ (text : List ℕ) (start size : ℕ) (all : length text ≤ size) where
  pub rest : take (size - start) (drop start text) ≡ drop start text
  rest = take_all (size - start) (drop start text) (omega (arith, length-drop start text))

  pub rest_short : length (take (size - start) (drop start text)) ≤ size
  rest_short = omega (arith, length-drop start text, ap length rest)

-- nothing stands from a buffer's end on
pub from_end :
    {text : List ℕ} {most : ℕ} {before : List ℕ} {end : ℕ} {after : List ℕ} {start : ℕ}
    → Before text most before end after start → length before ≤ end → drop start after ≡ text
from_end {text = text} {before = before} x all = x.put ∙ rw (drop_of_length-le before all, append-nil text)
