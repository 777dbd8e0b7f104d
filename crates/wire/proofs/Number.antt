-- What a number's bytes do, over every width: read back, left alone, within range, and the same in a part of the bytes.
-- Assumes nothing.
use Prim.Native.Nat.{ℕ, zero, suc, ◌+◌, ◌*◌, ◌/◌, ◌%◌, ◌^◌, ◌≤◌, ◌<◌}
use native.Mathlib.Omega.{arith}
use native.Mathlib.Nat.{pow-suc, add_assoc, add-zero}
use native.Mathlib.Numerals.{add-one}
use native.Mathlib.Decide.{ℕ_discrete, dec_lt}
use mathlib.Core.Path.{◌≡◌, refl, sym, ap, ◌∙◌}
use mathlib.Core.Logic.{◌⊎◌, inl, inr, ⊎_elim}
use mathlib.Core.List.{List, [], ◌∷◌, ◌++◌}
use lib.ListN.{length, get_or, set, take, drop, length-set, get_or-append}
use lib.Seq.{get_or-set_same, get_or-set_other, set_out, get_or-take, get_or-drop, sets}
use Rattle.wire.specs.Number.{get_le, put_le, bytes_of, Bytes}

-- A number put leaves the bytes as many as they were.
pub length_put : (k : ℕ) (b : List ℕ) (p v : ℕ) → length (put_le k b p v) ≡ length b
unfolding put_le
length_put zero b p v = refl
length_put (suc k) b p v = length_put k (set b p (v % 256)) (p + 1) (v / 256) ∙ length-set b p (v % 256)

-- A number put leaves each byte before it and each byte after it.
pub byte_other : (k : ℕ) (b : List ℕ) (p v i : ℕ) → (i < p) ⊎ (p + k ≤ i) → get_or (put_le k b p v) i 0 ≡ get_or b i 0
unfolding put_le
byte_other zero b p v i h = refl
byte_other (suc k) b p v i h =
    byte_other k (set b p (v % 256)) (p + 1) (v / 256) i (⊎_elim (λ l. inl (omega arith)) (λ r. inr (omega arith)) h)
    ∙ get_or-set_other b p i (v % 256) 0 (λ e. ⊎_elim (λ l. omega arith) (λ r. omega arith) h)

-- A number put is read back, where it stands whole within the bytes and its width holds it.
pub read_back : (k : ℕ) (b : List ℕ) (p v : ℕ) → p + k ≤ length b → v < 256 ^ k → get_le k (put_le k b p v) p ≡ v
unfolding get_le put_le
read_back zero b p v fits small = omega arith
read_back (suc k) b p v fits small =
    let b' = set b p (v % 256) in
    let first : get_or (put_le k b' (p + 1) (v / 256)) p 0 ≡ v % 256 =
    byte_other k b' (p + 1) (v / 256) p (inl (omega arith)) ∙ get_or-set_same b p (v % 256) 0 (omega arith)
    in
    let rest : get_le k (put_le k b' (p + 1) (v / 256)) (p + 1) ≡ v / 256 =
    read_back k b' (p + 1) (v / 256) (omega (arith, length-set b p (v % 256))) (omega (arith, pow-suc 256 k))
    in
    omega arith

-- A number depends on its own bytes only.
pub get_same : (w : ℕ) (b b' : List ℕ) (q : ℕ) → ((i : ℕ) → q ≤ i → i < q + w → get_or b i 0 ≡ get_or b' i 0) → get_le w b q ≡ get_le w b' q
unfolding get_le
get_same zero b b' q same = refl
get_same (suc w) b b' q same =
    let rest : get_le w b (q + 1) ≡ get_le w b' (q + 1) = get_same w b b' (q + 1) (λ i from to. same i (omega arith) (omega arith)) in
    omega (arith, same q (omega arith) (omega arith))

-- A number put leaves each number that stands wholly before it or after it.
pub read_other : (k : ℕ) (b : List ℕ) (p v w q : ℕ) → (q + w ≤ p) ⊎ (p + k ≤ q) → get_le w (put_le k b p v) q ≡ get_le w b q
read_other k b p v w q h =
    get_same w (put_le k b p v) b q
    (λ i from to. byte_other k b p v i (⊎_elim (λ l. inl (omega arith)) (λ r. inr (omega arith)) h))

-- nothing stands past the end of a byte string
past : (l : List ℕ) (i : ℕ) → length l ≤ i → get_or l i 0 ≡ 0
past [] i h = refl
past (x ∷ xs) zero h = absurd (omega arith)
past (x ∷ xs) (suc i) h = past xs i (omega arith)

-- What a number put reads back as goes by the byte string's length alone.
pub put_reads : (k : ℕ) (b b' : List ℕ) (p v : ℕ) → length b' ≡ length b → get_le k (put_le k b' p v) p ≡ get_le k (put_le k b p v) p
unfolding get_le put_le
put_reads zero b b' p v same = refl
put_reads (suc k) b b' p v same =
    let x = v % 256 in
    let first : (l : List ℕ) → length l ≡ length b → get_or (put_le k (set l p x) (p + 1) (v / 256)) p 0 ≡ get_or (set b p x) p 0 =
    λ l is. byte_other k (set l p x) (p + 1) (v / 256) p (inl (omega arith)) ∙ stored l is
    in
    let rest : get_le k (put_le k (set b' p x) (p + 1) (v / 256)) (p + 1) ≡ get_le k (put_le k (set b p x) (p + 1) (v / 256)) (p + 1) =
    put_reads k (set b p x) (set b' p x) (p + 1) (v / 256) (length-set b' p x ∙ same ∙ sym (length-set b p x))
    in
    omega (arith, first b' same, first b refl, rest)
  where
    stored : (l : List ℕ) → length l ≡ length b → get_or (set l p (v % 256)) p 0 ≡ get_or (set b p (v % 256)) p 0
    stored l is =
        elim (dec_lt p (length b)) [
          | yes within ↦ get_or-set_same l p (v % 256) 0 (omega arith) ∙ sym (get_or-set_same b p (v % 256) 0 within)
          | no out ↦
              past (set l p (v % 256)) p (omega (arith, length-set l p (v % 256)))
              ∙ sym (past (set b p (v % 256)) p (omega (arith, length-set b p (v % 256))))
        ]

-- a byte stored among bytes leaves them bytes
bytes_set : (b : List ℕ) (p x : ℕ) → x < 256 → Bytes b → Bytes (set b p x)
bytes_set b p x small bytes i =
    elim (ℕ_discrete i p) [
      | yes e ↦
          elim (dec_lt p (length b)) [
            | yes within ↦ rw e (omega (arith, get_or-set_same b p x 0 within))
            | no past ↦ rw (set_out b p x (omega arith)) (bytes i)
          ]
      | no ne ↦ omega (arith, get_or-set_other b p i x 0 ne, bytes i)
    ]

-- A number put leaves bytes bytes.
pub bytes_stay : (k : ℕ) (b : List ℕ) (p v : ℕ) → Bytes b → Bytes (put_le k b p v)
unfolding put_le
bytes_stay zero b p v bytes = bytes
bytes_stay (suc k) b p v bytes = bytes_stay k (set b p (v % 256)) (p + 1) (v / 256) (bytes_set b p (v % 256) (omega arith) bytes)

-- A number read is one that its width holds.
pub get_range : (k : ℕ) (b : List ℕ) (p : ℕ) → Bytes b → get_le k b p < 256 ^ k
unfolding get_le
get_range zero b p bytes = omega arith
get_range (suc k) b p bytes = omega (arith, bytes p, get_range k b (p + 1) bytes, pow-suc 256 k)

-- A number read after the first n bytes are dropped is the one n places further on.
pub get_drop : (k n : ℕ) (b : List ℕ) (p : ℕ) → get_le k (drop n b) p ≡ get_le k b (n + p)
unfolding get_le
get_drop zero n b p = refl
get_drop (suc k) n b p =
    let rest : get_le k (drop n b) (p + 1) ≡ get_le k b (n + p + 1) = get_drop k n b (p + 1) ∙ ap (get_le k b) (sym (add_assoc n p 1)) in
    omega (arith, get_or-drop n b p 0)

-- A number that stands wholly within the first n bytes is read from those alone.
pub get_take : (k n : ℕ) (b : List ℕ) (p : ℕ) → p + k ≤ n → get_le k (take n b) p ≡ get_le k b p
get_take k n b p h = get_same k (take n b) b p (λ i from to. get_or-take n b i 0 (omega arith))

-- A number that stands wholly within the first of two byte strings is read from that one alone.
pub get_front : (k : ℕ) (xs ys : List ℕ) (p : ℕ) → p + k ≤ length xs → get_le k (xs ++ ys) p ≡ get_le k xs p
get_front k xs ys p fits = get_same k (xs ++ ys) xs p (λ i from to. get_or-append xs ys 0 i (omega arith))

-- A number has as many bytes as its width says.
pub length_bytes : (k v : ℕ) → length (bytes_of k v) ≡ k
unfolding bytes_of
length_bytes zero v = refl
length_bytes (suc k) v = ap suc (length_bytes k (v / 256))

-- To put a number is to store its bytes one after another.
pub put_sets : (k : ℕ) (b : List ℕ) (p v : ℕ) → put_le k b p v ≡ sets b p (bytes_of k v)
unfolding put_le bytes_of
put_sets zero b p v = refl
put_sets (suc k) b p v =
    put_sets k (set b p (v % 256)) (p + 1) (v / 256)
    ∙ ap (λ (q : ℕ). sets (set b p (v % 256)) q (bytes_of k (v / 256))) (add-one p)

-- What is stored right after a run of stores makes one run with it.
pub sets_more : (l : List ℕ) (i : ℕ) (vs ws : List ℕ) → sets (sets l i vs) (i + length vs) ws ≡ sets l i (vs ++ ws)
sets_more l i [] ws = ap (λ (q : ℕ). sets l q ws) (add-zero i)
sets_more l i (v ∷ vs) ws =
    ap (λ (q : ℕ). sets (sets (set l i v) (suc i) vs) q ws) (omega arith) ∙ sets_more (set l i v) (suc i) vs ws

-- A number put right after a run of stores makes one run with it.
pub sets_put : (k : ℕ) (l : List ℕ) (i v : ℕ) (vs : List ℕ) → put_le k (sets l i vs) (i + length vs) v ≡ sets l i (vs ++ bytes_of k v)
sets_put k l i v vs = put_sets k (sets l i vs) (i + length vs) v ∙ sets_more l i vs (bytes_of k v)

-- Eight bytes are two numbers of four.
pub point_word : (b : List ℕ) (q : ℕ) → get_le 8 b q ≡ get_le 4 b q + 2 ^ 32 * get_le 4 b (q + 4)
unfolding get_le
point_word b q = simp add_assoc (omega arith)
