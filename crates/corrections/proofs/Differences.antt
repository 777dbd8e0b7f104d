-- The differences: a number of eight bytes put as two of four, and the payers' differences one behind another.
-- Assumes nothing.
use Prim.Native.Nat.{ℕ, zero, suc, ◌+◌, ◌-◌, ◌*◌, ◌/◌, ◌%◌, ◌^◌, ◌≤◌, ◌<◌}
use native.Mathlib.Omega.{arith}
use mathlib.Core.Path.{◌≡◌, refl, sym, ap, ◌∙◌}
use native.Mathlib.Nat.{zero-add, add-zero, le_antisymm}
use native.Mathlib.Numerals.{add-one}
use mathlib.Core.List.{List, ◌++◌, append-nil, append_assoc}
use lib.ListN.{length, get_or, drop, set, length-append}
use lib.Seq.{sets, length-sets, sets-eq}
use Rattle.wire.specs.Number.{get_le, put_le, bytes_of}
use Rattle.wire.proofs.Number.{length_bytes, sets_put}
use Rattle.statement.proofs.Records.{get_first, get_next}
use Rattle.settle.specs.Runs.{Settlement}
use Rattle.corrections.specs.Corrections.{payers, paid_by, less, differences_size, differences_from, differences_of}
use Rattle.corrections.specs.Clauses.{most_paid}

-- ---- A number of eight bytes.

-- four bytes put
abbrev four : List ℕ → ℕ → ℕ → ℕ → ℕ → ℕ → List ℕ
four b p v₀ v₁ v₂ v₃ = set (set (set (set b p v₀) (p + 1) v₁) (p + 1 + 1) v₂) (p + 1 + 1 + 1) v₃

four_is : (b : List ℕ) (p v : ℕ) → put_le 4 b p v ≡ four b p (v % 256) (v / 256 % 256) (v / 256 / 256 % 256) (v / 256 / 256 / 256 % 256)
unfolding put_le
four_is b p v = refl

eight_is : (b : List ℕ) (p v : ℕ) → put_le 8 b p v ≡ put_le 4 (put_le 4 b p v) (p + 1 + 1 + 1 + 1) (v / 256 / 256 / 256 / 256)
unfolding put_le
eight_is b p v = refl

last_byte : (w v q : ℕ) → v ≡ 256 * q + w → w % 256 ≡ v % 256
last_byte w v q e = omega arith

-- its lower four bytes are those of what is left of it by 2^32
low_bytes : (b : List ℕ) (p v : ℕ) → put_le 4 b p (v % 2 ^ 32) ≡ put_le 4 b p v
low_bytes b p v =
    let w = v % 2 ^ 32 in
    let q = v / 2 ^ 32 in
    let b₀ : w % 256 ≡ v % 256 = omega arith in
    let e₁ : v / 256 ≡ 2 ^ 24 * q + w / 256 = omega arith in
    let e₂ : v / 256 / 256 ≡ 2 ^ 16 * q + w / 256 / 256 = omega (arith, e₁) in
    let e₃ : v / 256 / 256 / 256 ≡ 2 ^ 8 * q + w / 256 / 256 / 256 = omega (arith, e₂) in
    let b₁ : w / 256 % 256 ≡ v / 256 % 256 = last_byte _ _ (2 ^ 16 * q) (omega (arith, e₁)) in
    let b₂ : w / 256 / 256 % 256 ≡ v / 256 / 256 % 256 = last_byte _ _ (2 ^ 8 * q) (omega (arith, e₂)) in
    let b₃ : w / 256 / 256 / 256 % 256 ≡ v / 256 / 256 / 256 % 256 = last_byte _ _ q (omega (arith, e₃)) in
    four_is b p w ∙ rw (b₀, b₁, b₂, b₃) (sym (four_is b p v))

-- Eight bytes are put as two numbers of four.
pub put_two :
    (b : List ℕ) {b' b'' : List ℕ} (p v : ℕ) → b' ≡ put_le 4 b p (v % 2 ^ 32) → b'' ≡ put_le 4 b' (p + 4) (v / 2 ^ 32) → b'' ≡ put_le 8 b p v
put_two b {b'} {b''} p v low high =
    let place : p + 4 ≡ p + 1 + 1 + 1 + 1 = omega arith in
    let rest : v / 2 ^ 32 ≡ v / 256 / 256 / 256 / 256 = omega arith in
    high ∙ rw (place, rest, low, low_bytes b p v) (sym (eight_is b p v))

-- ---- The differences of some payers.

module _ (old new : ℕ → ℕ) where
  pub length_differences : (n payer : ℕ) → length (differences_from n payer old new) ≡ 8 * n
  unfolding differences_from
  length_differences zero payer = refl
  length_differences (suc n) payer =
      let v = less (new payer) (old payer) in
      omega (arith, length-append (bytes_of 8 v) (differences_from n (payer + 1) old new), length_bytes 8 v, length_differences n (payer + 1))

  -- one payer more stands behind
  differences_snoc :
      (n payer : ℕ)
      → differences_from (suc n) payer old new ≡ differences_from n payer old new ++ bytes_of 8 (less (new (payer + n)) (old (payer + n)))
  unfolding differences_from
  differences_snoc zero payer =
      append-nil (bytes_of 8 (less (new payer) (old payer))) ∙ ap (λ (p : ℕ). bytes_of 8 (less (new p) (old p))) (sym (add-zero payer))
  differences_snoc (suc n) payer =
      let here = bytes_of 8 (less (new payer) (old payer)) in
      let later = differences_from n (payer + 1) old new in
      let place : payer + 1 + n ≡ payer + suc n = omega arith in
      ap (here ++◌) (differences_snoc n (payer + 1) ∙ ap (λ (p : ℕ). later ++ bytes_of 8 (less (new p) (old p))) place)
      ∙ sym (append_assoc here later (bytes_of 8 (less (new (payer + suc n)) (old (payer + suc n)))))

  -- What is read at a payer's place is the payer's.
  pub difference_at :
      (n payer k : ℕ) → k < n → get_le 8 (differences_from n payer old new) (8 * k) ≡ less (new (payer + k)) (old (payer + k))
  unfolding differences_from
  difference_at zero payer k there = absurd (omega arith)
  difference_at (suc n) payer zero there =
      let v = less (new payer) (old payer) in
      get_first 8 v (differences_from n (payer + 1) old new) (omega arith)
      ∙ ap (λ (p : ℕ). less (new p) (old p)) (sym (add-zero payer))
  difference_at (suc n) payer (suc k) there =
      let v = less (new payer) (old payer) in
      let later = differences_from n (payer + 1) old new in
      let place : 8 * suc k ≡ 8 + 8 * k = omega arith in
      let next : payer + 1 + k ≡ payer + suc k = omega arith in
      ap (get_le 8 (bytes_of 8 v ++ later)) place ∙ get_next 8 8 v later (8 * k) ∙ difference_at n (payer + 1) k (omega arith)
      ∙ ap (λ (p : ℕ). less (new p) (old p)) next

-- ---- Putting them, by lists of sums.

-- those of the first payers are put
pub record Put (old new differences₀ : List ℕ) (payer : ℕ) (differences : List ℕ) : Type 0 where
  pub few : payer ≤ payers
  pub is : differences ≡ sets differences₀ 0 (differences_from payer 0 (λ p. get_or old p 0) (λ p. get_or new p 0))

pub put_none : (old new differences₀ : List ℕ) → Put old new differences₀ 0 differences₀
unfolding differences_from
put_none old new differences₀ = record { few = omega arith; is = refl }

module _ {old new differences₀ differences : List ℕ} {payer : ℕ} (so_far : Put old new differences₀ payer differences) where
  abbrev olds : ℕ → ℕ
  olds p = get_or old p 0

  abbrev news : ℕ → ℕ
  news p = get_or new p 0

  pub put_long : length differences ≡ length differences₀
  put_long = ap length so_far.is ∙ length-sets differences₀ 0 (differences_from payer 0 olds news)

  -- One turn: the next payer's is put.
  pub put_more :
      {v : ℕ} {differences' : List ℕ} → payer < payers → v ≡ less (news payer) (olds payer) → differences' ≡ put_le 8 differences (8 * payer) v
      → Put old new differences₀ (payer + 1) differences'
  put_more {v} {differences'} more value put =
      let done = differences_from payer 0 olds news in
      let place : 8 * payer ≡ 0 + length done = omega (arith, length_differences olds news payer 0) in
      let next : differences_from (payer + 1) 0 olds news ≡ done ++ bytes_of 8 v =
      ap (λ (n : ℕ). differences_from n 0 olds news) (add-one payer) ∙ differences_snoc olds news payer 0
      ∙ ap (λ (p : ℕ). done ++ bytes_of 8 (less (news p) (olds p))) (zero-add payer) ∙ ap (λ (d : ℕ). done ++ bytes_of 8 d) (sym value)
      in
      record {
        few = omega arith;
        is =
            put ∙ ap (λ (b : List ℕ). put_le 8 b (8 * payer) v) so_far.is ∙ ap (λ (p : ℕ). put_le 8 (sets differences₀ 0 done) p v) place
            ∙ sets_put 8 differences₀ 0 v done
            ∙ ap (sets differences₀ 0) (sym next);
      }

  -- After the last turn they are all put, and what is behind them stays.
  pub put_all :
      differences_size ≤ length differences₀ → payers ≤ payer
      → differences ≡ differences_from payers 0 olds news ++ drop differences_size differences₀
  put_all fits over =
      let all = differences_from payers 0 olds news in
      let long : length all ≡ differences_size = length_differences olds news payers 0 in
      let last : payer ≡ payers = le_antisymm so_far.few over in
      let behind : 0 + length all ≡ differences_size = omega (arith, long) in
      so_far.is ∙ ap (λ (n : ℕ). sets differences₀ 0 (differences_from n 0 olds news)) last
      ∙ sets-eq all differences₀ 0 (omega (arith, long))
      ∙ ap (λ (n : ℕ). all ++ drop n differences₀) behind

-- ---- What they say.

-- They go by the payers' sums alone.
alike_from :
    (n payer : ℕ) (old old' new new' : ℕ → ℕ) → ((p : ℕ) → p < payer + n → old p ≡ old' p) → ((p : ℕ) → p < payer + n → new p ≡ new' p)
    → differences_from n payer old new ≡ differences_from n payer old' new'
unfolding differences_from
alike_from zero payer old old' new new' same_old same_new = refl
alike_from (suc n) payer old old' new new' same_old same_new =
    rw (
      same_old payer (omega arith),
      same_new payer (omega arith),
      alike_from n (payer + 1) old old' new new' (λ p h. same_old p (omega arith)) (λ p h. same_new p (omega arith)),
    )

pub differences_alike :
    (old old' new new' : ℕ → ℕ) → ((p : ℕ) → p < payers → old p ≡ old' p) → ((p : ℕ) → p < payers → new p ≡ new' p)
    → differences_from payers 0 old new ≡ differences_from payers 0 old' new'
differences_alike old old' new new' same_old same_new = alike_from payers 0 old old' new new' same_old same_new

-- d is what a sum changed by: added to the old one it is the new one; and where nothing is less than it was, it is a number below 2^63, else 2^64
-- less what is less
pub record Changed (old new d : ℕ) : Type 0 where
  pub adds : (old + d) % 2 ^ 64 ≡ new
  pub more : old ≤ new → (old + d ≡ new) × (d < 2 ^ 63)
  pub fewer : new < old → (new + (2 ^ 64 - d) ≡ old) × (2 ^ 63 ≤ d)

pub less_changed : (old new : ℕ) → old ≤ most_paid → new ≤ most_paid → Changed old new (less new old)
less_changed old new small-old small-new =
    record { adds = omega arith; more = λ up. (omega arith, omega arith); fewer = λ down. (omega arith, omega arith) }

-- The eight bytes of each payer say by how much the sum over the records' own bytes changed.
pub difference_right :
    (old new : List Settlement) (payer : ℕ) → payer < payers → paid_by payer old ≤ most_paid → paid_by payer new ≤ most_paid
    → Changed (paid_by payer old) (paid_by payer new) (get_le 8 (differences_of old new) (8 * payer))
difference_right old new payer there small-old small-new =
    let is : get_le 8 (differences_of old new) (8 * payer) ≡ less (paid_by payer new) (paid_by payer old) =
    difference_at (λ p. paid_by p old) (λ p. paid_by p new) payers 0 payer there
    ∙ ap (λ (p : ℕ). less (paid_by p new) (paid_by p old)) (zero-add payer)
    in
    rw is (less_changed (paid_by payer old) (paid_by payer new) small-old small-new)
