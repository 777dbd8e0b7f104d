-- What replacing some bytes of a page does: as many bytes, the new ones where they were put, and every other as it was.
-- Assumes nothing.
use Prim.Native.Nat.{ℕ, ◌+◌, ◌-◌, ◌≤◌, ◌<◌}
use native.Mathlib.Omega.{arith}
use mathlib.Core.Path.{◌≡◌, sym, ap, ◌∙◌}
use mathlib.Core.Logic.{◌⊎◌, inl, inr, ⊎_elim}
use mathlib.Core.List.{List, ◌++◌}
use lib.ListN.{length, get_or, take, drop, length-append, length-take, length-drop, get_or-append, take-append-drop}
use lib.Seq.{get_or-take, get_or-drop, get_or-append-add, take_at, drop_at, length-take-le, ext_get_or}
use Rattle.wire.specs.Number.{get_le}
use Rattle.wire.proofs.Number.{get_same, get_take, get_drop}
use Rattle.page.specs.Pages.{replaced}

-- Two byte strings that are the same byte for byte in a part have the same part.
pub part_alike :
    (a b : List ℕ) (n m : ℕ) → length a ≡ length b → ((i : ℕ) → m ≤ i → i < m + n → get_or a i 0 ≡ get_or b i 0)
    → take n (drop m a) ≡ take n (drop m b)
part_alike a b n m long same = ext_get_or 0 (take n (drop m a)) (take n (drop m b)) lengths at
  where
    lengths : length (take n (drop m a)) ≡ length (take n (drop m b))
    lengths =
        omega (arith, long, length-take n (drop m a), length-take n (drop m b), length-drop m a, length-drop m b)

    at : (i : ℕ) → i < length (take n (drop m a)) → get_or (take n (drop m a)) i 0 ≡ get_or (take n (drop m b)) i 0
    at i h =
        let few : i < n = omega (arith, h, length-take n (drop m a)) in
        get_or-take n (drop m a) i 0 few ∙ get_or-drop m a i 0 ∙ same (m + i) (omega arith) (omega arith)
        ∙ sym (get_or-drop m b i 0) ∙ sym (get_or-take n (drop m b) i 0 few)

module _ (page : List ℕ) (start size : ℕ) (bytes : List ℕ) (fits : start + size ≤ length page) (long : length bytes ≡ size) where
  abbrev new : List ℕ
  new = replaced page start size bytes

  abbrev tail : List ℕ
  tail = drop size (drop start page)

  before : length (take start page) ≡ start
  before = length-take-le start page (omega arith)

  pub length_replaced : length new ≡ length page
  length_replaced =
      omega (
        arith,
        before,
        length-append (take start page) (bytes ++ tail),
        length-append bytes tail,
        length-drop size (drop start page),
        length-drop start page,
      )

  -- the new bytes stand there
  pub part_there : take size (drop start new) ≡ bytes
  part_there = ap (take size) (drop_at (take start page) (bytes ++ tail) start before) ∙ take_at bytes tail size long

  pub byte_there : (i : ℕ) → i < size → get_or new (start + i) 0 ≡ get_or bytes i 0
  byte_there i h =
      ap (λ (n : ℕ). get_or new (n + i) 0) (sym before) ∙ get_or-append-add (take start page) (bytes ++ tail) i 0
      ∙ get_or-append bytes tail 0 i (omega (arith, long))

  pub number_there : (w q : ℕ) → q + w ≤ size → get_le w new (start + q) ≡ get_le w (take size (drop start new)) q
  number_there w q h = sym (get_take w size (drop start new) q h ∙ get_drop w start new q)

  -- every other byte is as it was
  byte_behind : (i : ℕ) → get_or new (start + (size + i)) 0 ≡ get_or page (start + (size + i)) 0
  byte_behind i =
      ap (λ (n : ℕ). get_or new (n + (size + i)) 0) (sym before) ∙ get_or-append-add (take start page) (bytes ++ tail) (size + i) 0
      ∙ ap (λ (n : ℕ). get_or (bytes ++ tail) (n + i) 0) (sym long) ∙ get_or-append-add bytes tail i 0
      ∙ get_or-drop size (drop start page) i 0 ∙ get_or-drop start page (size + i) 0

  pub byte_other : (i : ℕ) → (i < start) ⊎ (start + size ≤ i) → get_or new i 0 ≡ get_or page i 0
  byte_other i h =
      ⊎_elim
      (λ less. get_or-append (take start page) (bytes ++ tail) 0 i (omega (arith, before)) ∙ get_or-take start page i 0 less)
      (λ more. behind (i - (start + size)) (omega arith))
      h
    where
      behind : (k : ℕ) → i ≡ start + (size + k) → get_or new i 0 ≡ get_or page i 0
      behind k e = rw e (byte_behind k)

  pub part_other : (n m : ℕ) → (m + n ≤ start) ⊎ (start + size ≤ m) → take n (drop m new) ≡ take n (drop m page)
  part_other n m h =
      part_alike new page n m length_replaced
      (λ i from to. byte_other i (⊎_elim (λ less. inl (omega arith)) (λ more. inr (omega arith)) h))

  pub number_other : (w q : ℕ) → (q + w ≤ start) ⊎ (start + size ≤ q) → get_le w new q ≡ get_le w page q
  number_other w q h =
      get_same w new page q (λ i from to. byte_other i (⊎_elim (λ less. inl (omega arith)) (λ more. inr (omega arith)) h))

-- What is put back as it was leaves the page.
pub put_back : (page : List ℕ) (start size : ℕ) → replaced page start size (take size (drop start page)) ≡ page
put_back page start size = ap (take start page ++◌) (take-append-drop size (drop start page)) ∙ take-append-drop start page

-- the new bytes of a part of the page, lent from where it begins to where it ends
pub part_put :
    (page : List ℕ) (start size long : ℕ) {bytes bytes' : List ℕ} → size ≡ long → bytes' ≡ bytes
    → replaced page start size bytes' ≡ replaced page start long bytes
part_put page start size long e is = rw (e, is)
