-- A byte string taken apart into the numbers that are read off it: each is the bytes that stand there.
-- Assumes nothing.
use Prim.Native.Nat.{ℕ, zero, suc, ◌+◌, ◌*◌, ◌/◌, ◌%◌, ◌≤◌, ◌<◌, min}
use native.Mathlib.Nat.{add-zero, not-suc-le-zero}
use native.Mathlib.Numerals.{add-one}
use native.Mathlib.Omega.{arith}
use mathlib.Core.Path.{◌≡◌, refl, sym, ap, subst, ◌∙◌}
use mathlib.Core.List.{List, [], ◌∷◌, ◌++◌, append_assoc}
use lib.ListN.{length, get_or, drop}
use lib.Seq.{drop-cons}
use Rattle.wire.specs.Number.{get_le, bytes_of, Bytes}
use Rattle.caps.specs.declared.Cut.{Cut}
use Rattle.statement.specs.Record.{cut_bytes, person_bytes, charge_bytes}
use Rattle.reader.specs.Reading.{listed}

-- a cut's three fields are read from a place on
pub record CutReads (s : List ℕ) (q : ℕ) (cut : Cut) : Type 0 where
  pub reduction : get_le 4 s q ≡ cut.reduction.0
  pub area : get_le 1 s (q + 4) ≡ cut.area
  pub class : get_le 1 s (q + 5) ≡ cut.class

module _ (s : List ℕ) (bytes : Bytes s) where
  -- the number read at a place, as its bytes, and what stands behind them
  first : (w q : ℕ) → q + w ≤ length s → drop q s ≡ bytes_of w (get_le w s q) ++ drop (q + w) s
  unfolding get_le bytes_of
  first zero q fits = ap (λ (k : ℕ). drop k s) (sym (add-zero q))
  first (suc w) q fits =
      let byte = get_or s q 0 in
      let rest = get_le w s (q + 1) in
      let low : (byte + 256 * rest) % 256 ≡ byte = omega (arith, bytes q) in
      let high : (byte + 256 * rest) / 256 ≡ rest = omega (arith, bytes q) in
      let to : q + 1 + w ≡ q + suc w = omega arith in
      drop-cons s q 0 (omega arith)
      ∙ rw (low, high)
      (ap (byte ∷◌)
      (ap (λ (k : ℕ). drop k s) (sym (add-one q)) ∙ first w (q + 1) (omega arith) ∙ ap (λ (k : ℕ). bytes_of w rest ++ drop k s) to))

  -- The number that is known to be read at a place, and what stands from the next place on.
  pub peeled : (w q next v : ℕ) → get_le w s q ≡ v → next ≡ q + w → next ≤ length s → drop q s ≡ bytes_of w v ++ drop next s
  peeled w q next v is to fits = first w q (omega arith) ∙ rw (is, to)

  -- A cut, and what stands behind it.
  cut_peeled : (q next : ℕ) (cut : Cut) → CutReads s q cut → next ≡ q + 6 → next ≤ length s → drop q s ≡ cut_bytes cut ++ drop next s
  unfolding cut_bytes
  cut_peeled q next cut reads to fits =
      peeled 4 q (q + 4) cut.reduction.0 reads.reduction refl (omega arith)
      ∙ ap (bytes_of 4 cut.reduction.0 ++◌)
      (peeled 1 (q + 4) (q + 5) cut.area reads.area (omega arith) (omega arith)
      ∙ ap (bytes_of 1 cut.area ++◌) (peeled 1 (q + 5) next cut.class reads.class (omega arith) fits)
      ∙ sym (append_assoc (bytes_of 1 cut.area) (bytes_of 1 cut.class) (drop next s)))
      ∙ sym (append_assoc (bytes_of 4 cut.reduction.0) (bytes_of 1 cut.area ++ bytes_of 1 cut.class) (drop next s))

  -- Charges one after another, the first m of them with a cut.
  pub charges_peeled :
      (n m q next : ℕ) (f : ℕ → ℕ) (g : ℕ → Cut) → m ≤ n → ((i : ℕ) → get_le 4 s (q + 4 * i + 6 * min i m) ≡ f i)
      → ((i : ℕ) → i < m → CutReads s (q + 10 * i + 4) (g i)) → next ≡ q + 4 * n + 6 * m → next ≤ length s
      → drop q s ≡ charge_bytes (listed n f) (listed m g) ++ drop next s
  unfolding charge_bytes person_bytes listed
  charges_peeled zero zero q next f g few charge cut to fits = let same : q ≡ next = omega arith in ap (λ (k : ℕ). drop k s) same
  charges_peeled zero (suc m) q next f g few charge cut to fits = absurd (not-suc-le-zero few)
  charges_peeled (suc n) zero q next f g few charge cut to fits =
      let f' : ℕ → ℕ = λ (i : ℕ). f (suc i) in
      let place : (i : ℕ) → q + 4 + 4 * i + 6 * min i 0 ≡ q + 4 * suc i + 6 * min (suc i) 0 = λ i. omega arith in
      let here : q ≡ q + 4 * 0 + 6 * min 0 0 = omega arith in
      peeled 4 q (q + 4) (f 0) (ap (get_le 4 s) here ∙ charge 0) refl (omega arith)
      ∙ ap (bytes_of 4 (f 0) ++◌)
      (charges_peeled n zero (q + 4) next f' g (omega arith) (λ i. ap (get_le 4 s) (place i) ∙ charge (suc i)) (λ i h. absurd (not-suc-le-zero h))
      (omega arith) fits)
      ∙ sym (append_assoc (bytes_of 4 (f 0)) (charge_bytes (listed n f') []) (drop next s))
  charges_peeled (suc n) (suc m) q next f g few charge cut to fits =
      let f' : ℕ → ℕ = λ (i : ℕ). f (suc i) in
      let g' : ℕ → Cut = λ (i : ℕ). g (suc i) in
      let more = charge_bytes (listed n f') (listed m g') in
      let place : (i : ℕ) → q + 10 + 4 * i + 6 * min i m ≡ q + 4 * suc i + 6 * min (suc i) (suc m) = λ i. omega arith in
      let here : q ≡ q + 4 * 0 + 6 * min 0 (suc m) = omega arith in
      let cut-here : q + 10 * 0 + 4 ≡ q + 4 = omega arith in
      let cut-place : (i : ℕ) → q + 10 * suc i + 4 ≡ q + 10 + 10 * i + 4 = λ i. omega arith in
      peeled 4 q (q + 4) (f 0) (ap (get_le 4 s) here ∙ charge 0) refl (omega arith)
      ∙ ap (bytes_of 4 (f 0) ++◌)
      (cut_peeled (q + 4) (q + 10) (g 0) (subst (λ (k : ℕ). CutReads s k (g 0)) cut-here (cut 0 (omega arith))) (omega arith) (omega arith)
      ∙ ap (cut_bytes (g 0) ++◌)
      (charges_peeled n m (q + 10) next f' g' (omega arith) (λ i. ap (get_le 4 s) (place i) ∙ charge (suc i))
      (λ i h. subst (λ (k : ℕ). CutReads s k (g (suc i))) (cut-place i) (cut (suc i) (omega arith))) (omega arith) fits))
      ∙ sym (append_assoc (bytes_of 4 (f 0)) (cut_bytes (g 0)) (more ++ drop next s))
      ∙ sym (append_assoc (bytes_of 4 (f 0) ++ cut_bytes (g 0)) more (drop next s))
