-- Tables of refusals, whatever their rows: a row that does not hold is skipped, one that holds decides, and the first to hold is the first
-- by its place. And what the table of settling has: each refusal stands once, with a number from 4 on; and that it ends in a row of its own.
-- Assumes nothing.
use Prim.Native.Nat.{ℕ, ◌≤◌}
use native.Mathlib.Omega.{arith}
use mathlib.Core.Path.{◌≡◌, refl, sym, ap, ◌∙◌}
use mathlib.Core.Logic.{◌↔◌, inl, inr}
use mathlib.Core.Bool.{Bool, true, false, cond, not, ◌&&◌, ◌||◌, false≢true}
use mathlib.Core.List.{List, [], ◌∷◌, ◌++◌}
use borrow.Author.Tests.{eq-eqb, ne_eqb, eqb-true, leb-true, not-true}
use lib.Dec.{eqb, leb}
use lib.ListN.{take}
use Rattle.editions.specs.declared.Editions.{Editions}
use Rattle.wire.proofs.Tests.{both_left, both_right, one_of}
use Rattle.deciding.specs.declared.refusals.Refusal.{Refusal}
use Rattle.deciding.specs.declared.refusals.Refusal.TheVariants.{Mistap, NoEdition, NoRoom}
use Rattle.deciding.specs.Refusals.{
  refusal,
  last_refusal,
  Numbered,
  Row,
  row,
  rows_to,
  rows,
  Verdict,
  nothing,
  found,
  first_of,
  comes_to,
  row_of,
  test_of,
  First,
  here,
  later,
}

-- ---- Any table.

-- a row that does not hold is skipped
pub skip : (r : Row) (rest : List Row) → r.test ≡ false → first_of (r ∷ rest) ≡ first_of rest
unfolding first_of
skip r rest e = rw e

-- one that holds decides
pub stop : (r : Row) (rest : List Row) → r.test ≡ true → first_of (r ∷ rest) ≡ found r.why
unfolding first_of
stop r rest e = rw e

-- past the last row there is none
pub end : first_of [] ≡ nothing
unfolding first_of
end = refl

-- ---- What comes of a verdict.

module _ {A : Type 0} (refused : Refusal → A) (clear : A) where
  pub comes_refused : {v : Verdict} {why : Refusal} → v ≡ found why → comes_to refused clear v ≡ refused why
  unfolding comes_to
  comes_refused e = rw e

  pub comes_clear : {v : Verdict} → v ≡ nothing → comes_to refused clear v ≡ clear
  unfolding comes_to
  comes_clear e = rw e

  -- It tells the verdict, where refusals come to different things, and none to what there is where no row holds.
  pub told_refused :
      (v : Verdict) {why : Refusal} → ((a b : Refusal) → refused a ≡ refused b → a ≡ b) → ((a : Refusal) → clear ≡ refused a → ⊥)
      → comes_to refused clear v ≡ refused why → v ≡ found why
  unfolding comes_to
  told_refused nothing same apart e = absurd (apart _ e)
  told_refused (found other) same apart e = ap found (same other _ e)

  pub told_clear : (v : Verdict) {a : A} → ((why : Refusal) → refused why ≡ a → ⊥) → comes_to refused clear v ≡ a → (v ≡ nothing) × (clear ≡ a)
  unfolding comes_to
  told_clear nothing apart e = (refl, e)
  told_clear (found why) apart e = absurd (apart why e)

-- ---- Rows that hold, and that do not.

-- where none holds, no refusal's row does
pub none-holds : (table : List Row) → first_of table ≡ nothing → (why : Refusal) → test_of why table ≡ false
unfolding first_of test_of
none-holds [] e why = refl
none-holds (r ∷ rest) e why = go r.test (eqb (row_of r.why) (row_of why)) e (λ after. none-holds rest after why)
  where
    go : (t same : Bool) → cond t (found r.why) (first_of rest) ≡ nothing → (first_of rest ≡ nothing → test_of why rest ≡ false)
        → cond same t (test_of why rest) ≡ false
    go true same e' more = absurd (let z : ◌≡◌ {A = ℕ} 0 1 = cc in omega arith)
    go false true e' more = refl
    go false false e' more = more e'

-- whether a refusal stands in the table, looked for by its row or by its number; and that no row stands twice
unfoldable pub has : (Refusal → ℕ) → ℕ → List Row → Bool
has by n [] = false
has by n (r ∷ rest) = cond (eqb (by r.why) n) true (has by n rest)

unfoldable pub distinct : List Row → Bool
distinct [] = true
distinct (r ∷ rest) = not (has row_of (row_of r.why) rest) && distinct rest

-- all numbers are 4 to the last row's, or 17 or 22
unfoldable pub numbered : ℕ → ℕ → Bool
numbered last n = leb n last || (eqb n (refusal Mistap) || eqb n (refusal NoEdition))

numbered_is : (last n : ℕ) → numbered last n ≡ true → Numbered last n
unfolding numbered
numbered_is last n t =
    one_of (leb n last) (eqb n (refusal Mistap) || eqb n (refusal NoEdition)) t (λ low. inl (leb-true n last low))
    (λ high.
    inr
    (one_of (eqb n (refusal Mistap)) (eqb n (refusal NoEdition)) high (λ m. inl (eqb-true n (refusal Mistap) m))
    (λ m. inr (eqb-true n (refusal NoEdition) m))))

unfoldable pub in_range : ℕ → List Row → Bool
in_range last [] = true
in_range last (r ∷ rest) = leb 4 (refusal r.why) && (numbered last (refusal r.why) && in_range last rest)

pub first_range :
    (last : ℕ) (table : List Row) {why : Refusal} → in_range last table ≡ true → first_of table ≡ found why → (4 ≤ refusal why) × Numbered last (refusal why)
unfolding first_of in_range
first_range last [] range e = absurd (let z : ◌≡◌ {A = ℕ} 0 1 = cc in omega arith)
first_range last (r ∷ rest) {why} range e =
    let n = refusal r.why in
    let least = both_left (leb 4 n) (numbered last n && in_range last rest) range in
    let above = both_right (leb 4 n) (numbered last n && in_range last rest) range in
    go r.test e (leb-true 4 n least) (numbered_is last n (both_left (numbered last n) (in_range last rest) above))
    (first_range last rest (both_right (numbered last n) (in_range last rest) above))
  where
    go : (t : Bool) → cond t (found r.why) (first_of rest) ≡ found why → 4 ≤ refusal r.why → Numbered last (refusal r.why)
        → (first_of rest ≡ found why → (4 ≤ refusal why) × Numbered last (refusal why)) → (4 ≤ refusal why) × Numbered last (refusal why)
    go true e' least high after = let same : r.why ≡ why = cc in rw (← same) (least, high)
    go false e' least high after = after e'

-- a refusal that is found stands in the table
pub first_has : (by : Refusal → ℕ) (table : List Row) {why : Refusal} → first_of table ≡ found why → has by (by why) table ≡ true
unfolding first_of has
first_has by [] e = absurd (let z : ◌≡◌ {A = ℕ} 0 1 = cc in omega arith)
first_has by (r ∷ rest) {why} e = go r.test (eqb (by r.why) (by why)) refl e (first_has by rest)
  where
    go : (t same : Bool) → eqb (by r.why) (by why) ≡ same → cond t (found r.why) (first_of rest) ≡ found why
        → (first_of rest ≡ found why → has by (by why) rest ≡ true) → cond same true (has by (by why) rest) ≡ true
    go t true is e' after = refl
    go true false is e' after =
        let same : r.why ≡ why = cc in
        absurd (false≢true (sym is ∙ eq-eqb (by r.why) (by why) (ap by same)))
    go false false is e' after = after e'

-- Rows with others behind them: where one of them holds, it decides, and else those behind them do.
pub earlier_decides : (table more : List Row) {why : Refusal} → first_of table ≡ found why → first_of (table ++ more) ≡ found why
unfolding first_of
earlier_decides [] more e = absurd (let z : ◌≡◌ {A = ℕ} 0 1 = cc in omega arith)
earlier_decides (r ∷ rest) more {why} e = go r.test e (earlier_decides rest more)
  where
    go : (t : Bool) → cond t (found r.why) (first_of rest) ≡ found why → (first_of rest ≡ found why → first_of (rest ++ more) ≡ found why)
        → cond t (found r.why) (first_of (rest ++ more)) ≡ found why
    go true e' after = e'
    go false e' after = after e'

pub later_decides : (table more : List Row) → first_of table ≡ nothing → first_of (table ++ more) ≡ first_of more
unfolding first_of
later_decides [] more e = refl
later_decides (r ∷ rest) more e = go r.test e (later_decides rest more)
  where
    go : (t : Bool) → cond t (found r.why) (first_of rest) ≡ nothing → (first_of rest ≡ nothing → first_of (rest ++ more) ≡ first_of more)
        → cond t (found r.why) (first_of (rest ++ more)) ≡ first_of more
    go true e' after = absurd (let z : ◌≡◌ {A = ℕ} 0 1 = cc in omega arith)
    go false e' after = after e'

-- ---- A table in other words: each refusal's test says that its condition holds.

module _ (holds : Refusal → Type 0) where
  -- the condition of the first to hold does
  pub first_holds : (table : List Row) {why : Refusal} → First holds why table → holds why
  first_holds [] x = elim x [ ]
  first_holds (r ∷ rest) (here same h) = h
  first_holds (r ∷ rest) (later not-here after) = first_holds rest after

  -- row by row
  data Tells : List Row → Type 0 where
    over : Tells []
    more : {r : Row} {rest : List Row} → (r.test ≡ true ↔ holds r.why) → Tells rest → Tells (r ∷ rest)

  -- a row that stands in a table is not one that does not
  apart : (m n : ℕ) (table : List Row) → has row_of m table ≡ false → has row_of n table ≡ true → m ≡ n → ⊥
  apart m n table out in-it same = false≢true (sym out ∙ rw same in-it)

  tells :
      (table : List Row) → distinct table ≡ true
      → ((why : Refusal) → has row_of (row_of why) table ≡ true → test_of why table ≡ true ↔ holds why) → Tells table
  unfolding distinct has test_of
  tells [] d laws = over
  tells (r ∷ rest) d laws =
      let own = laws r.why (rw (eq-eqb (row_of r.why) (row_of r.why) refl)) in
      let out = not-true (has row_of (row_of r.why) rest) (both_left (not (has row_of (row_of r.why) rest)) (distinct rest) d) in
      more (rw (eq-eqb (row_of r.why) (row_of r.why) refl) at own)
      (tells rest (both_right (not (has row_of (row_of r.why) rest)) (distinct rest) d)
      (λ why h.
      let other = ne_eqb (row_of r.why) (row_of why) (apart (row_of r.why) (row_of why) rest out h) in
      rw other at (laws why (rw (other, h)))))

  first_there : (table : List Row) {why : Refusal} → Tells table → first_of table ≡ found why → First holds why table
  unfolding first_of
  first_there [] over e = absurd (let z : ◌≡◌ {A = ℕ} 0 1 = cc in omega arith)
  first_there (r ∷ rest) {why} (more law laws) e = go r.test refl e (first_there rest laws)
    where
      go : (t : Bool) → r.test ≡ t → cond t (found r.why) (first_of rest) ≡ found why
          → (first_of rest ≡ found why → First holds why rest) → First holds why (r ∷ rest)
      go true is e' after = let same : r.why ≡ why = cc in here same (rw (← same) (law.0 is))
      go false is e' after = later (λ h. false≢true (sym is ∙ law.1 h)) (after e')

  first_back : (table : List Row) {why : Refusal} → Tells table → First holds why table → first_of table ≡ found why
  unfolding first_of
  first_back [] _ x = elim x [ ]
  first_back (r ∷ rest) (more law laws) (here same h) = rw (law.1 (rw same h), same)
  first_back (r ∷ rest) {why} (more law laws) (later not-here after) = go r.test refl (first_back rest laws after)
    where
      go : (t : Bool) → r.test ≡ t → first_of rest ≡ found why → cond t (found r.why) (first_of rest) ≡ found why
      go true is e = absurd (not-here (law.0 is))
      go false is e = e

  none_back : (table : List Row) → Tells table → ((why : Refusal) → holds why → ⊥) → first_of table ≡ nothing
  unfolding first_of
  none_back [] over never = refl
  none_back (r ∷ rest) (more law laws) never = go r.test refl (none_back rest laws never)
    where
      go : (t : Bool) → r.test ≡ t → first_of rest ≡ nothing → cond t (found r.why) (first_of rest) ≡ nothing
      go true is e = absurd (never r.why (law.0 is))
      go false is e = e

  module _ (table : List Row) (d : distinct table ≡ true) (words : (why : Refusal) → test_of why table ≡ true ↔ holds why) where
    told : Tells table
    told = tells table d (λ why h. words why)

    -- A refusal is found exactly when it is the first to hold.
    pub first_exactly : (why : Refusal) → first_of table ≡ found why ↔ First holds why table
    first_exactly why = (first_there table told, first_back table told)

    -- None is found exactly when none holds.
    pub none_exactly : first_of table ≡ nothing ↔ ((why : Refusal) → holds why → ⊥)
    none_exactly = (λ e why h. false≢true (sym (none-holds table e why) ∙ (words why).1 h), none_back table told)

-- ---- The table of settling.

module _ (file : List ℕ) (editions : Editions) (book trip : List ℕ) (room : ℕ) where
  pub rows_distinct : distinct (rows file editions book trip room) ≡ true
  unfolding rows distinct has
  rows_distinct = refl

  pub rows_range : in_range last_refusal (rows file editions book trip room) ≡ true
  unfolding rows in_range numbered
  rows_range = refl

-- ---- Tables that end in another row.

module _ (file : List ℕ) (editions : Editions) (book trip : List ℕ) where
  -- 4 to 11: all rows but the last, whichever that is
  abbrev pub earlier_rows : List Row
  earlier_rows = take 11 (rows_to file editions book trip (row NoRoom false))

  pub earlier_and_last : (last : Row) → rows_to file editions book trip last ≡ earlier_rows ++ last ∷ []
  earlier_and_last last = refl
