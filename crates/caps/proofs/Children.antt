-- Sums over the areas right below an area, and an area's total in parts: its own rides, and the totals of the areas right below it.
-- Assumes nothing.
use Prim.Native.Nat.{ℕ, zero, suc, ◌+◌, ◌≤◌, ◌<◌}
use native.Mathlib.Nat.{le_refl, le_step, le_of_eq, zero-add}
use native.Mathlib.Omega.{arith}
use native.Mathlib.Decide.{ℕ_discrete}
use mathlib.Core.Path.{◌≡◌, refl, sym, ap, subst, ◌∙◌, fun_ext}
use mathlib.Core.Bool.{Bool, true, false, cond, ◌||◌, and-eq-true_iff}
use mathlib.Core.List.{List, [], ◌∷◌}
use borrow.Author.Tests.{ltb-true, eqb-true, eq-eqb, ne_eqb, lt-ltb, le-ltb}
use lib.Dec.{eqb, ltb}
use Rattle.caps.specs.Tree.{Tree, IsTree, within}
use Rattle.caps.specs.Rides.{ChargedRide, ChargedInTurn, none, more, all_total, child_of, over_children}
use Rattle.caps.proofs.Climb.{upwards, within_top, within_above, not_within_child}

-- what the test of lying right below says
pub child_is : (t : Tree) (y x : ℕ) → child_of t y x ≡ true → (0 < t.level y) × (t.parent y ≡ x)
child_is t y x e =
    let (low, up) = (and-eq-true_iff (ltb 0 (t.level y)) (eqb (t.parent y) x)).0 e in
    (ltb-true 0 (t.level y) low, eqb-true (t.parent y) x up)

module _ (t : Tree) (x : ℕ) where
  -- a sum keeps the order of its parts
  pub over_mono :
      (f g : ℕ → ℕ) (n : ℕ) → ((y : ℕ) → y < n → child_of t y x ≡ true → f y ≤ g y) → over_children t x f n ≤ over_children t x g n
  unfolding over_children
  over_mono f g zero le = le_refl 0
  over_mono f g (suc n) le =
      omega (arith, over_mono f g n (λ y h. le y (le_step h)), part (child_of t n x) (λ e. le n (le_refl (suc n)) e))
    where
      part : (b : Bool) → (b ≡ true → f n ≤ g n) → cond b (f n) 0 ≤ cond b (g n) 0
      part true k = k refl
      part false k = le_refl 0

  -- a sum of sums is the sum of the two
  pub over_add :
      (f g : ℕ → ℕ) (n : ℕ) → over_children t x (λ y. f y + g y) n ≡ over_children t x f n + over_children t x g n
  unfolding over_children
  over_add f g zero = refl
  over_add f g (suc n) = omega (arith, over_add f g n, part (child_of t n x))
    where
      part : (b : Bool) → cond b (f n + g n) 0 ≡ cond b (f n) 0 + cond b (g n) 0
      part true = refl
      part false = refl

  -- a sum over the same parts is the same
  over_same : {f g : ℕ → ℕ} → ((y : ℕ) → f y ≡ g y) → over_children t x f t.size ≡ over_children t x g t.size
  over_same e = ap (λ (f : ℕ → ℕ). over_children t x f t.size) (fun_ext e)

  -- a sum of nothing is nothing
  pub over_nothing : (f : ℕ → ℕ) (n : ℕ) → ((y : ℕ) → y < n → child_of t y x ≡ true → f y ≡ 0) → over_children t x f n ≡ 0
  over_nothing f n e =
      omega (arith, over_mono f (λ y. 0) n (λ y h child. le_of_eq (e y h child)), over_add (λ y. 0) (λ y. 0) n)

  -- an amount at one area counts if that area is right below
  over_one : (a c n : ℕ) → a < n → over_children t x (λ y. cond (eqb a y) c 0) n ≡ cond (child_of t a x) c 0
  unfolding over_children
  over_one a c zero h = absurd (omega arith)
  over_one a c (suc n) h = go (λ k. over_one a c n k) (ℕ_discrete a n)
    where
      other : (b : Bool) (m : ℕ) → m + cond b 0 0 ≡ m
      other true m = omega arith
      other false m = omega arith

      go :
          (a < n → over_children t x (λ y. cond (eqb a y) c 0) n ≡ cond (child_of t a x) c 0) → Dec (a ≡ n)
          → over_children t x (λ y. cond (eqb a y) c 0) n + cond (child_of t n x) (cond (eqb a n) c 0) 0 ≡ cond (child_of t a x) c 0
      go before (yes here) =
          let none_before : over_children t x (λ y. cond (eqb a y) c 0) n ≡ 0 =
          over_nothing (λ y. cond (eqb a y) c 0) n (λ y h child. rw (ne_eqb a y (λ e. omega arith))) in
          rw (none_before, eq-eqb a n here, here) (zero-add (cond (child_of t n x) c 0))
      go before (no later) = rw (ne_eqb a n later) (other (child_of t n x) _ ∙ before (omega arith))

module _ {t : Tree} (tree : IsTree t) where
  -- an amount at each area that a lies within is an amount at a and at each area that its parent lies within
  at_chain :
      (a c x : ℕ) → a < t.size → 0 < t.level a
      → cond (within t a x) c 0 ≡ cond (eqb a x) c 0 + cond (within t (t.parent a) x) c 0
  at_chain a c x h low = rw (within_above tree a x h low) (go (eqb a x) refl (within t (t.parent a) x) refl)
    where
      go :
          (b : Bool) → eqb a x ≡ b → (w : Bool) → within t (t.parent a) x ≡ w
          → cond (b || w) c 0 ≡ cond b c 0 + cond w c 0
      go true e true above =
          absurd (not_within_child tree a h low (subst (λ y. within t (t.parent a) y ≡ true) (sym (eqb-true a x e)) above))
      go true e false above = omega arith
      go false e w above = sym (zero-add (cond w c 0))

  -- a ride within an area is its own, or within exactly one of the areas right below it
  pub one_below :
      (c a : ℕ) → a < t.size → (x : ℕ)
      → cond (within t a x) c 0 ≡ cond (eqb a x) c 0 + over_children t x (λ y. cond (within t a y) c 0) t.size
  one_below c =
      upwards tree (λ a. (x : ℕ) → amount a x ≡ own a x + over_children t x (amount a) t.size)
      (λ a h top x.
      let no-child : cond (child_of t a x) c 0 ≡ 0 = rw (le-ltb 0 (t.level a) (omega arith)) in
      let alone : (y : ℕ) → amount a y ≡ own a y = λ y. rw (within_top tree a y top) in
      omega (arith, no-child, alone x, over_same t x alone, over_one t x a c t.size h))
      λ a h low above x.
      let child : cond (child_of t a x) c 0 ≡ own (t.parent a) x = rw (lt-ltb 0 (t.level a) low) in
      let parts : (y : ℕ) → amount a y ≡ own a y + amount (t.parent a) y = λ y. at_chain a c y h low in
      omega (
        arith,
        child,
        above x,
        parts x,
        over_same t x parts,
        over_add t x (own a) (amount (t.parent a)) t.size,
        over_one t x a c t.size h,
      )
    where
      own : ℕ → ℕ → ℕ
      own a y = cond (eqb a y) c 0

      amount : ℕ → ℕ → ℕ
      amount a y = cond (within t a y) c 0

-- the charges of an area's own rides
unfoldable pub own_charges : ℕ → List ChargedRide → ℕ
own_charges x [] = 0
own_charges x (e ∷ es) = own_charges x es + cond (eqb e.area x) e.charge 0

-- An area's total is what its own rides were charged and the totals of the areas right below it.
pub total_in_parts :
    {t : Tree} → IsTree t → {es : List ChargedRide} → ChargedInTurn t es → (x : ℕ)
    → all_total t x es ≡ own_charges x es + over_children t x (λ y. all_total t y es) t.size
unfolding all_total own_charges
total_in_parts {t} tree none x = omega (arith, over_nothing t x (λ y. 0) t.size (λ y h b. refl))
total_in_parts {t} tree (more {e} {es} r there is) x =
    omega (
      arith,
      total_in_parts tree r x,
      one_below tree e.charge e.area there x,
      over_add t x (λ y. all_total t y es) (λ y. cond (within t e.area y) e.charge 0) t.size,
    )
