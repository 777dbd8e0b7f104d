-- An area and the areas above it: what goes up through them, by what each step does, and what lies within what.
-- Assumes nothing.
use Prim.Native.Nat.{ℕ, zero, suc, ◌≤◌, ◌<◌}
use native.Mathlib.Nat.{le_refl, eq-zero-or-pos}
use native.Mathlib.Omega.{arith}
use mathlib.Core.Path.{◌≡◌, refl, sym, ap, ◌∙◌}
use mathlib.Core.Logic.{◌⊎◌, inl, inr, ⊎_elim}
use mathlib.Core.Bool.{Bool, true, false, ◌||◌}
use borrow.Author.Tests.{eqb-true, eq-eqb}
use lib.Dec.{eqb}
use Rattle.caps.specs.Tree.{fold_up, among, Tree, IsTree, climb, within}

-- ---- Areas below `size`, whose parents are below it too.

module _ (parent : ℕ → ℕ) (size : ℕ) (up : (a : ℕ) → a < size → parent a < size) where
  -- What each step keeps between two ways up holds at their ends: alike from alike.
  pub fold_related :
      {X Y : Type 0} (f : ℕ → X → X) (g : ℕ → Y → Y) (R : X → Y → Type 0)
      → ((a : ℕ) → a < size → (x : X) (y : Y) → R x y → R (f a x) (g a y)) → (level a : ℕ) → a < size → (x : X) (y : Y) → R x y
      → R (fold_up parent f level a x) (fold_up parent g level a y)
  unfolding fold_up
  fold_related f g R each zero a h x y r = each a h x y r
  fold_related f g R each (suc level) a h x y r =
      fold_related f g R each level (parent a) (up a h) (f a x) (g a y) (each a h x y r)

  -- What each step keeps, the whole way keeps.
  pub fold_keeps :
      {X : Type 0} (f : ℕ → X → X) (P : X → Type 0) → ((a : ℕ) → a < size → (x : X) → P x → P (f a x)) → (level a : ℕ) → a < size → (x : X)
      → P x → P (fold_up parent f level a x)
  fold_keeps f P each level a h x p = fold_related f f (λ x y. P x) (λ a h x y. each a h x) level a h x x p

-- a test that has held stays
or_assoc : (s u v : Bool) → s || u || v ≡ s || (u || v)
or_assoc true u v = refl
or_assoc false u v = refl

or_again : (s u : Bool) → s || u || u ≡ s || u
or_again true u = refl
or_again false true = refl
or_again false false = refl

-- ---- In a tree.

module _ {t : Tree} (tree : IsTree t) where
  -- What holds of an area without a parent, and of an area where it holds of its parent, holds of every area.
  pub upwards :
      (P : ℕ → Type 0) → ((a : ℕ) → a < t.size → t.level a ≡ 0 → P a)
      → ((a : ℕ) → a < t.size → 0 < t.level a → P (t.parent a) → P a) → (a : ℕ) → a < t.size → P a
  upwards P top up a there = go (t.level a) a there refl
    where
      go : (n x : ℕ) → x < t.size → t.level x ≡ n → P x
      go zero x h e = top x h e
      go (suc n) x h e =
          let low : 0 < t.level x = omega arith in
          up x h low (go n (t.parent x) (tree.parent_there x h) (omega (arith, tree.parent_level x h low)))

  -- the state is on top
  pub state_level : t.level 0 ≡ 0
  state_level = upwards (λ a. t.level 0 ≡ 0) (λ a h e. rw (tree.top_level a h e) at e) (λ a h low up. up) 0 tree.state

  module _ {X : Type 0} (step : ℕ → X → X) where
    -- at the state there is one step; at any other area one, and then the parent's
    pub climb_top : (a : ℕ) → t.level a ≡ 0 → (x : X) → climb t step a x ≡ step a x
    unfolding fold_up
    climb_top a top x = ap (λ (n : ℕ). fold_up t.parent step n a x) top

    pub climb_up : (a : ℕ) → a < t.size → 0 < t.level a → (x : X) → climb t step a x ≡ climb t step (t.parent a) (step a x)
    unfolding fold_up
    climb_up a h low x =
        let e : t.level a ≡ suc (t.level (t.parent a)) = omega (arith, tree.parent_level a h low) in
        ap (λ (n : ℕ). fold_up t.parent step n a x) e

    -- The state is its own parent. Where a step that is done again does nothing, going on at the state changes nothing: so a way of three
    -- steps, which is enough for a city, serves every area.
    pub climb_past :
        ((x : X) → step 0 (step 0 x) ≡ step 0 x) → (a : ℕ) → a < t.size → (n : ℕ) → t.level a ≤ n → (x : X)
        → fold_up t.parent step n a x ≡ climb t step a x
    unfolding fold_up
    climb_past again =
        upwards (λ a. (n : ℕ) → t.level a ≤ n → (x : X) → fold_up t.parent step n a x ≡ climb t step a x)
        (λ a h top n some x. rw (climb_top a top x, tree.top_level a h top) (at_state n x))
        (λ a h low above n some x. below a h low above n some x)
      where
        at_state : (n : ℕ) (x : X) → fold_up t.parent step n 0 x ≡ step 0 x
        at_state zero x = refl
        at_state (suc n) x = rw tree.state_parent (at_state n (step 0 x) ∙ again x)

        below :
            (a : ℕ) → a < t.size → 0 < t.level a
            → ((n : ℕ) → t.level (t.parent a) ≤ n → (x : X) → fold_up t.parent step n (t.parent a) x ≡ climb t step (t.parent a) x)
            → (n : ℕ) → t.level a ≤ n → (x : X) → fold_up t.parent step n a x ≡ climb t step a x
        below a h low above zero some x = absurd (omega arith)
        below a h low above (suc n) some x =
            above n (omega (arith, tree.parent_level a h low)) (step a x) ∙ sym (climb_up a h low x)

  -- ---- Lying within.

  -- the state lies within itself alone
  pub within_top : (a x : ℕ) → t.level a ≡ 0 → within t a x ≡ eqb a x
  unfolding among
  within_top a x top = climb_top (λ b found. found || eqb b x) a top false

  -- any other area lies within itself, and within what its parent lies within
  pub within_above : (a x : ℕ) → a < t.size → 0 < t.level a → within t a x ≡ eqb a x || within t (t.parent a) x
  unfolding among
  within_above a x h low =
      climb_up (λ b found. found || eqb b x) a h low false
      ∙ fold_related t.parent t.size tree.parent_there (λ b found. found || eqb b x) (λ b found. found || eqb b x)
      (λ p q. p ≡ eqb a x || q) (λ b there p q e. rw e (or_assoc (eqb a x) q (eqb b x))) (t.level (t.parent a)) (t.parent a)
      (tree.parent_there a h) (eqb a x) false (or-false (eqb a x))
    where
      or-false : (s : Bool) → s ≡ s || false
      or-false true = refl
      or-false false = refl

  -- "Within" by a way of n steps, where n is enough.
  pub within_past : (a x n : ℕ) → a < t.size → t.level a ≤ n → among t.parent n a x ≡ within t a x
  unfolding among
  within_past a x n h some = climb_past (λ b found. found || eqb b x) (λ found. or_again found (eqb 0 x)) a h n some false

  -- an area lies within itself
  pub within_self : (a : ℕ) → a < t.size → within t a a ≡ true
  within_self =
      upwards (λ a. within t a a ≡ true) (λ a h e. within_top a a e ∙ eq-eqb a a refl)
      (λ a h low up. within_above a a h low ∙ (rw (eq-eqb a a refl)))

  -- what a parent lies within, its child lies within
  pub within_parent : (a x : ℕ) → a < t.size → 0 < t.level a → within t (t.parent a) x ≡ true → within t a x ≡ true
  within_parent a x h low e = within_above a x h low ∙ go (eqb a x)
    where
      go : (b : Bool) → b || within t (t.parent a) x ≡ true
      go true = refl
      go false = e

  -- the area on top lies within itself alone
  pub top_alone : (a x : ℕ) → t.level a ≡ 0 → within t a x ≡ true → a ≡ x
  top_alone a x top w = eqb-true a x (sym (within_top a x top) ∙ w)

  -- what an area lies within is the area itself, or its parent lies within it
  pub within_cases :
      (a x : ℕ) → a < t.size → within t a x ≡ true → (a ≡ x) ⊎ ((0 < t.level a) × (within t (t.parent a) x ≡ true))
  within_cases a x h w = go (eq-zero-or-pos (t.level a))
    where
      next :
          (b : Bool) → eqb a x ≡ b → 0 < t.level a → b || within t (t.parent a) x ≡ true
          → (a ≡ x) ⊎ ((0 < t.level a) × (within t (t.parent a) x ≡ true))
      next true e low k = inl (eqb-true a x e)
      next false e low k = inr (low, k)

      go : (t.level a ≡ 0) ⊎ (0 < t.level a) → (a ≡ x) ⊎ ((0 < t.level a) × (within t (t.parent a) x ≡ true))
      go (inl top) = inl (top_alone a x top w)
      go (inr low) = next (eqb a x) refl low (sym (within_above a x h low) ∙ w)

  -- what an area lies within has no larger level
  pub within_level : (a : ℕ) → a < t.size → (x : ℕ) → within t a x ≡ true → t.level x ≤ t.level a
  within_level =
      upwards (λ a. (x : ℕ) → within t a x ≡ true → t.level x ≤ t.level a)
      (λ a h top x w. rw (top_alone a x top w) (le_refl (t.level x)))
      λ a h low ih x w.
      ⊎_elim (λ (same : a ≡ x). rw same (le_refl (t.level x))) (λ r. omega (arith, ih x r.1, tree.parent_level a h low))
      (within_cases a x h w)

  -- and is an area of the tree
  pub within_there : (a : ℕ) → a < t.size → (x : ℕ) → within t a x ≡ true → x < t.size
  within_there =
      upwards (λ a. (x : ℕ) → within t a x ≡ true → x < t.size) (λ a h top x w. rw (← (top_alone a x top w)) h)
      (λ a h low ih x w. ⊎_elim (λ (same : a ≡ x). rw (← same) h) (λ r. ih x r.1) (within_cases a x h w))

  -- a parent lies within none of its children
  pub not_within_child : (a : ℕ) → a < t.size → 0 < t.level a → within t (t.parent a) a ≡ true → ⊥
  not_within_child a h low w = omega (arith, within_level (t.parent a) (tree.parent_there a h) a w, tree.parent_level a h low)

  -- of the areas that an area lies within, each has a level of its own
  pub within_one : (a : ℕ) → a < t.size → (x y : ℕ) → within t a x ≡ true → within t a y ≡ true → t.level x ≡ t.level y → x ≡ y
  within_one =
      upwards (λ a. (x y : ℕ) → within t a x ≡ true → within t a y ≡ true → t.level x ≡ t.level y → x ≡ y)
      (λ a h top x y w w' same. sym (top_alone a x top w) ∙ top_alone a y top w')
      λ a h low ih x y w w' same.
      let below : (z : ℕ) → within t (t.parent a) z ≡ true → t.level z < t.level a =
      λ z v. omega (arith, within_level (t.parent a) (tree.parent_there a h) z v, tree.parent_level a h low) in
      ⊎_elim
      (λ (own : a ≡ x).
      ⊎_elim (λ (own' : a ≡ y). sym own ∙ own')
      (λ r. absurd (omega (arith, below y r.1, ap t.level own, same))) (within_cases a y h w'))
      (λ r.
      ⊎_elim (λ (own' : a ≡ y). absurd (omega (arith, below x r.1, ap t.level own', same))) (λ r'. ih x y r.1 r'.1 same)
      (within_cases a y h w'))
      (within_cases a x h w)

  -- every area lies within the state
  pub within_state : (a : ℕ) → a < t.size → within t a 0 ≡ true
  within_state =
      upwards (λ a. within t a 0 ≡ true) (λ a h e. rw (tree.top_level a h e) (within_self 0 tree.state))
      (λ a h low up. within_parent a 0 h low up)
