-- The areas above an area of a faultless tariff. There are three levels, so the area above the area above any is the state. Lying
-- within is an order, and the smallest area containing two is the one that lies within every area containing both.
-- Assumes nothing.
use Prim.Native.Nat.{ℕ, zero, suc, ◌-◌, ◌≤◌, ◌<◌}
use native.Mathlib.Omega.{arith}
use native.Mathlib.Decide.{ℕ_discrete}
use mathlib.Core.Path.{◌≡◌, refl, sym, ap, subst, ◌∙◌}
use mathlib.Core.Logic.{⊎_elim}
use mathlib.Core.Bool.{Bool, true, false, ◌||◌, false≢true}
use mathlib.Core.List.{List}
use borrow.Author.Tests.{eqb-true, eqb-false, eq-eqb}
use lib.Dec.{eqb}
use Rattle.caps.specs.Tree.{fold_up, among}
use Rattle.layout.specs.declared.Counts.{Counts}
use Rattle.layout.specs.declared.Kind.TheVariants.{Common, Aachen}
use Rattle.layout.specs.Layout.{common_kind, aachen_kind, area_place}
use Rattle.layout.specs.Fields.{area_fields, long_fields}
use Rattle.layout.specs.Rules.{level_of, flat_of, kind_of}
use Rattle.areas.specs.Areas.{
  child_ticket_of,
  kind_with,
  area_of,
  area_at,
  parent_of,
  is_aachen,
  bicycle_price_of,
  town_at,
  lies_within,
  smallest_of,
  Smallest,
  AreaRank,
  state,
  region,
  city,
  FaultlessTariff,
}
use Rattle.wire.proofs.Tests.{one_of_three, second_holds, third-holds}

-- Level, parent and flat of an area are those of its record.
module _ (b : List ℕ) (a : ℕ) where
  pub area_level : (area_at b a).level ≡ level_of b a
  unfolding area_at area_of
  area_level = refl

  pub area_parent : (area_at b a).parent ≡ parent_of b a
  unfolding area_at area_of
  area_parent = refl

  pub area_flat : (area_at b a).bicycle_flat.0 ≡ flat_of b a
  unfolding area_at area_of
  area_flat = refl

  -- so is its kind: kind 1, or kind 8 with its tickets, its bicycle price and its town mark
  pub area_common : is_aachen b a ≡ false → (area_at b a).kind ≡ Common
  unfolding area_at area_of kind_with
  area_common other = rw other

  pub area_aachen :
      is_aachen b a ≡ true
      → (area_at b a).kind
      ≡ Aachen (child_ticket_of (area_fields b (area_place b a)) (long_fields b (area_place b a))) (record { 0 = bicycle_price_of b a })
      (town_at b a)
  unfolding area_at area_of kind_with town_at
  area_aachen is = rw is

-- An area lies within itself, within its parent, and within its parent's parent; and within no other.
module _ (b : List ℕ) (a c : ℕ) where
  pub within_self : a ≡ c → lies_within b a c ≡ true
  unfolding lies_within among fold_up
  within_self e = rw (eq-eqb a c e)

  pub within_parent : parent_of b a ≡ c → lies_within b a c ≡ true
  unfolding lies_within among fold_up
  within_parent e = second_holds (eqb a c) (eqb (parent_of b a) c) _ (eq-eqb (parent_of b a) c e)

  pub within_top : parent_of b (parent_of b a) ≡ c → lies_within b a c ≡ true
  unfolding lies_within among fold_up
  within_top e =
      third-holds (eqb a c) (eqb (parent_of b a) c) (eqb (parent_of b (parent_of b a)) c) (eq-eqb (parent_of b (parent_of b a)) c e)

  pub within_cases {ℓ} :
      {P : Type ℓ} → lies_within b a c ≡ true → (a ≡ c → P) → (parent_of b a ≡ c → P) → (parent_of b (parent_of b a) ≡ c → P) → P
  unfolding lies_within among fold_up
  within_cases e self parent top =
      one_of_three (eqb a c) (eqb (parent_of b a) c) (eqb (parent_of b (parent_of b a)) c) e
      (λ is. self (eqb-true a c is)) (λ is. parent (eqb-true (parent_of b a) c is))
      (λ is. top (eqb-true (parent_of b (parent_of b a)) c is))

pub within_refl : (b : List ℕ) (a : ℕ) → lies_within b a a ≡ true
within_refl b a = within_self b a a refl

-- What the rank of an area says of the area above it: the state is its own parent, any other parent is earlier, and one level up.
pub record Above (b : List ℕ) (a : ℕ) : Type 0 where
  pub level : level_of b a ≤ 2
  pub state_only : level_of b a ≡ 0 → a ≡ 0
  pub state_parent : a ≡ 0 → parent_of b a ≡ 0
  pub earlier : 0 < a → parent_of b a < a
  pub level_up : level_of b (parent_of b a) ≡ level_of b a - 1
  pub kind_up : level_of b a ≡ 2 → kind_of b (parent_of b a) ≡ kind_of b a
  pub flat_up : kind_of b (parent_of b a) ≡ kind_of b a → flat_of b a ≤ flat_of b (parent_of b a)

state_first : (b : List ℕ) → AreaRank b 0 → (level_of b 0 ≡ 0) × (kind_of b 0 ≡ common_kind)
unfolding area_at area_of
state_first b (state is level parent kind) = (level, kind)
state_first b (region some level parent flat) = absurd (omega arith)
state_first b (city r some earlier level parent above kind flat) = absurd (omega arith)

ranked : (b : List ℕ) (a : ℕ) → level_of b 0 ≡ 0 → kind_of b 0 ≡ common_kind → AreaRank b a → Above b a
unfolding area_at area_of
ranked b a top common (state is level parent kind) =
    record {
      level = omega arith;
      state_only = λ _. is;
      state_parent = λ _. parent;
      earlier = λ some. absurd (omega arith);
      level_up = omega (arith, ap (level_of b) parent);
      kind_up = λ high. absurd (omega arith);
      flat_up = λ _. omega (arith, ap (flat_of b) is, ap (flat_of b) parent);
    }
ranked b a top common (region some level parent flat) =
    record {
      level = omega arith;
      state_only = λ zero-level. absurd (omega arith);
      state_parent = λ _. parent;
      earlier = λ _. omega arith;
      level_up = omega (arith, ap (level_of b) parent);
      kind_up = λ high. absurd (omega arith);
      flat_up = λ same. omega (arith, flat (omega (arith, ap (kind_of b) parent)), ap (flat_of b) parent);
    }
ranked b a top common (city r some earlier level parent above kind flat) =
    record {
      level = omega arith;
      state_only = λ zero-level. absurd (omega arith);
      state_parent = λ is. absurd (omega arith);
      earlier = λ _. omega arith;
      level_up = omega (arith, ap (level_of b) parent);
      kind_up = λ _. omega (arith, ap (kind_of b) parent);
      flat_up = λ _. omega (arith, ap (flat_of b) parent);
    }

-- In a faultless tariff:
module _ {b : List ℕ} {counts : Counts} (t : FaultlessTariff b counts) where
  pub above_of : (a : ℕ) → a < counts.areas → Above b a
  above_of a h = let (level, kind) = state_first b (t.rank 0 t.some) in ranked b a level kind (t.rank a h)

  -- the state is of kind 1
  pub state_common : kind_of b 0 ≡ common_kind
  state_common = (state_first b (t.rank 0 t.some)).1

  pub parent_most : (a : ℕ) → a < counts.areas → parent_of b a ≤ a
  parent_most zero h = omega (arith, (above_of zero h).state_parent refl)
  parent_most (suc a) h = omega (arith, (above_of (suc a) h).earlier (omega arith))

  pub parent_there : (a : ℕ) → a < counts.areas → parent_of b a < counts.areas
  parent_there a h = omega (arith, parent_most a h)

  -- three levels: the parent's parent is the state
  pub parent_top : (a : ℕ) → a < counts.areas → parent_of b (parent_of b a) ≡ 0
  parent_top a h =
      let one = above_of a h in
      let h' = parent_there a h in
      let two = above_of (parent_of b a) h' in
      (above_of (parent_of b (parent_of b a)) (parent_there (parent_of b a) h')).state_only (omega arith)

  pub within_state : (a : ℕ) → a < counts.areas → lies_within b a 0 ≡ true
  within_state a h = within_top b a 0 (parent_top a h)

  -- lying within, by the area above as it was found; above that is the state
  pub within_found :
      (inner outer above : ℕ) → inner < counts.areas → above ≡ parent_of b inner
      → eqb inner outer || eqb above outer || eqb 0 outer ≡ lies_within b inner outer
  unfolding lies_within among fold_up
  within_found inner outer above h e = rw (e, parent_top inner h)

  -- an area that is neither another nor its parent nor the state does not contain it
  outside : (a c : ℕ) → a < counts.areas → (a ≡ c → ⊥) → (parent_of b a ≡ c → ⊥) → (c ≡ 0 → ⊥) → lies_within b a c ≡ false
  outside a c h self parent top = go (lies_within b a c) refl
    where
      go : (t : Bool) → lies_within b a c ≡ t → t ≡ false
      go false e = refl
      go true e = absurd (within_cases b a c e self parent (λ is. top (sym is ∙ parent_top a h)))

  -- what an area lies within has no greater number
  pub within_most : (a c : ℕ) → a < counts.areas → lies_within b a c ≡ true → c ≤ a
  within_most a c h e =
      within_cases b a c e (λ is. omega arith) (λ is. omega (arith, parent_most a h)) (λ is. omega (arith, parent_top a h))

  pub within_there : (a c : ℕ) → a < counts.areas → lies_within b a c ≡ true → c < counts.areas
  within_there a c h e = omega (arith, within_most a c h e)

  pub within_trans : (a c d : ℕ) → a < counts.areas → lies_within b a c ≡ true → lies_within b c d ≡ true → lies_within b a d ≡ true
  within_trans a c d h e e' =
      let there = within_there a c h e in
      let top = parent_top a h in
      within_cases b a c e (λ is. rw is e')
      (λ is.
      within_cases b c d e' (λ to. within_parent b a d (is ∙ to)) (λ to. within_top b a d (ap (parent_of b) is ∙ to))
      (λ to. within_top b a d (omega (arith, parent_top c there))))
      (λ is. within_top b a d (omega (arith, within_most c d there e')))

  pub within_antisym : (a c : ℕ) → a < counts.areas → c < counts.areas → lies_within b a c ≡ true → lies_within b c a ≡ true → a ≡ c
  within_antisym a c h h' e e' = omega (arith, within_most a c h e, within_most c a h' e')

  -- an area that is not of kind 8 is of kind 1
  pub common-kind : (a : ℕ) → a < counts.areas → is_aachen b a ≡ false → kind_of b a ≡ common_kind
  common-kind a h other = ⊎_elim (λ is. is) (λ is. absurd (eqb-false (kind_of b a) aachen_kind other is)) (t.kind a h)

  -- a region and the cities in it have one kind
  pub kind_within : (a c : ℕ) → a < counts.areas → 0 < c → lies_within b a c ≡ true → kind_of b c ≡ kind_of b a
  kind_within a c h some e =
      let one = above_of a h in
      let two = above_of (parent_of b a) (parent_there a h) in
      within_cases b a c e (λ is. sym (ap (kind_of b) is))
      (λ is.
      elim (ℕ_discrete (level_of b a) 2) [
        | yes high ↦ sym (ap (kind_of b) is) ∙ one.kind_up high
        | no wide ↦ absurd (omega (arith, two.state_only (omega arith)))
      ])
      (λ is. absurd (omega (arith, parent_top a h)))

  -- no flat exceeds that of an area of its own kind around it
  pub flat_within :
      (a c : ℕ) → a < counts.areas → kind_of b c ≡ kind_of b a → lies_within b a c ≡ true → flat_of b a ≤ flat_of b c
  flat_within a c h same e =
      let one = above_of a h in
      let two = above_of (parent_of b a) (parent_there a h) in
      within_cases b a c e (λ is. omega (arith, ap (flat_of b) is))
      (λ is. omega (arith, ap (flat_of b) is, one.flat_up (ap (kind_of b) is ∙ same)))
      (λ is.
      let between : kind_of b (parent_of b a) ≡ kind_of b a =
      elim (ℕ_discrete (level_of b a) 2) [
        | yes high ↦ one.kind_up high
        | no wide ↦
            let up : parent_of b a ≡ c = omega (arith, two.state_only (omega arith), parent_top a h) in
            ap (kind_of b) up ∙ same
      ]
      in
      omega (arith, ap (flat_of b) is, one.flat_up between, two.flat_up (ap (kind_of b) is ∙ same ∙ sym between)))

  -- The smallest area containing two, by where the walk up from the first meets one that contains the second.
  module _ (a c : ℕ) (h : a < counts.areas) where
    -- the walk has passed no area that contains the second
    passed : (r d : ℕ) → lies_within b c r ≡ false → lies_within b c d ≡ true → r ≡ d → ⊥
    passed r d out e is = false≢true (sym out ∙ ap (lies_within b c) is ∙ e)

    pub smallest_own : lies_within b c a ≡ true → Smallest b counts a c a
    unfolding smallest_of
    smallest_own is = record { value = rw is; there = h; one = within_refl b a; other = is; least = λ d e e'. e }

    pub smallest_parent :
        (above : ℕ) → above ≡ parent_of b a → lies_within b c a ≡ false → lies_within b c above ≡ true → Smallest b counts a c above
    unfolding smallest_of
    smallest_parent above up out is =
        record {
          value = up ∙ rw (out, rw up at is);
          there = rw up (parent_there a h);
          one = within_parent b a above (sym up);
          other = is;
          least = λ d e e'.
              within_cases b a d e (λ self. absurd (passed a d out e' self)) (λ parent. within_self b above d (up ∙ parent))
              (λ top. within_parent b above d (ap (parent_of b) up ∙ top));
        }

    pub smallest_top :
        (above top : ℕ) → above ≡ parent_of b a → top ≡ parent_of b above → c < counts.areas → lies_within b c a ≡ false
        → lies_within b c above ≡ false → Smallest b counts a c top
    unfolding smallest_of
    smallest_top above top up up' h' out out' =
        let is : parent_of b (parent_of b a) ≡ top = sym (up' ∙ ap (parent_of b) up) in
        let zero-top : top ≡ 0 = sym is ∙ parent_top a h in
        record {
          value = sym is ∙ rw (out, rw up at out');
          there = omega arith;
          one = within_top b a top is;
          other = rw zero-top (within_state c h');
          least = λ d e e'.
              within_cases b a d e (λ self. absurd (passed a d out e' self))
              (λ parent. absurd (passed above d out' e' (up ∙ parent))) (λ to. within_self b top d (sym is ∙ to));
        }

    -- The same by the areas above the two, `above` and `near`: neither is the other, the first is not the state and not the second's parent.
    module _
        (h' : c < counts.areas)
        (near above : ℕ)
        (near-is : near ≡ parent_of b c)
        (above-is : above ≡ parent_of b a)
        (differ : a ≡ c → ⊥)
        (below : a ≡ 0 → ⊥)
        (beside : near ≡ a → ⊥)
      where
        not_own : lies_within b c a ≡ false
        not_own = outside c a h' (λ e. differ (sym e)) (λ e. beside (near-is ∙ e)) below

        pub meets_other : above ≡ c → Smallest b counts a c above
        meets_other e = smallest_parent above above-is not_own (within_self b c above (sym e))

        pub meets_parent : above ≡ near → Smallest b counts a c above
        meets_parent e = smallest_parent above above-is not_own (within_parent b c above (sym near-is ∙ sym e))

        pub meets_state : (above ≡ c → ⊥) → (above ≡ near → ⊥) → Smallest b counts a c 0
        meets_state no_other no-parent =
            elim (ℕ_discrete above 0) [
              | yes top ↦ subst (Smallest b counts a c) top (smallest_parent above above-is not_own (rw top (within_state c h')))
              | no low ↦
                  smallest_top above 0 above-is (sym (parent_top a h) ∙ ap (parent_of b) (sym above-is)) h' not_own
                  (outside c above h' (λ e. no_other (sym e)) (λ e. no-parent (sym e ∙ sym near-is)) low)
            ]

    pub smallest : c < counts.areas → Smallest b counts a c (smallest_of b a c)
    smallest h' = own (lies_within b c a) refl
      where
        given : (r : ℕ) → Smallest b counts a c r → Smallest b counts a c (smallest_of b a c)
        given r s = subst (Smallest b counts a c) s.value s

        from_parent :
            lies_within b c a ≡ false → (s : Bool) → lies_within b c (parent_of b a) ≡ s → Smallest b counts a c (smallest_of b a c)
        from_parent out true is = given _ (smallest_parent _ refl out is)
        from_parent out false is = given _ (smallest_top _ _ refl refl h' out is)

        own : (s : Bool) → lies_within b c a ≡ s → Smallest b counts a c (smallest_of b a c)
        own true is = given _ (smallest_own is)
        own false is = from_parent is (lies_within b c (parent_of b a)) refl

  -- An area that contains two and lies within every area that contains both is the smallest: there is no other.
  pub smallest_unique :
      (a c r : ℕ) → a < counts.areas → c < counts.areas → lies_within b a r ≡ true → lies_within b c r ≡ true
      → ((d : ℕ) → lies_within b a d ≡ true → lies_within b c d ≡ true → lies_within b r d ≡ true) → r ≡ smallest_of b a c
  smallest_unique a c r h h' one other least =
      let s = smallest a c h h' in
      within_antisym r (smallest_of b a c) (within_there a r h one) s.there (least (smallest_of b a c) s.one s.other)
      (s.least r one other)
