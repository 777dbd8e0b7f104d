-- A bicycle's new covering area is one of the tariff's, and its charge and payments stay in their ranges. What is held of a bicycle's words holds of
-- any bicycle that has the same.
-- Assumes nothing.
use Prim.Native.Nat.{ℕ, ◌+◌, ◌-◌, ◌≤◌, ◌<◌, min}
use native.Mathlib.Omega.{arith}
use native.Mathlib.Decide.{ℕ_discrete}
use mathlib.Core.Path.{◌≡◌, refl, sym, ◌∙◌}
use mathlib.Core.Bool.{Bool, true, false, cond, ◌&&◌}
use mathlib.Core.List.{List}
use borrow.Author.Tests.{eq-eqb, ne_eqb, eqb-true}
use lib.Dec.{eqb}
use Rattle.wire.proofs.Tests.{both_left, both_right}
use Rattle.layout.specs.declared.Counts.{Counts}
use Rattle.layout.specs.Rules.{most_money, flat_of}
use Rattle.layout.specs.Scan.{Read}
use Rattle.areas.specs.Areas.{Smallest, is_aachen, bicycle_price_of, FaultlessTariff}
use Rattle.areas.proofs.Faultless.{faultless}
use Rattle.areas.proofs.Within.{within_refl, area_flat, common-kind, flat_within, smallest_own, smallest}
use Rattle.ledger.specs.Sound.{most_paid}
use Rattle.cycles.specs.declared.terms.Terms.{Terms}
use Rattle.cycles.specs.Bicycles.{new_cover, payment, flat_before, bicycle_charge, paid_with}
use Rattle.cycles.specs.Clauses.{NewCover, TermsOf, pay_by, paid_by, PaidWith, BicycleCharge}

-- A bicycle's new covering area is one of the tariff's.
pub cover_there :
    {t : List ℕ} {counts : Counts} → FaultlessTariff t counts → (a old : ℕ) → a < counts.areas → old ≤ counts.areas → new_cover t counts a old < counts.areas
unfolding new_cover
cover_there f a old here known =
    elim (ℕ_discrete old 0) [
      | yes none ↦ rw (eq-eqb old 0 none) here
      | no used ↦ rw (ne_eqb old 0 used) (smallest f a (old - 1) here (omega arith)).there
    ]

-- What the old covering area's flat counts for: nothing if the bicycle is unused, nor where the area is of kind 8.
module _ (t : List ℕ) (counts : Counts) (old : ℕ) where
  pub before_none : old ≡ 0 → flat_before t counts old ≡ 0
  unfolding flat_before
  before_none none = rw (eq-eqb old 0 none)

  before_used : (inner : ℕ) → old ≡ 1 + inner → flat_before t counts old ≡ cond (is_aachen t inner) 0 (flat_of t inner)
  unfolding flat_before
  before_used inner is =
      let same : old - 1 ≡ inner = omega arith in
      rw (ne_eqb old 0 (λ none. omega arith), same)

  pub before_paid : (inner : ℕ) → old ≡ 1 + inner → is_aachen t inner ≡ true → flat_before t counts old ≡ 0
  before_paid inner is aachen = before_used inner is ∙ rw aachen

  pub before_flat : (inner : ℕ) → old ≡ 1 + inner → is_aachen t inner ≡ false → flat_before t counts old ≡ flat_of t inner
  before_flat inner is common = before_used inner is ∙ rw common

-- A bicycle in a ride of area a: its new covering area and its charge.
module _ (t : List ℕ) (counts : Counts) (a : ℕ) (read : Read t counts) (here : a < counts.areas) where
  pub cover_first : (old : ℕ) → old ≡ 0 → NewCover t counts a old a
  unfolding new_cover
  cover_first old none = record { value = rw (eq-eqb old 0 none); there = here }

  pub cover_more :
      (old r : ℕ) → (old ≡ 0 → ⊥) → Smallest t counts a (old - 1) r → NewCover t counts a old r
  unfolding new_cover
  cover_more old r used s = record { value = rw (ne_eqb old 0 used, s.value); there = s.there }

  -- a bicycle that the ride's own area covers stays with it
  pub cover_own : (old : ℕ) → (old ≡ 0 → ⊥) → old - 1 ≡ a → NewCover t counts a old a
  cover_own old used same = cover_more old a used (rw same (smallest_own (faultless t counts read) a a here (within_refl t a)))

  -- the new covering area contains the old one: so where both are of kind 1, its flat is at least the old one's
  pub flat_before_most :
      {old new : ℕ} → old ≤ counts.areas → NewCover t counts a old new → is_aachen t new ≡ false → flat_before t counts old ≤ flat_of t new
  unfolding new_cover flat_before
  flat_before_most {old} {new} known cover common =
      elim (ℕ_discrete old 0) [
        | yes none ↦ rw (eq-eqb old 0 none) (omega arith)
        | no used ↦ rw (ne_eqb old 0 used) (go used (is_aachen t (old - 1)) refl)
      ]
    where
      go : (old ≡ 0 → ⊥) → (kind : Bool) → is_aachen t (old - 1) ≡ kind → cond kind 0 (flat_of t (old - 1)) ≤ flat_of t new
      go used true is = omega arith
      go used false is =
          let f = faultless t counts read in
          let there : old - 1 < counts.areas = omega arith in
          let inside = rw (ne_eqb old 0 used) at cover.value in
          flat_within f (old - 1) new there (common-kind f new cover.there common ∙ sym (common-kind f (old - 1) there is))
          (rw inside (smallest f a (old - 1) here there).other)

  -- the contract of `charge_bicycle`: by the payment in kind 8, by the flats elsewhere
  module _ {old new : ℕ} {terms : Terms} (cover : NewCover t counts a old new) (asked : TermsOf t counts new terms) where
    pub bicycle_pays : {paid r : ℕ} → terms.aachen ≡ true → r ≡ pay_by terms paid → BicycleCharge t counts a old paid r
    unfolding bicycle_charge payment
    bicycle_pays aachen pays =
        let kind : is_aachen t new ≡ true = sym asked.kind ∙ aachen in
        record {
          value = pays ∙ rw (← cover.value, kind, asked.price kind, asked.flat);
          range = omega (arith, asked.range);
        }

    pub bicycle-flat : {paid before : ℕ} → terms.aachen ≡ false → before ≡ flat_before t counts old → BicycleCharge t counts a old paid (terms.flat.0 - before)
    unfolding bicycle_charge
    bicycle-flat common is =
        let kind : is_aachen t new ≡ false = sym asked.kind ∙ common in
        record { value = rw (← cover.value, kind, asked.flat, is); range = omega (arith, asked.range) }

    pub bicycle_fits : {before : ℕ} → old ≤ counts.areas → terms.aachen ≡ false → before ≡ flat_before t counts old → before ≤ terms.flat.0
    bicycle_fits known common is = omega (arith, asked.flat, flat_before_most known cover (sym asked.kind ∙ common))

  pub bicycle_most : (old paid : ℕ) → old ≤ counts.areas → bicycle_charge t counts a old paid ≤ most_money
  unfolding bicycle_charge payment
  bicycle_most old paid known =
      let f = faultless t counts read in
      let new = new_cover t counts a old in
      let flat : flat_of t new ≤ most_money = omega (arith, (f.area new (cover_there f a old here known)).bicycle-flat, area_flat t new) in
      go new (is_aachen t new) flat
    where
      go :
          (new : ℕ) (kind : Bool) → flat_of t new ≤ most_money
          → cond kind (min (bicycle_price_of t new) (flat_of t new - paid)) (flat_of t new - flat_before t counts old) ≤ most_money
      go new true flat = omega arith
      go new false flat = omega arith

-- The payments with one more are no more than the cap, or than they were: so they stay in their range.
module _ {t : List ℕ} {counts : Counts} (f : FaultlessTariff t counts) (cover : ℕ) (there : cover < counts.areas) where
  pub payment_most : (paid : ℕ) → paid ≤ most_paid → paid + payment t counts cover paid ≤ most_paid
  unfolding payment
  payment_most paid small = omega (arith, (f.area cover there).bicycle-flat, area_flat t cover)

  pub paid_with_most : (paid : ℕ) → paid ≤ most_paid → paid_with t counts cover paid ≤ most_paid
  unfolding paid_with
  paid_with_most paid small = go (is_aachen t cover)
    where
      go : (kind : Bool) → cond kind (paid + payment t counts cover paid) paid ≤ most_paid
      go true = payment_most paid small
      go false = small

  pub paid_terms : {terms : Terms} {paid r : ℕ} → TermsOf t counts cover terms → paid ≤ most_paid → r ≡ paid_by terms paid → PaidWith t counts cover paid r
  unfolding paid_with payment
  paid_terms {terms} {paid} asked small e =
      let same = e ∙ go terms.aachen asked.kind in
      record { value = same; range = rw same (paid_with_most paid small) }
    where
      go : (kind : Bool) → kind ≡ is_aachen t cover → cond kind (paid + pay_by terms paid) paid ≡ paid_with t counts cover paid
      go true is = rw (← is, asked.price (sym is), asked.flat)
      go false is = rw (← is)

-- Where a bicycle has the words of the bicycle before it, what is held of that one's words holds of its own.
pub record HeldAgain (Held : ℕ → ℕ → Type 0) (old paid old' paid' : ℕ) : Type 0 where
  pub cover : old' ≡ old
  pub payments : paid' ≡ paid
  pub held : Held old paid

pub held_again :
    (Held : ℕ → ℕ → Type 0) (old paid old' paid' : ℕ) {areas : ℕ} → (eqb old old' && eqb paid paid') ≡ true
    → old ≤ areas → (old' ≤ areas → Held old' paid') → HeldAgain Held old paid old' paid'
held_again Held old paid old' paid' same known right =
    let e = eqb-true old old' (both_left (eqb old old') (eqb paid paid') same) in
    let e' = eqb-true paid paid' (both_right (eqb old old') (eqb paid paid') same) in
    record { cover = sym e; payments = sym e'; held = rw (e, e') (right (omega (arith, e))) }
