-- The farthest change: the definition, which goes from change to change, finds the one that the words name, and there is no other.
-- Assumes nothing.
use Prim.Native.Nat.{ℕ, zero, suc, ◌+◌, ◌-◌, ◌≤◌, ◌<◌}
use native.Mathlib.Nat.{le_refl}
use native.Mathlib.Omega.{arith}
use native.Mathlib.Decide.{ℕ_discrete, dec_lt}
use mathlib.Core.Path.{◌≡◌, refl}
use mathlib.Core.Bool.{Bool, true, false, cond}
use mathlib.Core.List.{List}
use borrow.Author.Tests.{ltb-true, ltb-false}
use lib.Dec.{ltb}
use Rattle.layout.specs.declared.Counts.{Counts}
use Rattle.layout.specs.declared.Stop.{Stop}
use Rattle.fare.specs.Parts.{away, farther, farthest, FarthestChange}
use Rattle.fare.specs.Clauses.{StopOf, SquaredBetween}

-- How far a stop is away, from the two stops as they were found.
pub away_is :
    {tariff : List ℕ} {counts : Counts} {bytes : List ℕ} {i : ℕ} {from to : Stop} {r : ℕ} → StopOf tariff counts bytes 0 from
    → StopOf tariff counts bytes i to → SquaredBetween from to r → r ≡ away tariff counts bytes i
unfolding away
away_is one other far = rw (far.value, one.value, other.value)

module _ (tariff : List ℕ) (counts : Counts) (bytes : List ℕ) where
  abbrev far : ℕ → ℕ
  far = away tariff counts bytes

  abbrev Farthest : ℕ → ℕ → Type 0
  Farthest = FarthestChange tariff counts bytes

  -- the only change of three stops
  pub one_change : Farthest 2 1
  one_change =
      record {
        after_first = omega arith;
        before_last = omega arith;
        greatest = λ i h h'. let e : i ≡ 1 = omega arith in rw e (le_refl _);
        first = λ i h h'. absurd (omega arith);
      }

  -- A change more: one that is farther away is the farthest, and one that is not leaves the farthest as it is.
  module _ (last c : ℕ) (so_far : Farthest last c) where
    pub gone_farther : away tariff counts bytes c < away tariff counts bytes last → Farthest (last + 1) last
    gone_farther more =
        record {
          after_first = omega (arith, so_far.after_first, so_far.before_last);
          before_last = omega arith;
          greatest = λ i h h'.
              elim (ℕ_discrete i last) [
                | yes e ↦ rw e (le_refl _)
                | no ne ↦ omega (arith, so_far.greatest i h (omega arith))
              ];
          first = λ i h h'. omega (arith, so_far.greatest i h h');
        }

    pub no_farther : away tariff counts bytes last ≤ away tariff counts bytes c → Farthest (last + 1) c
    no_farther less =
        record {
          after_first = so_far.after_first;
          before_last = omega (arith, so_far.before_last);
          greatest = λ i h h'.
              elim (ℕ_discrete i last) [
                | yes e ↦ rw e less
                | no ne ↦ so_far.greatest i h (omega arith)
              ];
          first = so_far.first;
        }

  -- A turn of the search, which keeps the farthest change so far and how far it is away.
  module _ {i c here next : ℕ} (so_far : Farthest i c) (is : here ≡ far c) (is' : next ≡ far i) {change away' : ℕ} where
    pub turn_farther : here < next → change ≡ i → away' ≡ next → Farthest (i + 1) change × (away' ≡ away tariff counts bytes change)
    turn_farther more e e' = (rw e (gone_farther i c so_far (omega arith)), rw (e, e', is'))

    pub turn_no_farther : next ≤ here → change ≡ c → away' ≡ here → Farthest (i + 1) change × (away' ≡ away tariff counts bytes change)
    turn_no_farther less e e' = (rw e (no_farther i c so_far (omega arith)), rw (e, e', is))

  -- There is one farthest change.
  pub farthest_unique : (last c d : ℕ) → Farthest last c → Farthest last d → c ≡ d
  farthest_unique last c d one other =
      elim (dec_lt c d) [
        | yes less ↦
            absurd (omega (arith, other.first c one.after_first less, one.greatest d other.after_first other.before_last))
        | no not-less ↦
            elim (dec_lt d c) [
              | yes less ↦
                  absurd (omega (arith, one.first d other.after_first less, other.greatest c one.after_first one.before_last))
              | no not-less' ↦ omega arith
            ]
      ]

  -- The definition's change is the farthest of the first change and those after it;
  farthest_of : (more : ℕ) → Farthest (2 + more) (farthest tariff counts bytes more)
  unfolding farthest farther
  farthest_of zero = one_change
  farthest_of (suc more) = go (ltb (far (farthest tariff counts bytes more)) (far (2 + more))) refl (farthest_of more)
    where
      go : (b : Bool) → ltb (far (farthest tariff counts bytes more)) (far (2 + more)) ≡ b
          → Farthest (2 + more) (farthest tariff counts bytes more)
          → Farthest (2 + suc more) (cond b (2 + more) (farthest tariff counts bytes more))
      go true e so_far =
          let place : 2 + more + 1 ≡ 2 + suc more = omega arith in
          rw place at (gone_farther (2 + more) _ so_far (ltb-true _ _ e))
      go false e so_far =
          let place : 2 + more + 1 ≡ 2 + suc more = omega arith in
          rw place at (no_farther (2 + more) _ so_far (ltb-false _ _ e))

  -- so of all the trip's changes.
  pub farthest_change : (last : ℕ) → 2 ≤ last → Farthest last (farthest tariff counts bytes (last - 2))
  farthest_change last some =
      let e : 2 + (last - 2) ≡ last = omega arith in
      rw e at (farthest_of (last - 2))

  -- And the farthest change is the definition's.
  pub farthest_is : (last c : ℕ) → Farthest last c → c ≡ farthest tariff counts bytes (last - 2)
  farthest_is last c is = farthest_unique last _ _ is (farthest_change last (omega (arith, is.after_first, is.before_last)))
