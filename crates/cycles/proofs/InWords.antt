-- A bicycle's new covering area and charge in the rules' words: what is computed is what the words say, and they say one area alone.
-- Assumes nothing.
use Prim.Native.Nat.{ℕ, ◌+◌, ◌-◌, ◌≤◌, ◌<◌}
use native.Mathlib.Omega.{arith}
use native.Mathlib.Decide.{ℕ_discrete, dec_lt}
use mathlib.Core.Path.{◌≡◌, sym, subst, ◌∙◌}
use mathlib.Core.Bool.{true, false}
use mathlib.Core.List.{List}
use borrow.Author.Tests.{eq-eqb, ne_eqb}
use Rattle.layout.specs.declared.Counts.{Counts}
use Rattle.layout.specs.Rules.{flat_of}
use Rattle.areas.specs.Areas.{lies_within, smallest_of, is_aachen, bicycle_price_of, FaultlessTariff}
use Rattle.areas.proofs.Within.{within_antisym, within_refl, common-kind, flat_within, smallest}
use Rattle.cycles.specs.Bicycles.{new_cover, payment, bicycle_charge}
use Rattle.cycles.specs.InWords.{CoverSays, PerTrip, BicycleSays}
use Rattle.cycles.proofs.BicycleLaws.{before_none, before_paid, before_flat}

-- The smaller of the price per trip and what the cap has left is such a payment, and there is no other.
pub per_trip_says : (tariff : List ℕ) (counts : Counts) (cover paid : ℕ) → PerTrip tariff counts cover paid (payment tariff counts cover paid)
unfolding payment
per_trip_says tariff counts cover paid =
    record {
      at_most_price = omega arith;
      within_cap = λ h. omega arith;
      full = λ h less. omega arith;
      passed = λ h. omega arith;
    }

pub per_trip_one :
    {tariff : List ℕ} {counts : Counts} {cover paid charge : ℕ} → PerTrip tariff counts cover paid charge → charge ≡ payment tariff counts cover paid
unfolding payment
per_trip_one {tariff} {counts} {cover} {paid} {charge} s =
    elim (dec_lt (flat_of tariff cover) paid) [
      | yes past ↦ omega (arith, s.passed past)
      | no under ↦
          elim (dec_lt charge (bicycle_price_of tariff cover)) [
            | yes less ↦ omega (arith, s.full (omega arith) less)
            | no whole ↦ omega (arith, s.at_most_price, s.within_cap (omega arith))
          ]
    ]

module _ {tariff : List ℕ} {counts : Counts} (t : FaultlessTariff tariff counts) where
  -- A bicycle's new covering area is the smallest containing the trip's area and its old covering area, if any.
  pub cover_says : (area old : ℕ) → area < counts.areas → old ≤ counts.areas → CoverSays tariff counts area old (new_cover tariff counts area old)
  unfolding new_cover
  cover_says area old here known =
      elim (ℕ_discrete old 0) [
        | yes none ↦
            rw (eq-eqb old 0 none)
            (record {
              there = here;
              contains = record { trips = within_refl tariff area; olds = λ inner is. absurd (omega arith) };
              least = λ outer both. both.trips;
            })
        | no used ↦
            let s = smallest t area (old - 1) here (omega arith) in
            rw (ne_eqb old 0 used)
            (record {
              there = s.there;
              contains = record {
                trips = s.one;
                olds = λ inner is.
                    let same : old - 1 ≡ inner = omega arith in
                    subst (λ (a : ℕ). lies_within tariff a (smallest_of tariff area (old - 1)) ≡ true) same s.other;
              };
              least = λ outer both. s.least outer both.trips (both.olds (old - 1) (omega arith));
            })
      ]

  -- There is no other.
  pub cover_one : {area old new new' : ℕ} → CoverSays tariff counts area old new → CoverSays tariff counts area old new' → new ≡ new'
  cover_one {new = new} {new' = new'} s s' =
      within_antisym t new new' s.there s'.there (s.least new' s'.contains) (s'.least new s.contains)

  -- the new covering area contains the old one: so where both are of kind 1, its flat is at least the old one's
  old_flat :
      (area old new inner : ℕ) → old ≤ counts.areas → CoverSays tariff counts area old new → is_aachen tariff new ≡ false → old ≡ 1 + inner
      → is_aachen tariff inner ≡ false → flat_of tariff inner ≤ flat_of tariff new
  old_flat area old new inner known s common is common' =
      let there : inner < counts.areas = omega arith in
      flat_within t inner new there (common-kind t new s.there common ∙ sym (common-kind t inner there common')) (s.contains.olds inner is)

  -- A bicycle's charge is what its new covering area says by its kind.
  pub bicycle_says :
      (area old paid : ℕ) → area < counts.areas → old ≤ counts.areas → BicycleSays tariff counts area old paid (bicycle_charge tariff counts area old paid)
  unfolding bicycle_charge
  bicycle_says area old paid here known =
      let new = new_cover tariff counts area old in
      let covers = cover_says area old here known in
      record {
        new = new;
        covers = covers;
        per_trip = λ aachen. rw aachen (per_trip_says tariff counts new paid);
        by_flats = λ common.
            rw common
            (record {
              unused = λ none. rw (before_none tariff counts old none) (omega arith);
              per_trip_before = λ inner is aachen. rw (before_paid tariff counts old inner is aachen) (omega arith);
              flat-before = λ inner is other.
                  rw (before_flat tariff counts old inner is other) (omega (arith, old_flat area old new inner known covers common is other));
            });
      }
