-- What the value rules give: an area whose values are right has each in its range and has its rank, a factor record and a stop have their
-- ranges.
-- Assumes nothing.
use Prim.Native.Nat.{ℕ, zero, suc, ◌≤◌, ◌<◌}
use native.Mathlib.Omega.{arith}
use native.Mathlib.Decide.{ℕ_discrete}
use mathlib.Core.Path.{◌≡◌, refl, ap}
use mathlib.Core.Bool.{true, cond, ◌&&◌, ◌||◌}
use mathlib.Core.List.{List}
use borrow.Author.Tests.{leb-true, eqb-true, eq-eqb, ne_eqb}
use lib.Dec.{leb, ltb, eqb}
use Rattle.wire.proofs.Tests.{told, one_of, one_of_three}
use Rattle.layout.specs.declared.Counts.{Counts}
use Rattle.layout.specs.declared.Factor.{Factor}
use Rattle.layout.specs.declared.fields.AreaFields.{AreaFields}
use Rattle.layout.specs.declared.fields.LongFields.{LongFields}
use Rattle.layout.specs.Layout.{aachen_kind, area_place, stop_place, areas_before}
use Rattle.layout.specs.Fields.{area_fields, long_fields, stop_fields}
use Rattle.layout.specs.Rules.{
  trip_cap_right,
  money,
  unused,
  caps_right,
  tickets_unused,
  tickets_right,
  long_right,
  place_right,
  factor_right,
  stop_right,
  area_right,
  level_of,
  flat_of,
  kind_of,
}
use Rattle.areas.specs.Areas.{
  cap_of,
  trip_cap_of,
  child_ticket_of,
  town_of,
  kind_with,
  day_cap_of,
  area_of,
  area_at,
  stop_at,
  TripCapRange,
  DayCapRange,
  TownRange,
  KindRange,
  AreaRanges,
  AreaRank,
  state,
  region,
  city,
  FactorRanges,
  StopRanges,
}

-- Each sort's own numbers are in their ranges.
module _ (sort minutes k a b c d : ℕ) where
  no_cap_range : sort ≡ 0 → TripCapRange (cap_of sort minutes k a b c d)
  unfolding cap_of
  no_cap_range e = rw e tt

  flat_range : sort ≡ 1 → (k ≤ 60000) × (30 ≤ minutes) × (minutes ≤ 1440) → TripCapRange (cap_of sort minutes k a b c d)
  unfolding cap_of
  flat_range e h = rw e h

  by_level_range :
      sort ≡ 2 → (k ≤ 60000) × (a ≤ 60000) × (b ≤ 60000) × (c ≤ 60000) × (d ≤ 60000) → TripCapRange (cap_of sort minutes k a b c d)
  unfolding cap_of
  by_level_range e h = rw e h

module _ (f : AreaFields) where
  trip_cap_range : trip_cap_right f ≡ true → TripCapRange (trip_cap_of f)
  unfolding trip_cap_of
  trip_cap_range e =
      let first = eqb f.sort 0 && eqb f.cap1 0 && eqb f.cap2 0 && unused f in
      one_of_three first _ _ e
      (λ none. no_cap_range _ _ _ _ _ _ _ (search told depth 9))
      (λ flat. flat_range _ _ _ _ _ _ _ (search told depth 9) (search told depth 9))
      (λ levels. by_level_range _ _ _ _ _ _ _ (search told depth 9) (search told depth 9))

  -- under sort 1 the second field is minutes
  flat_minutes : trip_cap_right f ≡ true → f.sort ≡ 1 → (30 ≤ f.cap2) × (f.cap2 ≤ 1440)
  flat_minutes e is =
      let first = eqb f.sort 0 && eqb f.cap1 0 && eqb f.cap2 0 && unused f in
      one_of_three first _ _ e
      (λ none. let other : f.sort ≡ 0 = search told depth 9 in absurd (omega arith))
      (λ flat. search told depth 9)
      (λ levels. let other : f.sort ≡ 2 = search told depth 9 in absurd (omega arith))

  -- a child ticket's, with the adult's minutes
  child_ticket_range : (g : LongFields) → trip_cap_right f ≡ true → tickets_right f g ≡ true → TripCapRange (child_ticket_of f g)
  unfolding child_ticket_of
  child_ticket_range g adult e =
      let first = eqb f.sort 0 && eqb g.child1 0 && tickets_unused g in
      one_of_three first _ _ e
      (λ none. no_cap_range _ _ _ _ _ _ _ (search told depth 9))
      (λ flat.
      let is : f.sort ≡ 1 = search told depth 9 in
      let amount : g.child1 ≤ 60000 = search told depth 9 in
      let (least, most) = flat_minutes adult is in
      flat_range _ _ _ _ _ _ _ is (amount, least, most))
      (λ levels. by_level_range _ _ _ _ _ _ _ (search told depth 9) (search told depth 9))

-- A town mark that is not 0 is a city's.
town_range : (mark level : ℕ) → eqb mark 0 || leb mark 2 && eqb level 2 ≡ true → TownRange level (town_of mark)
unfolding town_of
town_range mark level e =
    one_of (eqb mark 0) (leb mark 2 && eqb level 2) e (λ none. rw (eqb-true mark 0 none) tt) (λ marked. of_city (search told))
  where
    of_city : level ≡ 2 → TownRange level (town_of mark)
    of_city is =
        elim (ℕ_discrete mark 1) [
          | yes base ↦ rw base is
          | no not-base ↦
              elim (ℕ_discrete mark 2) [ yes km ↦ rw km is | no not-km ↦ rw (ne_eqb mark 1 not-base, ne_eqb mark 2 not-km) tt ]
        ]

-- A day cap is an amount of money, or none.
day_cap_range : (n : ℕ) → money n || eqb n 65535 ≡ true → DayCapRange (day_cap_of n)
unfolding day_cap_of
day_cap_range n e = one_of _ _ e (λ t. amount (leb-true n 60000 t)) (λ t. rw t tt)
  where
    amount : n ≤ 60000 → DayCapRange (day_cap_of n)
    amount h = rw (ne_eqb n 65535 (λ same. omega arith)) h

-- What kind 8 has besides is in its ranges.
kind_range :
    (kind : ℕ) (f : AreaFields) (g : LongFields) → trip_cap_right f ≡ true → cond (eqb kind aachen_kind) (long_right f g) true ≡ true
    → KindRange f.level (kind_with kind f g)
unfolding kind_with long_right
kind_range kind f g adult e =
    elim (ℕ_discrete kind aachen_kind) [
      | yes is ↦
          let e' = rw (eq-eqb kind aachen_kind is) at e in
          rw (eq-eqb kind aachen_kind is)
          (child_ticket_range f g adult (search told depth 9), search told depth 9, town_range g.town f.level (search told depth 9))
      | no never ↦ rw (ne_eqb kind aachen_kind never) tt
    ]

-- An area whose values are right has each in its range.
pub area_ranges :
    (b : List ℕ) (so_far : Counts) (kind : ℕ) (f : AreaFields) (g : LongFields) → area_right b so_far kind f g ≡ true
    → AreaRanges (area_of f (kind_with kind f g))
unfolding area_of caps_right
area_ranges b so_far kind f g e =
    record {
      base-price = search told depth 9;
      price-per-km = search told depth 9;
      valid_least = search told depth 9;
      valid_most = search told depth 9;
      surcharge = search told depth 9;
      reduction = search told depth 9;
      trip-cap = trip_cap_range f (search told depth 9);
      day-cap = day_cap_range f.day_cap (search told depth 9);
      bicycle-flat = search told depth 9;
      kind = kind_range kind f g (search told depth 9) (search told depth 9);
    }

-- what has level 1 is not area 0
not_state : (b : List ℕ) (r : ℕ) → level_of b 0 ≡ 0 → level_of b r ≡ 1 → 0 < r
not_state b zero top level = omega arith
not_state b (suc r) top level = omega arith

-- An area whose values are right has its rank, where area 0 has level 0.
pub area_rank :
    (b : List ℕ) (number : ℕ) → level_of b 0 ≡ 0
    → area_right b (areas_before b number) (kind_of b number) (area_fields b (area_place b number)) (long_fields b (area_place b number)) ≡ true
    → AreaRank b number
unfolding area_at area_of place_right
area_rank b number top e =
    elim (ℕ_discrete number 0) [
      | yes is ↦
          let e' = rw (eq-eqb number 0 is) at e in
          state is (search told) (search told) (search told)
      | no some ↦
          let e' = rw (ne_eqb number 0 some) at e in
          let f = area_fields b (area_place b number) in
          let kind = kind_of b number in
          let own = f.bicycle_flat in
          let above = flat_of b f.parent in
          let flat : eqb f.level 1 && eqb kind aachen_kind || leb own above ≡ true = search told in
          one_of (eqb f.level 1 && eqb f.parent 0)
          (eqb f.level 2 && eqb (level_of b f.parent) 1 && eqb (kind_of b f.parent) kind) (search told)
          (λ is.
          let parent : f.parent ≡ 0 = search told in
          region (omega arith) (search told) parent
          (λ common.
          one_of (eqb f.level 1 && eqb kind aachen_kind) (leb own above) flat
          (λ free. let long : kind ≡ aachen_kind = search told in absurd (omega arith))
          (λ most. omega (arith, leb-true own above most, ap (flat_of b) parent))))
          (λ is.
          let level : level_of b f.parent ≡ 1 = search told in
          let high : f.level ≡ 2 = search told in
          city f.parent (not_state b f.parent top level) (search told) high refl level (search told)
          (one_of (eqb f.level 1 && eqb kind aachen_kind) (leb own above) flat
          (λ free. let other : f.level ≡ 1 = search told in absurd (omega arith)) (leb-true own above)))
    ]

-- A factor record whose values are right has them in their ranges: a mark of 1 is not the first one's.
pub factor_ranges : (f : Factor) (number : ℕ) → factor_right f number ≡ true → FactorRanges number f
factor_ranges f number e =
    let marks : eqb f.mark 0 || eqb f.mark 1 && ltb 0 number ≡ true = search told in
    record {
      least = search told;
      most = search told;
      mark = one_of _ _ marks (λ none. omega (arith, eqb-true f.mark 0 none)) (λ marked. let one : f.mark ≡ 1 = search told in omega arith);
      state_mark = λ first.
          one_of _ _ marks (λ none. eqb-true f.mark 0 none) (λ marked. let later : 0 < number = search told in absurd (omega arith));
    }

-- A stop whose values are right has them in their ranges.
pub stop_ranges :
    (b : List ℕ) (counts : Counts) (j : ℕ) → stop_right (stop_fields b (stop_place counts j)) counts.areas ≡ true
    → StopRanges counts.areas (stop_at b counts j)
unfolding stop_at
stop_ranges b counts j e = search told
