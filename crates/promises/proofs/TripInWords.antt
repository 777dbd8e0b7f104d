-- The factor and the second row of 6 as they are tested are what their own words say: the factor is that of the only region that contains both
-- parts, or the state's; and where the trip's own area is a marked town, so is each of its parts'.
-- Assumes nothing.
use Prim.Native.Nat.{ℕ, ◌-◌, ◌<◌}
use native.Mathlib.Omega.{arith}
use native.Mathlib.Decide.{ℕ_discrete}
use mathlib.Core.Path.{◌≡◌, refl, sym, ap, subst, ◌∙◌}
use mathlib.Core.Logic.{◌↔◌}
use mathlib.Core.Bool.{Bool, true, false, cond}
use mathlib.Core.List.{List}
use borrow.Author.Tests.{eq-eqb, ne_eqb}
use lib.Dec.{eqb}
use Rattle.layout.specs.declared.Counts.{Counts}
use Rattle.layout.specs.declared.Factor.{Factor}
use Rattle.layout.specs.Rules.{level_of, wide_areas}
use Rattle.areas.specs.Areas.{parent_of, factor_at, lies_within, smallest_of, is_aachen, town_at, FaultlessTariff}
use Rattle.areas.specs.Factors.{region_of, factor_of}
use Rattle.areas.proofs.Faultless.{faultless}
use Rattle.areas.proofs.Within.{area_level, area_aachen, within_cases, within_parent, above_of, parent_there, within_most, within_trans, smallest}
use Rattle.trip.specs.declared.Trip.{Trip}
use Rattle.fare.specs.declared.Breaking.{Breaking}
use Rattle.fare.specs.declared.Breaking.TheVariants.{Unbroken, At}
use Rattle.fare.specs.Rides.{last_of, area_of_stops, ride_between, ride_of}
use Rattle.fare.specs.Parts.{break_of, first_part, rides_of}
use Rattle.fare.specs.Towns.{town_refuses, MarkedTown, base_dropped, km_dropped, SomeRide, this_ride}
use Rattle.fare.specs.Clauses.{Riding}
use Rattle.fare.proofs.Stops.{area-of-stops}
use Rattle.fare.proofs.Breaks.{broken_between}
use Rattle.fare.proofs.PartLaws.{parts_area, one_ride, two_rides}
use Rattle.fare.proofs.TownLaws.{refused_says, said_refused}
use Rattle.promises.specs.TripInWords.{
  RegionOfBoth,
  HoldsForBoth,
  the-region,
  the-state,
  FactorForBoth,
  InSuchTown,
  the-trip,
  a_part,
  FirstClassOfTrip,
}

module _ {tariff : List ℕ} {counts : Counts} (t : FaultlessTariff tariff counts) where
  -- the state has level 0
  state_level : {a : ℕ} → a < counts.areas → level_of tariff (parent_of tariff (parent_of tariff a)) ≡ 0
  state_level {a} h =
      let one = above_of t a h in
      let two = above_of t (parent_of tariff a) (parent_there t a h) in
      omega (arith, one.level, one.level_up, two.level_up)

  -- a region that contains an area is the area itself or the one above it
  module _ {a r : ℕ} (h : a < counts.areas) (level : level_of tariff r ≡ 1) (inside : lies_within tariff a r ≡ true) where
    own_region : (level_of tariff a ≡ 2 → parent_of tariff a ≡ r) × ((level_of tariff a ≡ 2 → ⊥) → a ≡ r)
    own_region =
        let up = (above_of t a h).level_up in
        let top = state_level h in
        within_cases tariff a r inside
        (λ is. (λ city. absurd (omega (arith, city, ap (level_of tariff) is, level)), λ other. is))
        (λ is. (λ city. is, λ other. absurd (other (omega (arith, up, ap (level_of tariff) is, level)))))
        (λ is. absurd (omega (arith, top, ap (level_of tariff) is, level)))

  -- ---- The factor.

  module _ {one other : ℕ} (h : one < counts.areas) where
    -- The region that contains both is the only one.
    pub region_only : {r r' : ℕ} → RegionOfBoth tariff counts one other r → RegionOfBoth tariff counts one other r' → r ≡ r'
    region_only a b =
        let first = own_region h a.level a.contains_one in
        let second = own_region h b.level b.contains_one in
        elim (ℕ_discrete (level_of tariff one) 2) [
          | yes city ↦ sym (first.0 city) ∙ second.0 city
          | no more ↦ sym (first.1 more) ∙ second.1 more
        ]

    pub holds_only : {r r' : ℕ} → HoldsForBoth tariff counts one other r → HoldsForBoth tariff counts one other r' → r ≡ r'
    holds_only (the-region a) (the-region b) = region_only a b
    holds_only (the-region a) (the-state none) = absurd (none _ a)
    holds_only (the-state none) (the-region b) = absurd (none _ b)
    holds_only (the-state none) (the-state none') = refl

    pub factor_only : {f f' : Factor} → FactorForBoth tariff counts one other f → FactorForBoth tariff counts one other f' → f ≡ f'
    factor_only a b = a.is ∙ ap (λ (r : ℕ). factor_at tariff counts (wide_areas tariff r)) (holds_only a.holds b.holds) ∙ sym b.is

    -- The region of the smallest area that contains both is it.
    holds_smallest : other < counts.areas → HoldsForBoth tariff counts one other (region_of tariff (smallest_of tariff one other))
    unfolding region_of
    holds_smallest h' = go (ℕ_discrete (level_of tariff area) 2) (ℕ_discrete (level_of tariff area) 1)
      where
        area : ℕ
        area = smallest_of tariff one other

        go :
            Dec (level_of tariff (smallest_of tariff one other) ≡ 2) → Dec (level_of tariff (smallest_of tariff one other) ≡ 1)
            → HoldsForBoth tariff counts one other
            (cond (eqb (level_of tariff (smallest_of tariff one other)) 2) (parent_of tariff (smallest_of tariff one other))
            (smallest_of tariff one other))
        go (yes city) _ =
            let s = smallest t one other h h' in
            let a = smallest_of tariff one other in
            let there : a < counts.areas = rw (← s.value) s.there in
            let up = within_parent tariff a (parent_of tariff a) refl in
            rw (eq-eqb (level_of tariff a) 2 city)
            (the-region
            (record {
              there = parent_there t a there;
              level = omega (arith, (above_of t a there).level_up, city);
              contains_one = within_trans t one a (parent_of tariff a) h s.one up;
              contains_other = within_trans t other a (parent_of tariff a) h' s.other up;
            }))
        go (no more) (yes region) =
            let s = smallest t one other h h' in
            let a = smallest_of tariff one other in
            rw (ne_eqb (level_of tariff a) 2 more)
            (the-region (record { there = s.there; level = region; contains_one = s.one; contains_other = s.other }))
        go (no more) (no less) =
            let s = smallest t one other h h' in
            let a = smallest_of tariff one other in
            let above = above_of t a s.there in
            let state : a ≡ 0 = above.state_only (omega (arith, above.level, more, less)) in
            rw (ne_eqb (level_of tariff a) 2 more, state)
            (the-state
            (λ region both.
            let inside = s.least region both.contains_one both.contains_other in
            let most = within_most t a region s.there inside in
            let same : region ≡ a = omega (arith, most, state) in
            less (ap (level_of tariff) (sym same) ∙ both.level)))

-- The factor of a trip is that of its two parts, wherever it is broken.
pub factor_of_parts :
    {tariff : List ℕ} {counts : Counts} {bytes : List ℕ} {n : ℕ} (riding : Riding tariff counts bytes n) (c : ℕ) → c < n
    → FactorForBoth tariff counts (area_of_stops tariff counts bytes 0 (c - 0)) (area_of_stops tariff counts bytes c (n - 1 - c))
    (factor_of tariff counts (area_of_stops tariff counts bytes 0 (n - 1 - 0)))
unfolding factor_of
factor_of_parts {tariff} {counts} {bytes} {n} riding c inside =
    let t = faultless tariff counts riding.read in
    let one = (area-of-stops riding 0 (c - 0) (omega arith)).there in
    let other = (area-of-stops riding c (n - 1 - c) (omega arith)).there in
    record {
      whose = _;
      holds = holds_smallest t one other;
      is = ap (λ (a : ℕ). factor_at tariff counts (wide_areas tariff (region_of tariff a))) (sym (parts_area riding c inside));
    }

-- ---- First class.

module _ {tariff : List ℕ} {counts : Counts} {bytes : List ℕ} (trip : Trip) (riding : Riding tariff counts bytes trip.stops) where
  abbrev t : FaultlessTariff tariff counts
  t = faultless tariff counts riding.read

  -- a marked town is a city
  town_city : {a : ℕ} → a < counts.areas → MarkedTown tariff counts a → level_of tariff a ≡ 2
  unfolding town_at
  town_city {a} h marked = by_kind (is_aachen tariff a) refl
    where
      ranged : is_aachen tariff a ≡ true → MarkedTown tariff counts a → level_of tariff a ≡ 2
      ranged is (base_dropped e) =
          let range = rw (area_aachen tariff a is, e, area_level tariff a) at (t.area a h).kind in range.2
      ranged is (km_dropped e) =
          let range = rw (area_aachen tariff a is, e, area_level tariff a) at (t.area a h).kind in range.2

      by_kind : (is : Bool) → is_aachen tariff a ≡ is → level_of tariff a ≡ 2
      by_kind true is = ranged is marked
      by_kind false is = absurd (none marked)
        where
          none : MarkedTown tariff counts a → ⊥
          none (base_dropped e) = let z : ◌≡◌ {A = ℕ} 0 1 = cc (rw is at e) in omega arith
          none (km_dropped e) = let z : ◌≡◌ {A = ℕ} 0 1 = cc (rw is at e) in omega arith

  -- what lies within a city is the city
  city_alone : {a city : ℕ} → a < counts.areas → level_of tariff city ≡ 2 → lies_within tariff a city ≡ true → a ≡ city
  city_alone {a} {city} h level inside =
      within_cases tariff a city inside (λ is. is)
      (λ is. absurd (omega (arith, (above_of t a h).level, (above_of t a h).level_up, ap (level_of tariff) is, level)))
      (λ is. absurd (omega (arith, state_level t h, ap (level_of tariff) is, level)))

  -- so where the trip's area is a marked town, its first part's is, or it is the trip's only ride
  part_too :
      MarkedTown tariff counts (area_of_stops tariff counts bytes 0 (last_of trip - 0))
      → SomeRide (λ ride. MarkedTown tariff counts ride.area) (rides_of tariff counts bytes trip)
  unfolding ride_of first_part ride_between
  part_too marked = go (break_of tariff counts bytes trip.stops) refl
    where
      go :
          (b : Breaking) → break_of tariff counts bytes trip.stops ≡ b
          → SomeRide (λ ride. MarkedTown tariff counts ride.area) (rides_of tariff counts bytes trip)
      go (Unbroken) e = rw (one_ride tariff counts bytes trip e) (this_ride marked)
      go (At c) e =
          let (some, before) = broken_between riding c e in
          let whole = area-of-stops riding 0 (last_of trip - 0) (omega arith) in
          let first = area-of-stops riding 0 (c - 0) (omega arith) in
          let city = town_city whole.there marked in
          let inside = first.least _ (λ i low high. whole.contains i low (omega arith)) in
          let same = city_alone first.there city inside in
          rw (two_rides tariff counts bytes trip c e) (this_ride {ride = first_part tariff counts bytes trip c} (subst (MarkedTown tariff counts) (sym same) marked))

  -- The second row of 6, of a trip whose stops the tariff has, is exactly that the trip is in first class, and its own area or that of one of its
  -- parts is a marked town.
  pub first_class_exactly : town_refuses tariff counts bytes trip ≡ true ↔ FirstClassOfTrip tariff counts bytes trip
  first_class_exactly = (
    λ e.
        let says = refused_says tariff counts bytes trip e in record { first_class = says.first_class; in-town = a_part says.in-town },
    λ says. said_refused tariff counts bytes trip (record { first_class = says.first_class; in-town = met says.in-town }),
  )
    where
      met : InSuchTown tariff counts bytes trip → SomeRide (λ ride. MarkedTown tariff counts ride.area) (rides_of tariff counts bytes trip)
      met (the-trip marked) = part_too marked
      met (a_part there) = there
