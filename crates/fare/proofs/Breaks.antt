-- Where a trip is broken: the definition says what the rule's words say, both ways, so there is at most one place. Nothing inside one city
-- whose region has the mark 1 is broken, and no trip of two stops.
-- Assumes nothing.
use Prim.Native.Nat.{ℕ, ◌+◌, ◌-◌, ◌*◌, ◌≤◌, ◌<◌}
use native.Mathlib.Nat.{zero-add, sub-zero, mul-le-mul, mul-le-mul_right}
use native.Mathlib.Omega.{arith}
use mathlib.Core.Path.{◌≡◌, refl, sym, ap, ◌∙◌}
use mathlib.Core.Bool.{Bool, true, false, cond, ◌&&◌, ◌||◌, or-true, false≢true}
use mathlib.Core.List.{List}
use borrow.Author.Tests.{ltb-true, ltb-false, lt-ltb, le-ltb, eqb-true, eq-eqb}
use lib.Dec.{ltb, eqb}
use Rattle.wire.proofs.Tests.{both_left, both_right, one_of}
use Rattle.layout.specs.declared.Counts.{Counts}
use Rattle.layout.specs.declared.Stop.{Stop}
use Rattle.layout.specs.Rules.{level_of}
use Rattle.areas.specs.Areas.{parent_of, lies_within, FaultlessTariff}
use Rattle.areas.specs.Factors.{is_city, factor_of}
use Rattle.areas.proofs.Faultless.{faultless}
use Rattle.areas.proofs.FactorLaws.{factor-of}
use Rattle.areas.proofs.Within.{within_cases, above_of, parent_there}
use Rattle.fare.specs.declared.Breaking.{Breaking}
use Rattle.fare.specs.declared.Breaking.TheVariants.{Unbroken, At}
use Rattle.fare.specs.Distance.{square, apart}
use Rattle.fare.specs.Rides.{stop_of, area_of_stops, AreaOfStops}
use Rattle.fare.specs.Parts.{
  farthest,
  FarthestChange,
  kept_whole,
  comes_back,
  comes_back_from,
  break_of,
  InMarkedCity,
  ComesBack,
  same_point,
  nearer,
  BrokenAt,
}
use Rattle.fare.specs.Clauses.{Riding, BreakOf}
use Rattle.fare.proofs.Stops.{area-of-stops}
use Rattle.fare.proofs.Changes.{farthest_unique, farthest_change, farthest_is}

-- Coming back, as a test and in words.
module _ (first last change : Stop) (f : ℕ) where
  pub back_says : comes_back first last change f ≡ true → ComesBack first last change f
  unfolding comes_back
  back_says e =
      one_of (eqb first.x.0 last.x.0 && eqb first.y.0 last.y.0) _ e
      (λ both.
      same_point (eqb-true _ _ (both_left (eqb first.x.0 last.x.0) (eqb first.y.0 last.y.0) both))
      (eqb-true _ _ (both_right (eqb first.x.0 last.x.0) (eqb first.y.0 last.y.0) both)))
      (λ far. nearer (ltb-true _ _ far))

  pub said_back : ComesBack first last change f → comes_back first last change f ≡ true
  unfolding comes_back
  said_back (same_point x y) = rw (eq-eqb first.x.0 last.x.0 x, eq-eqb first.y.0 last.y.0 y)
  said_back (nearer far) =
      rw (lt-ltb (square f * apart first last) (apart first change) far)
      (or-true (eqb first.x.0 last.x.0 && eqb first.y.0 last.y.0))

-- A change exactly f times as far away as the last stop is not far enough.
pub exactly_not_back :
    (first last change : Stop) (f : ℕ) → apart first change ≡ square f * apart first last
    → (first.x.0 ≡ last.x.0 → first.y.0 ≡ last.y.0 → ⊥) → ComesBack first last change f → ⊥
exactly_not_back first last change f exactly elsewhere (same_point x y) = elsewhere x y
exactly_not_back first last change f exactly elsewhere (nearer far) = omega arith

-- No factor is below 1, and whoever comes back under a factor comes back under 1.
back_under_one : (first last change : Stop) (f : ℕ) → 1 ≤ f → ComesBack first last change f → ComesBack first last change 1
back_under_one first last change f least (same_point x y) = same_point x y
back_under_one first last change f least (nearer far) = nearer (omega (arith, far, mul-le-mul_right (apart first last) (mul-le-mul least least)))

-- Nothing but itself lies inside a city.
pub within_city :
    {tariff : List ℕ} {counts : Counts} → FaultlessTariff tariff counts → (a city : ℕ) → a < counts.areas
    → level_of tariff city ≡ 2 → lies_within tariff a city ≡ true → a ≡ city
within_city {tariff} {counts} t a city there level inside =
    let one = above_of t a there in
    let two = above_of t (parent_of tariff a) (parent_there t a there) in
    within_cases tariff a city inside (λ self. self)
    (λ parent. absurd (omega (arith, one.level, one.level_up, ap (level_of tariff) parent)))
    (λ top. absurd (omega (arith, one.level, one.level_up, two.level_up, ap (level_of tariff) top)))

-- Of a trip with n stops, each of which the faultless tariff has:
module _ {tariff : List ℕ} {counts : Counts} {bytes : List ℕ} {n : ℕ} (riding : Riding tariff counts bytes n) where
  abbrev whole : ℕ
  whole = area_of_stops tariff counts bytes 0 (n - 1)

  abbrev at : ℕ → Stop
  at = stop_of tariff counts bytes

  abbrev far : ℕ
  far = farthest tariff counts bytes (n - 1 - 2)

  whole_area : 1 ≤ n → AreaOfStops tariff counts bytes 0 (n - 1) whole
  whole_area some = rw zero-add at (area-of-stops riding 0 (n - 1) (omega arith))

  -- it is kept whole exactly where all its stops lie inside one city whose region has the mark 1
  pub kept_inside : 1 ≤ n → kept_whole tariff counts whole ≡ true → InMarkedCity tariff counts bytes n
  unfolding kept_whole
  kept_inside some e =
      record {
        city = whole;
        level = eqb-true _ _ (both_left (is_city tariff whole) (eqb (factor_of tariff counts whole).mark 1) e);
        inside = λ i h. (whole_area some).contains i (omega arith) (omega arith);
        mark = eqb-true _ _ (both_right (is_city tariff whole) (eqb (factor_of tariff counts whole).mark 1) e);
      }

  pub inside_kept : 1 ≤ n → InMarkedCity tariff counts bytes n → kept_whole tariff counts whole ≡ true
  unfolding kept_whole
  inside_kept some marked =
      let is = whole_area some in
      let same : whole ≡ marked.city =
      within_city (faultless tariff counts riding.read) whole marked.city is.there marked.level
      (is.least marked.city (λ i h h'. marked.inside i (omega arith)))
      in
      rw (same, eq-eqb (level_of tariff marked.city) 2 marked.level, eq-eqb (factor_of tariff counts marked.city).mark 1 marked.mark)

  -- where the words say that it is broken, the definition does;
  pub said_broken : (c : ℕ) → BrokenAt tariff counts bytes n c → break_of tariff counts bytes n ≡ At c
  unfolding break_of
  said_broken c is =
      let change = is.farthest_change in
      let three : 3 ≤ n = omega (arith, change.after_first, change.before_last) in
      let e = farthest_is tariff counts bytes (n - 1) c change in
      rw (
        le-ltb n 3 three,
        not_kept (kept_whole tariff counts whole) refl (omega arith),
        ← e,
        said_back (at 0) (at (n - 1)) (at c) (factor_of tariff counts whole).factor is.comes-back,
      )
    where
      not_kept : (kept : Bool) → kept_whole tariff counts whole ≡ kept → 1 ≤ n → kept_whole tariff counts whole ≡ false
      not_kept true kept some = absurd (is.not_kept (kept_inside some kept))
      not_kept false kept some = kept

  -- and where the definition says so, the words do.
  pub broken_says : (c : ℕ) → break_of tariff counts bytes n ≡ At c → BrokenAt tariff counts bytes n c
  unfolding break_of
  broken_says c = go (ltb n 3) (kept_whole tariff counts whole) (comes_back (at 0) (at (n - 1)) (at far) (factor_of tariff counts whole).factor) refl refl refl
    where
      go :
          (few kept back : Bool) → ltb n 3 ≡ few → kept_whole tariff counts whole ≡ kept
          → comes_back (at 0) (at (n - 1)) (at far) (factor_of tariff counts whole).factor ≡ back
          → cond (few || kept) Unbroken (cond back (At far) Unbroken) ≡ At c → BrokenAt tariff counts bytes n c
      go true kept back e e' e'' broken = absurd (let z : ◌≡◌ {A = ℕ} 0 1 = cc in omega arith)
      go false true back e e' e'' broken = absurd (let z : ◌≡◌ {A = ℕ} 0 1 = cc in omega arith)
      go false false false e e' e'' broken = absurd (let z : ◌≡◌ {A = ℕ} 0 1 = cc in omega arith)
      go false false true e e' e'' broken =
          let three : 3 ≤ n = ltb-false n 3 e in
          let is : far ≡ c = cc in
          record {
            farthest_change = rw is at (farthest_change tariff counts bytes (n - 1) (omega arith));
            not_kept = λ marked. false≢true (sym e' ∙ inside_kept (omega arith) marked);
            comes-back = rw is at (back_says _ _ _ _ e'');
          }

  -- It is unbroken exactly where the words say of no change that it is broken there.
  pub unbroken_says : break_of tariff counts bytes n ≡ Unbroken → (c : ℕ) → BrokenAt tariff counts bytes n c → ⊥
  unbroken_says whole-trip c is =
      let e = said_broken c is in
      let z : ◌≡◌ {A = ℕ} 0 1 = cc in omega arith

  pub said_unbroken : ((c : ℕ) → BrokenAt tariff counts bytes n c → ⊥) → break_of tariff counts bytes n ≡ Unbroken
  said_unbroken nowhere = go (break_of tariff counts bytes n) refl
    where
      go : (b : Breaking) → break_of tariff counts bytes n ≡ b → break_of tariff counts bytes n ≡ Unbroken
      go (Unbroken) e = e
      go (At c) e = absurd (nowhere c (broken_says c e))

  -- Nothing inside one city whose region has the mark 1 is broken, wherever its stops are,
  pub never_in_marked_city : InMarkedCity tariff counts bytes n → break_of tariff counts bytes n ≡ Unbroken
  never_in_marked_city marked = said_unbroken (λ c is. is.not_kept marked)

  -- nor a trip without a change.
  pub never_without_change : n ≤ 2 → break_of tariff counts bytes n ≡ Unbroken
  never_without_change few =
      said_unbroken (λ c is. omega (arith, is.farthest_change.after_first, is.farthest_change.before_last))

  -- It is broken at a change.
  pub broken_between : (c : ℕ) → break_of tariff counts bytes n ≡ At c → (1 ≤ c) × (c + 1 < n)
  broken_between c e =
      let change = (broken_says c e).farthest_change in
      (change.after_first, omega (arith, change.before_last))

  -- the contract of `break_of`
  pub break_is : (r : Breaking) → r ≡ break_of tariff counts bytes n → BreakOf tariff counts bytes n r
  break_is r e = record { value = e; change = λ c is. broken_between c (sym e ∙ is) }

  pub break_few : n < 3 → BreakOf tariff counts bytes n Unbroken
  break_few few = break_is _ (sym (never_without_change (omega arith)))

  -- a trip that does not come back under the factor 1 is broken nowhere
  pub break_never :
      3 ≤ n → {c : ℕ} → FarthestChange tariff counts bytes (n - 1) c → {back : Bool} → back ≡ comes_back_from tariff counts bytes (n - 1) c 1
      → back ≡ false → BreakOf tariff counts bytes n Unbroken
  break_never some {c} change is-back not_back =
      let least = (factor-of (faultless tariff counts riding.read) whole (whole_area (omega arith)).there).least in
      break_is _
      (sym
      (said_unbroken
      (λ d broken.
      let e = farthest_unique tariff counts bytes (n - 1) c d change broken.farthest_change in
      false≢true (sym not_back ∙ is-back ∙ rw e (said_back _ _ _ 1 (back_under_one _ _ _ _ least broken.comes-back))))))

  module _ {area : ℕ} (some : 3 ≤ n) (is : AreaOfStops tariff counts bytes 0 (n - 1) area) where
    same_area : area ≡ whole
    same_area = rw sub-zero at is.value

    module _ {kept : Bool} (is-kept : kept ≡ kept_whole tariff counts area) where
      pub break_kept : kept ≡ true → BreakOf tariff counts bytes n Unbroken
      break_kept holds = break_is _ (sym (never_in_marked_city (kept_inside (omega arith) (rw same_area at (sym is-kept ∙ holds)))))

      module _ (out : kept ≡ false) {c : ℕ} (change : FarthestChange tariff counts bytes (n - 1) c) {f : ℕ}
          (of : f ≡ (factor_of tariff counts area).factor) {back : Bool} (is-back : back ≡ comes_back_from tariff counts bytes (n - 1) c f) where
        pub break_at : back ≡ true → BreakOf tariff counts bytes n (At c)
        break_at holds =
            break_is _
            (sym
            (said_broken c
            (record {
              farthest_change = change;
              not_kept = λ marked. false≢true (sym out ∙ is-kept ∙ rw same_area (inside_kept (omega arith) marked));
              comes-back = rw (← same_area, ← of) (back_says _ _ _ _ (sym is-back ∙ holds));
            })))

        pub break_nowhere : back ≡ false → BreakOf tariff counts bytes n Unbroken
        break_nowhere not_back =
            break_is _
            (sym
            (said_unbroken
            (λ d broken.
            let e = farthest_unique tariff counts bytes (n - 1) c d change broken.farthest_change in
            false≢true (sym not_back ∙ is-back ∙ rw (of, same_area, e) (said_back _ _ _ _ broken.comes-back)))))
