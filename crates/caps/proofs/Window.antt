-- The promises about every window of a rider: no charge above its price, no cap ever passed, no cut without a full cap.
-- Assumes nothing.
use Prim.Native.Nat.{ℕ, ◌≤◌, ◌<◌}
use mathlib.Core.Path.{◌≡◌, refl, sym, subst}
use mathlib.Core.Bool.{true, ◌&&◌, and-eq-true_iff}
use mathlib.Core.List.{List, [], ◌∷◌, ◌++◌, Memᴰ}
use native.Mathlib.Omega.{arith}
use borrow.Author.Tests.{eqb-true, eq-eqb, ne_eqb}
use lib.Dec.{eqb}
use Rattle.caps.specs.Tree.{Tree, IsTree, within, SmallestLeft}
use Rattle.caps.specs.declared.Name.{Name}
use Rattle.caps.specs.Limits.{AtMost, Full}
use Rattle.caps.specs.Named.{name_in, CapHere, all_classes, second_class, CapLeft, NamedCap, cap_named, sum_named}
use Rattle.caps.specs.Rides.{
  ChargedRide,
  ChargedInTurn,
  none,
  more,
  all_total,
  second_total,
  charges,
  CapFull,
  all_full,
  second_full,
}
use Rattle.caps.proofs.OneArea.{Fills, fills_all, fills_second, nothing_fits, counted_fits}
use Rattle.caps.proofs.Climb.{within_state, within_there}
use Rattle.caps.proofs.Charge.{charge_smallest, charge_full}
use Rattle.caps.proofs.NamedCaps.{name_says, filled, full_unpassed}

-- The rides up to any moment of a window are again so charged: what is proved of every charged list holds at every moment.
pub earlier : {t : Tree} {es : List ChargedRide} (later : List ChargedRide) → ChargedInTurn t (later ++ es) → ChargedInTurn t es
earlier [] r = r
earlier (e ∷ later) (more r there is) = earlier later r

module _ {t : Tree} (tree : IsTree t) where
  -- a ride's charge is the smallest of its price and what its caps have left over the rides before
  ride_smallest :
      {e : ChargedRide} {es : List ChargedRide} → ChargedInTurn t (e ∷ es)
      → SmallestLeft t (λ a. second_total t a es) (λ a. all_total t a es) e.class e.area e.price e.charge
  ride_smallest (more {e} {es} r there is) =
      rw is (charge_smallest tree (λ a. second_total t a es) (λ a. all_total t a es) e.class e.area there e.price)

  -- No cap is ever passed: neither an area's all-classes cap nor its second-class one.
  pub no_cap_passed :
      {es : List ChargedRide} → ChargedInTurn t es → (x : ℕ) → x < t.size
      → AtMost (all_total t x es) (t.caps x).all × AtMost (second_total t x es) (t.caps x).second
  unfolding all_total second_total
  no_cap_passed none x h = (nothing_fits (t.caps x).all, nothing_fits (t.caps x).second)
  no_cap_passed (more {e} {es} r there is) x h =
      let left = (ride_smallest (more r there is)).left x in
      let before = no_cap_passed r x h in (
        counted_fits (t.caps x).all (within t e.area x) (all_total t x es) e.charge before.0 (λ w. (left w).in_all),
        counted_fits (t.caps x).second (eqb e.class 2 && within t e.area x) (second_total t x es) e.charge before.1 λ b.
            let (two, w) = (and-eq-true_iff (eqb e.class 2) (within t e.area x)).0 b in
            (left w).in-second (eqb-true e.class 2 two),
      )

  -- No charge exceeds its price.
  pub no_more_than_price : {e : ChargedRide} {es : List ChargedRide} → ChargedInTurn t (e ∷ es) → e.charge ≤ e.price
  no_more_than_price r = (ride_smallest r).most

  -- So it is for every ride of the window.
  pub each_no_more_than_price : {es : List ChargedRide} {e : ChargedRide} → ChargedInTurn t es → Memᴰ e es → e.charge ≤ e.price
  each_no_more_than_price none x = elim x [ ]
  each_no_more_than_price (more r there is) (Memᴰ.head same) = rw same (no_more_than_price (more r there is))
  each_no_more_than_price (more r there is) (Memᴰ.tail m) = each_no_more_than_price r m

  -- A charge below its price leaves one of that ride's caps exactly full.
  pub cut_leaves_full : {e : ChargedRide} {es : List ChargedRide} → ChargedInTurn t (e ∷ es) → e.charge < e.price → CapFull t e (e ∷ es)
  unfolding all_total second_total
  cut_leaves_full (more {e} {es} r there is) below =
      let (x, h, w, fills) =
      charge_full tree (λ a. second_total t a es) (λ a. all_total t a es) e.class (no_cap_passed r) e.area there e.price (rw is at below)
      in
      full x h w (rw (← is) at fills)
    where
      full :
          (x : ℕ) → x < t.size → within t e.area x ≡ true
          → Fills (t.caps x) e.class (second_total t x es) (all_total t x es) e.charge → CapFull t e (e ∷ es)
      full x h w (fills_all f) = all_full x h w (rw w f)
      full x h w (fills_second two f) = second_full x h w two (rw (eq-eqb e.class 2 two, w) f)

  -- one of its caps that had exactly the charge left is full with it
  left_is_full :
      {e : ChargedRide} {es : List ChargedRide} → ChargedInTurn t (e ∷ es) → {name : Name}
      → CapLeft t (λ a. second_total t a es) (λ a. all_total t a es) e.class e.area name e.charge
      → Full (sum_named (λ a. second_total t a (e ∷ es)) (λ a. all_total t a (e ∷ es)) name) (cap_named t name)
  unfolding all_total second_total
  left_is_full (more {e} {es} r there is) {name} cap =
      go cap.its (no_cap_passed r name.area (within_there tree e.area there name.area cap.inside))
    where
      go :
          CapHere (t.caps name.area) e.class (second_total t name.area es) (all_total t name.area es) name.class e.charge
          → AtMost (all_total t name.area es) (t.caps name.area).all × AtMost (second_total t name.area es) (t.caps name.area).second
          → Full (sum_named (λ a. second_total t a (e ∷ es)) (λ a. all_total t a (e ∷ es)) name) (cap_named t name)
      go (all_classes most one cap-is value) kept =
          rw (ne_eqb name.class 2 (λ two. omega (arith, one, two)), cap.inside)
          (full_unpassed (t.caps name.area).all (all_total t name.area es) e.charge kept.0
          (filled (t.caps name.area).all (all_total t name.area es) e.charge most cap-is value))
      go (second_class most two of cap-is value) kept =
          rw (eq-eqb name.class 2 two, eq-eqb e.class 2 of, cap.inside)
          (full_unpassed (t.caps name.area).second (second_total t name.area es) e.charge kept.1
          (filled (t.caps name.area).second (second_total t name.area es) e.charge most cap-is value))

  -- The cap that is named for it is exactly full.
  pub cut_names_full :
      {e : ChargedRide} {es : List ChargedRide} → ChargedInTurn t (e ∷ es) → e.charge < e.price
      → let name = name_in t (λ a. second_total t a es) (λ a. all_total t a es) e.class e.area e.price in
      NamedCap t (λ a. second_total t a es) (λ a. all_total t a es) e.class e.area e.charge name
      × Full (sum_named (λ a. second_total t a (e ∷ es)) (λ a. all_total t a (e ∷ es)) name) (cap_named t name)
  cut_names_full (more {e} {es} r there is) below =
      let second : ℕ → ℕ = λ a. second_total t a es in
      let all : ℕ → ℕ = λ a. all_total t a es in
      let says : NamedCap t second all e.class e.area e.charge (name_in t second all e.class e.area e.price) =
      subst (λ (c : ℕ). NamedCap t second all e.class e.area c (name_in t second all e.class e.area e.price)) (sym is)
      (name_says tree second all e.class e.area there e.price (rw is at below)) in
      (says, left_is_full (more r there is) says.one_of_them)

  -- The state's all-classes total is the total of every charge.
  pub state_total : {es : List ChargedRide} → ChargedInTurn t es → all_total t 0 es ≡ charges es
  unfolding all_total charges
  state_total none = refl
  state_total (more {e} {es} r there is) = rw (within_state tree e.area there, state_total r)
