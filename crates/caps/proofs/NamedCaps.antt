-- The named cap in the rules' words: it is the one that the words say, and there is no other.
-- Assumes nothing.
use Prim.Native.Nat.{ℕ, ◌+◌, ◌-◌, ◌≤◌, ◌<◌}
use native.Mathlib.Nat.{le_refl, le_antisymm}
use native.Mathlib.Omega.{arith}
use native.Mathlib.Decide.{ℕ_discrete, dec_lt}
use mathlib.Core.Path.{◌≡◌, refl, sym, ap, subst, ◌∙◌}
use mathlib.Core.Logic.{◌⊎◌, inl, inr, ⊎_elim}
use mathlib.Core.Bool.{Bool, true, false, cond, false≢true}
use borrow.Author.Tests.{eq-eqb, ne_eqb, eqb-true, eqb-false}
use lib.Dec.{eqb}
use Rattle.units.specs.declared.Cents.{Cents}
use Rattle.units.specs.declared.Cap.{Cap}
use Rattle.units.specs.declared.Cap.TheVariants.{NoCap, UpTo}
use Rattle.caps.specs.declared.Caps.{Caps}
use Rattle.caps.specs.declared.Name.{Name}
use Rattle.caps.specs.Limits.{left_of, AtMost, Full, Left}
use Rattle.caps.specs.Tree.{Tree, IsTree, climb, within, charge_in}
use Rattle.caps.specs.Named.{no_name, leaves, named_here, name_in, CapHere, all_classes, second_class, CapLeft, NamedCap, cap_named, sum_named, FullOrPassed}
use Rattle.caps.proofs.Climb.{
  upwards,
  climb_top,
  climb_up,
  within_self,
  within_parent,
  top_alone,
  within_cases,
  within_level,
  not_within_child,
  within_one,
}
use Rattle.caps.proofs.Charge.{charge_smallest}

-- ---- One cap.

-- a cap left exactly a charge: there is one, and it is that much above the sum, or passed and the charge is 0
leaves_true :
    (cap : Cap) (sum charge : ℕ) → leaves (left_of cap sum) charge ≡ true → (most : Cents) × (cap ≡ UpTo most) × (charge ≡ most.0 - sum)
unfolding leaves left_of
leaves_true NoCap sum charge e = absurd (false≢true e)
leaves_true (UpTo most) sum charge e = (most, refl, sym (eqb-true (most.0 - sum) charge e))

leaves_is :
    (cap : Cap) (sum charge : ℕ) (most : Cents) → cap ≡ UpTo most → charge ≡ most.0 - sum → leaves (left_of cap sum) charge ≡ true
unfolding leaves left_of
leaves_is cap sum charge most is value = rw is (eq-eqb (most.0 - sum) charge (sym value))

-- what is at most all that a cap has left, and is not that, leaves room for one cent more
room_for_more : (cap : Cap) (sum charge : ℕ) → AtMost charge (left_of cap sum) → (leaves (left_of cap sum) charge ≡ true → ⊥) → AtMost (charge + 1) (left_of cap sum)
unfolding leaves left_of
room_for_more NoCap sum charge fits not = tt
room_for_more (UpTo most) sum charge fits not =
    elim (ℕ_discrete (most.0 - sum) charge) [
      | yes same ↦ absurd (not (eq-eqb (most.0 - sum) charge same))
      | no other ↦ omega arith
    ]

-- a charge that is all that a cap has left makes it full, or the cap was passed
pub filled : (cap : Cap) (sum charge : ℕ) (most : Cents) → cap ≡ UpTo most → charge ≡ most.0 - sum → FullOrPassed cap sum charge
filled cap sum charge most is value =
    rw is
    (elim (dec_lt most.0 sum) [
      | yes passed ↦ inr (passed, omega arith)
      | no under ↦ inl (omega arith)
    ])

-- ---- One area's caps.

module _ (caps : Caps) (area class second all charge : ℕ) where
  -- they are of class 1 or 2
  which_most : {which left : ℕ} → CapHere caps class second all which left → (which ≡ 1) ⊎ (which ≡ 2)
  which_most (all_classes cap one is value) = inl one
  which_most (second_class cap two of is value) = inr two

  -- the name is of one that left the charge, the second-class one if that did; or none did, and the name is as before
  named-here :
      (name r : Name) → r ≡ named_here caps area class second all charge name
      → ((r.area ≡ area) × CapHere caps class second all r.class charge × (CapHere caps class second all 2 charge → r.class ≡ 2))
      ⊎ ((r ≡ name) × ((which : ℕ) → CapHere caps class second all which charge → ⊥))
  unfolding named_here
  named-here name r is =
      go (eqb class 2) (leaves (left_of caps.second second) charge) (leaves (left_of caps.all all) charge) refl refl refl is
    where
      one : Name
      one = record { area = area; class = 1 }

      two : Name
      two = record { area = area; class = 2 }

      no_second :
          (eqb class 2 ≡ false) ⊎ (leaves (left_of caps.second second) charge ≡ false) → {which : ℕ} → which ≡ 2
          → CapHere caps class second all which charge → ⊥
      no_second not w (all_classes cap first is value) = omega arith
      no_second not w (second_class cap last of is value) =
          ⊎_elim (λ e. eqb-false class 2 e of)
          (λ e. false≢true (sym e ∙ leaves_is caps.second second charge cap is value)) not

      no_all : leaves (left_of caps.all all) charge ≡ false → {which : ℕ} → which ≡ 1 → CapHere caps class second all which charge → ⊥
      no_all not w (all_classes cap first is value) = false≢true (sym not ∙ leaves_is caps.all all charge cap is value)
      no_all not w (second_class cap last of is value) = omega arith

      by_all :
          leaves (left_of caps.all all) charge ≡ true → CapHere caps class second all 1 charge
      by_all e = let (most, is, value) = leaves_true caps.all all charge e in all_classes most refl is value

      neither :
          (eqb class 2 ≡ false) ⊎ (leaves (left_of caps.second second) charge ≡ false) → leaves (left_of caps.all all) charge ≡ false
          → (which : ℕ) → CapHere caps class second all which charge → ⊥
      neither not not' which cap = ⊎_elim (λ w. no_all not' w cap) (λ w. no_second not w cap) (which_most cap)

      go :
          (b s a : Bool) → eqb class 2 ≡ b → leaves (left_of caps.second second) charge ≡ s → leaves (left_of caps.all all) charge ≡ a
          → r ≡ cond b (cond s two (cond a one name)) (cond a one name)
          → ((r.area ≡ area) × CapHere caps class second all r.class charge × (CapHere caps class second all 2 charge → r.class ≡ 2))
          ⊎ ((r ≡ name) × ((which : ℕ) → CapHere caps class second all which charge → ⊥))
      go true true a e e' e'' k =
          let (most, is, value) = leaves_true caps.second second charge e' in
          inl (rw k (refl, second_class most refl (eqb-true class 2 e) is value, λ _. refl))
      go true false true e e' e'' k = inl (rw k (refl, by_all e'', λ cap. absurd (no_second (inr e') refl cap)))
      go true false false e e' e'' k = inr (k, neither (inr e') e'')
      go false s true e e' e'' k = inl (rw k (refl, by_all e'', λ cap. absurd (no_second (inl e) refl cap)))
      go false s false e e' e'' k = inr (k, neither (inl e) e'')

-- ---- All of a ride's caps.

module _ {t : Tree} (tree : IsTree t) (second all : ℕ → ℕ) (class : ℕ) where
  -- a name is of a cap that left the charge: none of a wider area did, and no second-class one of the same area if it is not that
  record Top (charge area : ℕ) (name : Name) : Type 0 where
    its : CapLeft t second all class area name charge
    widest : (other : Name) → CapLeft t second all class area other charge → t.level name.area ≤ t.level other.area
    second_first : (other : Name) → CapLeft t second all class area other charge → other.area ≡ name.area → other.class ≡ 2 → name.class ≡ 2

  -- no cap left the charge
  abbrev Nobody : ℕ → ℕ → Type 0
  Nobody charge area = (other : Name) → CapLeft t second all class area other charge → ⊥

  -- a cap of an area, by the area's number
  abbrev At : ℕ → ℕ → ℕ → Type 0
  At charge a which = CapHere (t.caps a) class (second a) (all a) which charge

  found :
      (charge : ℕ) → (a : ℕ) → a < t.size → (name r : Name)
      → r ≡ climb t (λ b n. named_here (t.caps b) b class (second b) (all b) charge n) a name
      → Top charge a r ⊎ ((r ≡ name) × Nobody charge a)
  found charge =
      upwards tree
      (λ a. (name r : Name) → r ≡ climb t (λ b n. named_here (t.caps b) b class (second b) (all b) charge n) a name
      → Top charge a r ⊎ ((r ≡ name) × Nobody charge a))
      (λ a h top name r is. on_top a h top name r (is ∙ climb_top tree step a top name))
      (λ a h low above name r is. below a h low name (step a name) r refl (above (step a name) r (is ∙ climb_up tree step a h low name)))
    where
      step : ℕ → Name → Name
      step b n = named_here (t.caps b) b class (second b) (all b) charge n

      -- what is of another's area is a cap of that area
      own : {a : ℕ} {other : Name} → a ≡ other.area → CapLeft t second all class a other charge → At charge a other.class
      own {a} {other} same cap = subst (λ (x : ℕ). At charge x other.class) (sym same) cap.its

      up : {a : ℕ} {other : Name} → within t (t.parent a) other.area ≡ true → CapLeft t second all class a other charge
          → CapLeft t second all class (t.parent a) other charge
      up w cap = record { inside = w; its = cap.its }

      second_of : {a which : ℕ} → which ≡ 2 → At charge a which → At charge a 2
      second_of {a} two cap = subst (At charge a) two cap

      on_top :
          (a : ℕ) → a < t.size → t.level a ≡ 0 → (name r : Name) → r ≡ step a name → Top charge a r ⊎ ((r ≡ name) × Nobody charge a)
      on_top a h top name r is =
          ⊎_elim
          (λ k.
          inl (record {
            its = record {
              inside = rw k.0 (within_self tree a h);
              its = subst (λ (x : ℕ). At charge x r.class) (sym k.0) k.1;
            };
            widest = λ other cap. rw (k.0, top) (omega arith);
            second_first = λ other cap same two. k.2 (second_of two (own (sym k.0 ∙ sym same) cap));
          }))
          (λ k. inr (k.0, λ other cap. k.1 other.class (own (top_alone tree a other.area top cap.inside) cap)))
          (named-here (t.caps a) a class (second a) (all a) charge name r is)

      below :
          (a : ℕ) → a < t.size → 0 < t.level a → (name mid r : Name) → mid ≡ step a name
          → Top charge (t.parent a) r ⊎ ((r ≡ mid) × Nobody charge (t.parent a)) → Top charge a r ⊎ ((r ≡ name) × Nobody charge a)
      below a h low name mid r is (inl k) =
          inl (record {
            its = record { inside = within_parent tree a r.area h low k.its.inside; its = k.its.its };
            widest = λ other cap.
                ⊎_elim
                (λ (same : a ≡ other.area).
                let less = within_level tree (t.parent a) (tree.parent_there a h) r.area k.its.inside in
                rw (← same) (omega (arith, less, tree.parent_level a h low)))
                (λ v. k.widest other (up v.1 cap)) (within_cases tree a other.area h cap.inside);
            second_first = λ other cap same two.
                ⊎_elim
                (λ (mine : a ≡ other.area).
                absurd (not_within_child tree a h low (subst (λ (x : ℕ). within t (t.parent a) x ≡ true) (sym (mine ∙ same)) k.its.inside)))
                (λ v. k.second_first other (up v.1 cap) same two) (within_cases tree a other.area h cap.inside);
          })
      below a h low name mid r is (inr above) =
          ⊎_elim
          (λ k.
          inl (record {
            its = record {
              inside = rw k.0 (within_self tree a h);
              its = subst (λ (x : ℕ). At charge x r.class) (sym k.0) k.1;
            };
            widest = λ other cap.
                ⊎_elim (λ (same : a ≡ other.area). rw (k.0, ← same) (le_refl (t.level a)))
                (λ v. absurd (above.1 other (up v.1 cap))) (within_cases tree a other.area h cap.inside);
            second_first = λ other cap same two. k.2 (second_of two (own (sym k.0 ∙ sym same) cap));
          }))
          (λ k.
          inr (
            k.0,
            λ other cap.
                ⊎_elim (λ (same : a ≡ other.area). k.1 other.class (own same cap)) (λ v. above.1 other (up v.1 cap))
                (within_cases tree a other.area h cap.inside),
          ))
          (named-here (t.caps a) a class (second a) (all a) charge name r (above.0 ∙ is))

  module _ (a : ℕ) (here : a < t.size) (price : ℕ) where
    abbrev charge : ℕ
    charge = charge_in t second all class a price

    -- No cap left less than the charge.
    pub charge_least : (other : Name) (n : ℕ) → CapLeft t second all class a other n → charge ≤ n
    unfolding left_of
    charge_least other n cap = go ((charge_smallest tree second all class a here price).left other.area cap.inside) cap.its
      where
        go :
            {x : ℕ} {which : ℕ} → Left (t.caps x) class (second x) (all x) charge → CapHere (t.caps x) class (second x) (all x) which n → charge ≤ n
        go {x} left (all_classes most one is value) = rw value (rw is at left.in_all)
        go {x} left (second_class most two of is value) = rw value (rw is at (left.in-second of))

    -- where something is taken off, some cap left exactly the charge: else one cent more could be charged
    somebody : charge < price → Nobody charge a → ⊥
    somebody cut nobody =
        let s = charge_smallest tree second all class a here price in
        let more : charge + 1 ≤ charge =
        s.greatest (charge + 1) (omega (arith, cut)) λ x w.
        record {
          in_all = room_for_more (t.caps x).all (all x) charge (s.left x w).in_all λ e.
              let (most, is, value) = leaves_true (t.caps x).all (all x) charge e in
              nobody (record { area = x; class = 1 }) (record { inside = w; its = all_classes most refl is value });
          in-second = λ two.
              room_for_more (t.caps x).second (second x) charge ((s.left x w).in-second two) λ e.
              let (most, is, value) = leaves_true (t.caps x).second (second x) charge e in
              nobody (record { area = x; class = 2 }) (record { inside = w; its = second_class most refl two is value });
        }
        in
        omega (arith, more)

    -- Where nothing is taken off, no cap is named.
    pub name_none : charge ≡ price → name_in t second all class a price ≡ no_name
    unfolding name_in
    name_none same = rw (eq-eqb charge price same)

    -- Where something is taken off, the named cap is the one that the words say, and it left exactly the charge.
    pub name_says : charge < price → NamedCap t second all class a charge (name_in t second all class a price)
    unfolding name_in
    name_says cut =
        rw (ne_eqb charge price (λ same. omega (arith, cut, same)))
        (⊎_elim
        (λ k.
        record {
          one_of_them = k.its;
          least = charge_least;
          widest = k.widest;
          second_first = k.second_first;
        })
        (λ k. absurd (somebody cut k.1)) (found charge a here no_name _ refl))

    -- So none is named only where nothing is taken off.
    pub none_named : name_in t second all class a price ≡ no_name → charge ≡ price
    none_named none =
        elim (dec_lt charge price) [
          | yes cut ↦
              let class_is : (name_in t second all class a price).class ≡ 0 = ap (λ (n : Name). n.class) none in
              absurd
              (⊎_elim (λ w. omega (arith, w, class_is)) (λ w. omega (arith, w, class_is))
              (which_most _ a _ _ _ charge (name_says cut).one_of_them.its))
          | no whole ↦ omega (arith, whole, (charge_smallest tree second all class a here price).most)
        ]

  -- There is no other such cap.
  pub name_one :
      (a : ℕ) → a < t.size → {left left' : ℕ} {name name' : Name} → NamedCap t second all class a left name
      → NamedCap t second all class a left' name' → name ≡ name'
  name_one a here {left} {left'} {name} {name'} n n' =
      let same : left ≡ left' =
      le_antisymm (n.least name' left' n'.one_of_them) (n'.least name left n.one_of_them) in
      let cap' : CapLeft t second all class a name' left = subst (CapLeft t second all class a name') (sym same) n'.one_of_them in
      let cap : CapLeft t second all class a name left' = subst (CapLeft t second all class a name) same n.one_of_them in
      let area : name.area ≡ name'.area =
      within_one tree a here name.area name'.area n.one_of_them.inside n'.one_of_them.inside
      (le_antisymm (n.widest name' cap') (n'.widest name cap))
      in
      both area
      (classes (which_most _ a _ _ _ left n.one_of_them.its) (which_most _ a _ _ _ left n'.one_of_them.its)
      (n.second_first name' cap' (sym area)) (n'.second_first name cap area))
    where
      both : {m m' : Name} → m.area ≡ m'.area → m.class ≡ m'.class → m ≡ m'
      both {m} {m'} e e' = rw (e, e')

      classes :
          {c c' : ℕ} → (c ≡ 1) ⊎ (c ≡ 2) → (c' ≡ 1) ⊎ (c' ≡ 2) → (c' ≡ 2 → c ≡ 2) → (c ≡ 2 → c' ≡ 2) → c ≡ c'
      classes (inl e) (inl e') f g = e ∙ sym e'
      classes (inl e) (inr e') f g = f e' ∙ sym e'
      classes (inr e) k f g = e ∙ sym (g e)

-- ---- The named cap and its sum.

-- A cap that left exactly the charge is then full, or was passed before.
pub named_full :
    {t : Tree} {second all : ℕ → ℕ} {class area charge : ℕ} {name : Name} → CapLeft t second all class area name charge
    → FullOrPassed (cap_named t name) (sum_named second all name) charge
named_full {t} {second} {all} {class} {area} {charge} {name} cap = go cap.its
  where
    go :
        CapHere (t.caps name.area) class (second name.area) (all name.area) name.class charge
        → FullOrPassed (cap_named t name) (sum_named second all name) charge
    go (all_classes most one is value) =
        rw (ne_eqb name.class 2 (λ two. omega (arith, one, two))) (filled (t.caps name.area).all (all name.area) charge most is value)
    go (second_class most two of is value) =
        rw (eq-eqb name.class 2 two) (filled (t.caps name.area).second (second name.area) charge most is value)

-- Where it was not passed, it is full.
pub full_unpassed : (cap : Cap) (sum charge : ℕ) → AtMost sum cap → FullOrPassed cap sum charge → Full (sum + charge) cap
full_unpassed NoCap sum charge fits (inl full) = full
full_unpassed NoCap sum charge fits (inr passed) = passed.0
full_unpassed (UpTo most) sum charge fits (inl full) = full
full_unpassed (UpTo most) sum charge fits (inr passed) = absurd (omega (arith, fits, passed.0))
