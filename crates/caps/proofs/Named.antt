-- What the code's one walk up finds: the charge, and the cap that is named. A cap that left no more than the least so far takes the name; of
-- the caps from the last that lowered the rest on, these are the ones that left exactly the charge.
-- Assumes nothing.
use Prim.Native.Nat.{ℕ, zero, suc, ◌-◌, ◌^◌, ◌≤◌, ◌<◌}
use native.Mathlib.Nat.{le_trans}
use native.Mathlib.Omega.{arith}
use native.Mathlib.Decide.{ℕ_discrete, dec_lt}
use mathlib.Core.Path.{◌≡◌, refl, sym, ap, subst, ◌∙◌}
use mathlib.Core.Logic.{◌⊎◌, inl, inr, ⊎_elim}
use mathlib.Core.Bool.{Bool, true, false, cond}
use borrow.Author.Tests.{eq-eqb, ne_eqb, eqb-true, le-leb, lt-leb}
use lib.Dec.{eqb}
use Rattle.units.specs.Caps.{capped_by}
use Rattle.units.specs.declared.Cap.{Cap}
use Rattle.units.specs.declared.Cap.TheVariants.{NoCap, UpTo}
use Rattle.caps.specs.declared.Caps.{Caps}
use Rattle.caps.specs.declared.Name.{Name}
use Rattle.caps.specs.declared.Rest.{Rest}
use Rattle.caps.specs.Limits.{left_of, capped_here, AtMost, Left}
use Rattle.caps.specs.Tree.{fold_up, Tree, IsTree, charge_in}
use Rattle.caps.specs.Named.{no_name, leaves, named_here, name_in}
use Rattle.caps.specs.Clauses.{rest_under, limit_of, LeftBy, rest_with, RestWith, rest_here, uncapped_at, name_of}
use Rattle.caps.proofs.OneArea.{fits_capped, less_left, here_most, here_left}
use Rattle.caps.proofs.Climb.{fold_related, climb_past}
use Rattle.caps.proofs.Charge.{charge_past, charge_class}

-- ---- One cap.

-- what it leaves as a plain number: where there is no cap, more than any rest
under_plain :
    (rest : Rest) (cap : Cap) (sum area class : ℕ) → sum < 2 ^ 32 → rest.amount.0 < 2 ^ 32
    → rest_with rest (limit_of cap - sum) area class ≡ rest_under rest (left_of cap sum) area class
unfolding rest_under left_of
under_plain rest NoCap sum area class low low' = rw (lt-leb (8589934592 - sum) rest.amount.0 (omega arith))
under_plain rest (UpTo most) sum area class low low' = refl

pub under_left :
    {cap : Cap} {sum left : ℕ} {rest r : Rest} {area class : ℕ} → LeftBy cap sum left → RestWith rest left area class r
    → r ≡ rest_under rest (left_of cap sum) area class
under_left {cap} {sum} {left} {rest} {r} {area} {class} l u =
    u.value ∙ ap (λ (n : ℕ). rest_with rest n area class) l.value ∙ under_plain rest cap sum area class l.sum_range u.rest_range

-- it leaves the smaller of the rest and what it has left
under_amount : (rest : Rest) (cap : Cap) (area class : ℕ) → (rest_under rest cap area class).amount.0 ≡ capped_by cap rest.amount.0
unfolding rest_under
under_amount rest NoCap area class = refl
under_amount rest (UpTo most) area class =
    elim (dec_lt rest.amount.0 most.0) [
      | yes above ↦ rw (lt-leb most.0 rest.amount.0 above) (omega arith)
      | no under ↦ rw (le-leb most.0 rest.amount.0 (omega arith)) (omega arith)
    ]

-- the name so far is the one that goes by the charge, or a later cap takes it
abbrev Agree : ℕ → Rest → Name → Type 0
Agree charge rest name = (charge < rest.amount.0) ⊎ (rest.name ≡ name)

under_agrees :
    (charge : ℕ) (rest : Rest) (name : Name) (cap : Cap) (area class : ℕ) → AtMost charge cap → charge ≤ rest.amount.0 → Agree charge rest name
    → Agree charge (rest_under rest cap area class) (cond (leaves cap charge) (record { area = area; class = class }) name)
unfolding rest_under leaves
under_agrees charge rest name NoCap area class fits most agree = agree
under_agrees charge rest name (UpTo left) area class fits most agree =
    elim (dec_lt rest.amount.0 left.0) [
      | yes above ↦ rw (lt-leb left.0 rest.amount.0 above, ne_eqb left.0 charge (λ same. omega arith)) agree
      | no under ↦
          elim (ℕ_discrete left.0 charge) [
            | yes same ↦ rw (le-leb left.0 rest.amount.0 (omega arith), eq-eqb left.0 charge same) (inr refl)
            | no other ↦ rw (le-leb left.0 rest.amount.0 (omega arith)) (inl (omega arith))
          ]
    ]

-- ---- One area's caps.

module _ (caps : Caps) (area class second all : ℕ) where
  pub here_amount : (rest : Rest) → (rest_here caps area class second all rest).amount.0 ≡ capped_here caps class second all rest.amount.0
  unfolding rest_here capped_here
  here_amount rest = go (eqb class 2)
    where
      low : Rest
      low = rest_under rest (left_of caps.all all) area 1

      go :
          (two : Bool)
          → (cond two (rest_under low (left_of caps.second second) area 2) low).amount.0
          ≡ cond two (capped_by (left_of caps.second second) (capped_by (left_of caps.all all) rest.amount.0))
          (capped_by (left_of caps.all all) rest.amount.0)
      go true =
          under_amount low (left_of caps.second second) area 2
          ∙ ap (capped_by (left_of caps.second second)) (under_amount rest (left_of caps.all all) area 1)
      go false = under_amount rest (left_of caps.all all) area 1

  here_agrees :
      (charge : ℕ) (rest : Rest) (name : Name) → Left caps class second all charge → charge ≤ rest.amount.0 → Agree charge rest name
      → Agree charge (rest_here caps area class second all rest) (named_here caps area class second all charge name)
  unfolding rest_here named_here
  here_agrees charge rest name left most agree = go (eqb class 2) refl
    where
      low : Rest
      low = rest_under rest (left_of caps.all all) area 1

      wider : Name
      wider = cond (leaves (left_of caps.all all) charge) (record { area = area; class = 1 }) name

      first : Agree charge low wider
      first = under_agrees charge rest name (left_of caps.all all) area 1 left.in_all most agree

      still : charge ≤ low.amount.0
      still =
          rw (under_amount rest (left_of caps.all all) area 1) (fits_capped (left_of caps.all all) most left.in_all)

      go :
          (two : Bool) → eqb class 2 ≡ two
          → Agree charge (cond two (rest_under low (left_of caps.second second) area 2) low)
          (cond two (cond (leaves (left_of caps.second second) charge) (record { area = area; class = 2 }) wider) wider)
      go true e = under_agrees charge low wider (left_of caps.second second) area 2 (left.in-second (eqb-true class 2 e)) still first
      go false e = first

  -- the name by the charge is the same again
  named_again :
      (charge : ℕ) (name : Name)
      → named_here caps area class second all charge (named_here caps area class second all charge name)
      ≡ named_here caps area class second all charge name
  unfolding named_here
  named_again charge name = go (eqb class 2) (leaves (left_of caps.second second) charge) (leaves (left_of caps.all all) charge)
    where
      one : Name
      one = record { area = area; class = 1 }

      two : Name
      two = record { area = area; class = 2 }

      after : Bool → Bool → Bool → Name → Name
      after both s a n = cond both (cond s two (cond a one n)) (cond a one n)

      go : (both s a : Bool) → after both s a (after both s a name) ≡ after both s a name
      go true true a = refl
      go true false true = refl
      go true false false = refl
      go false s true = refl
      go false s false = refl

-- ---- The way up.

module _ (t : Tree) (second all : ℕ → ℕ) (class : ℕ) where
  -- the caps of one area: what they leave of an amount, of a rest, and the name by the charge
  abbrev cut_here : ℕ → ℕ → ℕ
  cut_here a amount = capped_here (t.caps a) class (second a) (all a) amount

  abbrev pub walk_here : ℕ → Rest → Rest
  walk_here a rest = rest_here (t.caps a) a class (second a) (all a) rest

  abbrev name_here : ℕ → ℕ → Name → Name
  name_here charge a name = named_here (t.caps a) a class (second a) (all a) charge name

  walk_amount : (n a : ℕ) (rest : Rest) → (fold_up t.parent walk_here n a rest).amount.0 ≡ fold_up t.parent cut_here n a rest.amount.0
  unfolding fold_up
  walk_amount zero a rest = here_amount (t.caps a) a class (second a) (all a) rest
  walk_amount (suc n) a rest =
      walk_amount n (t.parent a) (walk_here a rest)
      ∙ ap (fold_up t.parent cut_here n (t.parent a)) (here_amount (t.caps a) a class (second a) (all a) rest)

  cut_most : (n a amount : ℕ) → fold_up t.parent cut_here n a amount ≤ amount
  unfolding fold_up
  cut_most zero a amount = here_most (t.caps a) class (second a) (all a) amount
  cut_most (suc n) a amount =
      le_trans (cut_most n (t.parent a) (cut_here a amount)) (here_most (t.caps a) class (second a) (all a) amount)

  walk_name :
      (n a : ℕ) (rest : Rest) (name : Name) (charge : ℕ) → charge ≡ fold_up t.parent cut_here n a rest.amount.0 → Agree charge rest name
      → (fold_up t.parent walk_here n a rest).name ≡ fold_up t.parent (name_here charge) n a name
  unfolding fold_up
  walk_name zero a rest name charge is agree =
      let left = subst (Left (t.caps a) class (second a) (all a)) (sym is) (here_left (t.caps a) class (second a) (all a) rest.amount.0) in
      let most = here_most (t.caps a) class (second a) (all a) rest.amount.0 in
      ⊎_elim (λ below. absurd (omega (arith, below, is, here_amount (t.caps a) a class (second a) (all a) rest))) (λ same. same)
      (here_agrees (t.caps a) a class (second a) (all a) charge rest name left (omega (arith, is, most)) agree)
  walk_name (suc n) a rest name charge is agree =
      let under : charge ≤ cut_here a rest.amount.0 = omega (arith, is, cut_most n (t.parent a) (cut_here a rest.amount.0)) in
      let left = less_left (t.caps a) under (here_left (t.caps a) class (second a) (all a) rest.amount.0) in
      let most = here_most (t.caps a) class (second a) (all a) rest.amount.0 in
      walk_name n (t.parent a) (walk_here a rest) (name_here charge a name) charge
      (is ∙ ap (fold_up t.parent cut_here n (t.parent a)) (sym (here_amount (t.caps a) a class (second a) (all a) rest)))
      (here_agrees (t.caps a) a class (second a) (all a) charge rest name left (omega (arith, under, most)) agree)

  -- A way up of n areas, where n is enough, leaves the charge and, nothing being named where nothing is taken off, names the cap.
  module _ (tree : IsTree t) (a : ℕ) (here : a < t.size) (n : ℕ) (enough : t.level a ≤ n) (price : ℕ) where
    pub amount_past : (fold_up t.parent walk_here n a (uncapped_at price)).amount.0 ≡ charge_in t second all class a price
    amount_past = walk_amount n a (uncapped_at price) ∙ charge_past tree second all class a here n enough price

    pub name_past : name_of price (fold_up t.parent walk_here n a (uncapped_at price)) ≡ name_in t second all class a price
    unfolding name_in
    name_past =
        let charge = charge_in t second all class a price in
        rw (
          amount_past,
          walk_name n a (uncapped_at price) no_name charge (sym (charge_past tree second all class a here n enough price)) (inr refl),
          climb_past tree (name_here charge) (λ name. named_again (t.caps 0) 0 class (second 0) (all 0) charge name) a here n enough no_name,
        )

-- The name goes by the sums of the class alone.
named_class :
    (caps : Caps) (area class second all charge second' all' : ℕ) (name name' : Name) → (class ≡ 2 → second ≡ second') → all ≡ all'
    → name ≡ name' → named_here caps area class second all charge name ≡ named_here caps area class second' all' charge name'
unfolding named_here
named_class caps area class second all charge second' all' name name' same same' e =
    elim (ℕ_discrete class 2) [
      | yes two ↦ rw (same two, same', e)
      | no other ↦ rw (ne_eqb class 2 other, same', e)
    ]

pub name_class :
    {t : Tree} → IsTree t → (second all second' all' : ℕ → ℕ) (class : ℕ) → (class ≡ 2 → (x : ℕ) → x < t.size → second x ≡ second' x)
    → ((x : ℕ) → x < t.size → all x ≡ all' x) → (a price : ℕ) → a < t.size
    → name_in t second all class a price ≡ name_in t second' all' class a price
unfolding name_in
name_class {t} tree second all second' all' class same same' a price there =
    rw (
      charge_class tree second all second' all' class same same' a price there,
      fold_related t.parent t.size tree.parent_there
          (λ b name. named_here (t.caps b) b class (second b) (all b) (charge_in t second' all' class a price) name)
          (λ b name. named_here (t.caps b) b class (second' b) (all' b) (charge_in t second' all' class a price) name) (λ x y. x ≡ y)
          (λ b h x y e. named_class (t.caps b) b class _ _ _ _ _ x y (λ two. same two b h) (same' b h) e) (t.level a) a there no_name no_name refl,
    )
