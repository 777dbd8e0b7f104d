-- What one ride is charged: the smallest of its price and what the caps of its area and of every area above have left.
-- Assumes nothing.
use Prim.Native.Nat.{ℕ, ◌≤◌, ◌<◌}
use native.Mathlib.Nat.{le_trans}
use native.Mathlib.Omega.{arith}
use native.Mathlib.Decide.{ℕ_discrete, dec_lt}
use mathlib.Core.Path.{◌≡◌, refl}
use mathlib.Core.Logic.{⊎_elim}
use mathlib.Core.Bool.{true}
use borrow.Author.Tests.{ne_eqb}
use Rattle.caps.specs.declared.Caps.{Caps}
use Rattle.caps.specs.Limits.{capped_here, AtMost}
use Rattle.caps.specs.Tree.{fold_up, Tree, IsTree, within, charge_in, SmallestLeft}
use Rattle.caps.proofs.OneArea.{Fills, less_left, here_most, here_left, here_greatest, here_full, here_again}
use Rattle.caps.proofs.Climb.{fold_related, upwards, climb_top, climb_up, climb_past, within_self, within_parent, top_alone, within_cases}

module _ {t : Tree} (tree : IsTree t) (second all : ℕ → ℕ) (class : ℕ) where
  -- the amount that an area's own caps leave
  abbrev here : ℕ → ℕ → ℕ
  here a amount = capped_here (t.caps a) class (second a) (all a) amount

  -- the charge is its area's own cut, and then its parent's charge of that
  charge_top : (a : ℕ) → t.level a ≡ 0 → (amount : ℕ) → charge_in t second all class a amount ≡ here a amount
  unfolding charge_in
  charge_top a top amount = climb_top tree here a top amount

  charge_up :
      (a : ℕ) → a < t.size → 0 < t.level a → (amount : ℕ)
      → charge_in t second all class a amount ≡ charge_in t second all class (t.parent a) (here a amount)
  unfolding charge_in
  charge_up a h low amount = climb_up tree here a h low amount

  -- The charge is the smallest of the amount and what each of these caps has left.
  pub charge_smallest :
      (a : ℕ) → a < t.size → (amount : ℕ) → SmallestLeft t second all class a amount (charge_in t second all class a amount)
  charge_smallest =
      upwards tree (λ a. (amount : ℕ) → SmallestLeft t second all class a amount (charge_in t second all class a amount))
      (λ a h top amount. rw (charge_top a top amount) (at_state a h top amount))
      (λ a h low above amount. rw (charge_up a h low amount) (below a h low amount _ (above (here a amount))))
    where
      at_state : (a : ℕ) → a < t.size → t.level a ≡ 0 → (amount : ℕ) → SmallestLeft t second all class a amount (here a amount)
      at_state a h top amount =
          record {
            most = here_most (t.caps a) class (second a) (all a) amount;
            left = λ x w. rw (← (top_alone tree a x top w)) (here_left (t.caps a) class (second a) (all a) amount);
            greatest = λ n most left. here_greatest (t.caps a) class (second a) (all a) amount n most (left a (within_self tree a h));
          }

      below :
          (a : ℕ) → a < t.size → 0 < t.level a → (amount charge : ℕ)
          → SmallestLeft t second all class (t.parent a) (here a amount) charge → SmallestLeft t second all class a amount charge
      below a h low amount charge above =
          record {
            most = le_trans above.most (here_most (t.caps a) class (second a) (all a) amount);
            left = λ x w.
                ⊎_elim (λ (same : a ≡ x). rw (← same) (less_left (t.caps a) above.most (here_left (t.caps a) class (second a) (all a) amount)))
                (λ r. above.left x r.1) (within_cases tree a x h w);
            greatest = λ n most left.
                above.greatest n (here_greatest (t.caps a) class (second a) (all a) amount n most (left a (within_self tree a h)))
                (λ x w. left x (within_parent tree a x h low w));
          }

  -- one of these caps is full with a charge
  abbrev Filled : ℕ → ℕ → Type 0
  Filled area charge = (x : ℕ) × (x < t.size) × (within t area x ≡ true) × Fills (t.caps x) class (second x) (all x) charge

  -- A charge below the amount leaves one of them full, if none was passed before.
  pub charge_full :
      ((x : ℕ) → x < t.size → AtMost (all x) (t.caps x).all × AtMost (second x) (t.caps x).second) → (a : ℕ) → a < t.size → (amount : ℕ)
      → charge_in t second all class a amount < amount → Filled a (charge_in t second all class a amount)
  charge_full kept =
      upwards tree (λ a. (amount : ℕ) → charge_in t second all class a amount < amount → Filled a (charge_in t second all class a amount))
      (λ a h top amount cut. rw (charge_top a top amount) (own a h amount (rw (charge_top a top amount) at cut)))
      λ a h low above amount cut.
      rw (charge_up a h low amount)
      (go a h low amount _ (charge_smallest (t.parent a) (tree.parent_there a h) (here a amount)).most (above (here a amount))
      (rw (charge_up a h low amount) at cut)
      (dec_lt _ (here a amount)))
    where
      own : (a : ℕ) → a < t.size → (amount : ℕ) → here a amount < amount → Filled a (here a amount)
      own a h amount cut =
          (a, h, within_self tree a h, here_full (t.caps a) class (second a) (all a) amount (kept a h).0 (kept a h).1 cut)

      go :
          (a : ℕ) → a < t.size → 0 < t.level a → (amount charge : ℕ) → charge ≤ here a amount
          → (charge < here a amount → Filled (t.parent a) charge) → charge < amount → Dec (charge < here a amount) → Filled a charge
      go a h low amount charge most above cut (yes higher) =
          let (x, there, w, fills) = above higher in (x, there, within_parent tree a x h low w, fills)
      go a h low amount charge most above cut (no whole) =
          let same : charge ≡ here a amount = omega arith in
          rw same (own a h amount (omega arith))

  -- A way up of n areas, where n is enough, gives the charge: the state's caps do not cut again what they have cut.
  pub charge_past :
      (a : ℕ) → a < t.size → (n : ℕ) → t.level a ≤ n → (amount : ℕ)
      → fold_up t.parent here n a amount ≡ charge_in t second all class a amount
  unfolding charge_in
  charge_past = climb_past tree here (λ amount. here_again (t.caps 0) class (second 0) (all 0) amount)

-- The caps of an area look at the second-class sum in class 2 alone.
here_class :
    (caps : Caps) (class second all amount second' all' amount' : ℕ) → (class ≡ 2 → second ≡ second') → all ≡ all' → amount ≡ amount'
    → capped_here caps class second all amount ≡ capped_here caps class second' all' amount'
unfolding capped_here
here_class caps class second all amount second' all' amount' same same' e =
    elim (ℕ_discrete class 2) [
      | yes two ↦ rw (same two, same', e)
      | no other ↦ rw (ne_eqb class 2 other, same', e)
    ]

-- So the charge goes by the sums of the class alone.
pub charge_class :
    {t : Tree} → IsTree t → (second all second' all' : ℕ → ℕ) (class : ℕ) → (class ≡ 2 → (x : ℕ) → x < t.size → second x ≡ second' x)
    → ((x : ℕ) → x < t.size → all x ≡ all' x) → (a amount : ℕ) → a < t.size
    → charge_in t second all class a amount ≡ charge_in t second' all' class a amount
unfolding charge_in
charge_class {t} tree second all second' all' class same same' a amount there =
    fold_related t.parent t.size tree.parent_there _ _ (λ x y. x ≡ y)
    (λ b h x y e. here_class (t.caps b) class _ _ x _ _ y (λ two. same two b h) (same' b h) e) (t.level a) a there amount amount refl

-- The charge goes by the sums alone.
pub charge_same :
    {t : Tree} → IsTree t → (second all second' all' : ℕ → ℕ) → ((x : ℕ) → x < t.size → second x ≡ second' x)
    → ((x : ℕ) → x < t.size → all x ≡ all' x) → (class a amount : ℕ) → a < t.size
    → charge_in t second all class a amount ≡ charge_in t second' all' class a amount
charge_same tree second all second' all' same same' class a amount there =
    charge_class tree second all second' all' class (λ two. same) same' a amount there
