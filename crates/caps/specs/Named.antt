-- Rules, section 10: which cap took something off a price. `second` and `all` are a rider's sums in each area.
use Rattle.std.specs.Prelude.{ℕ, ◌+◌, ◌-◌, ◌≤◌, ◌<◌, ◌≡◌, ◌⊎◌, Bool, true, false, cond, eqb}
use Rattle.units.specs.declared.Cents.{Cents}
use Rattle.units.specs.declared.Cap.{Cap}
use Rattle.units.specs.declared.Cap.TheVariants.{NoCap, UpTo}
use Rattle.caps.specs.declared.Caps.{Caps}
use Rattle.caps.specs.declared.Name.{Name}
use Rattle.caps.specs.Limits.{left_of, Full}
use Rattle.caps.specs.Tree.{Tree, climb, within, charge_in}

-- no cap
abbrev pub no_name : Name
no_name = record { area = 255; class = 0 }

-- a cap left exactly this
unfoldable pub leaves : Cap → ℕ → Bool
leaves NoCap amount = false
leaves (UpTo most) amount = eqb most.0 amount

-- the name, after an area's caps: its all-classes cap takes it from the areas below where it left what is charged, and in class 2 its
-- second-class cap from that
unfoldable pub named_here : Caps → ℕ → ℕ → ℕ → ℕ → ℕ → Name → Name
named_here caps area class second all charge name =
    let wider = cond (leaves (left_of caps.all all) charge) (record { area = area; class = 1 }) name in
    cond (eqb class 2) (cond (leaves (left_of caps.second second) charge) (record { area = area; class = 2 }) wider) wider

-- the cap that is named: none where nothing is taken off. Else the charge is the least that any cap left, and going up from the ride's area
-- the last cap that left it keeps the name
unfoldable pub name_in : Tree → (ℕ → ℕ) → (ℕ → ℕ) → ℕ → ℕ → ℕ → Name
name_in t second all class area price =
    let charge = charge_in t second all class area price in
    cond (eqb charge price) no_name (climb t (λ a name. named_here (t.caps a) a class (second a) (all a) charge name) area no_name)

-- ---- The same in the rules' words, without a way to find it.

-- an area has a cap of a class that a ride of class `class` has, and it left this: 0 if passed already
pub data CapHere (caps : Caps) (class second all which left : ℕ) : Type 0 where
  all_classes : (cap : Cents) → which ≡ 1 → caps.all ≡ UpTo cap → left ≡ cap.0 - all → CapHere caps class second all which left
  second_class :
      (cap : Cents) → which ≡ 2 → class ≡ 2 → caps.second ≡ UpTo cap → left ≡ cap.0 - second → CapHere caps class second all which left

-- a cap that a ride has, of its area or of one above, left this
pub record CapLeft (t : Tree) (second all : ℕ → ℕ) (class area : ℕ) (name : Name) (left : ℕ) : Type 0 where
  pub inside : within t area name.area ≡ true
  pub its : CapHere (t.caps name.area) class (second name.area) (all name.area) name.class left

-- the named cap is one of the ride's and left the least. Of those that left as little, none is of a wider area, and none of the same area is
-- the second-class cap if it is not that itself
pub record NamedCap (t : Tree) (second all : ℕ → ℕ) (class area left : ℕ) (name : Name) : Type 0 where
  pub one_of_them : CapLeft t second all class area name left
  pub least : (other : Name) (n : ℕ) → CapLeft t second all class area other n → left ≤ n
  pub widest : (other : Name) → CapLeft t second all class area other left → t.level name.area ≤ t.level other.area
  pub second_first :
      (other : Name) → CapLeft t second all class area other left → other.area ≡ name.area → other.class ≡ 2 → name.class ≡ 2

-- the cap of a name, and of a rider's sums the one that counts for it
abbrev pub cap_named : Tree → Name → Cap
cap_named t name = cond (eqb name.class 2) (t.caps name.area).second (t.caps name.area).all

abbrev pub sum_named : (ℕ → ℕ) → (ℕ → ℕ) → Name → ℕ
sum_named second all name = cond (eqb name.class 2) (second name.area) (all name.area)

-- a sum has passed a cap
abbrev pub Passed : ℕ → Cap → Type 0
Passed sum NoCap = ⊥
Passed sum (UpTo most) = most.0 < sum

-- a cap is exactly full with a charge, or was passed before, and then nothing is charged
abbrev pub FullOrPassed : Cap → ℕ → ℕ → Type 0
FullOrPassed cap sum charge = Full (sum + charge) cap ⊎ (Passed sum cap × (charge ≡ 0))
