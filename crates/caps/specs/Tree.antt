-- The areas of a tariff as far as caps see them, and the one way in which anything goes from an area through every area above it.
use Rattle.std.specs.Prelude.{ℕ, zero, suc, ◌+◌, ◌≤◌, ◌<◌, ◌≡◌, Bool, true, false, ◌||◌, eqb}
use Rattle.caps.specs.declared.Caps.{Caps}
use Rattle.caps.specs.Limits.{capped_here, Left, CapOrder}

-- an area and the `level` areas above it, one after another from below: a step at each of them, once
unfoldable pub fold_up : {X : Type 0} → (ℕ → ℕ) → (ℕ → X → X) → ℕ → ℕ → X → X
fold_up parent step zero area x = step area x
fold_up parent step (suc level) area x = fold_up parent step level (parent area) (step area x)

-- an area is one of an area and the `level` areas above it
unfoldable pub among : (ℕ → ℕ) → ℕ → ℕ → ℕ → Bool
among parent level area x = fold_up parent (λ a found. found || eqb a x) level area false

-- areas are numbers below `size`, each below its parent up to the state, area 0
pub record Tree : Type 0 where
  pub size : ℕ
  pub parent : ℕ → ℕ
  pub level : ℕ → ℕ
  pub caps : ℕ → Caps

-- what every faultless tariff's areas have
pub record IsTree (t : Tree) : Type 0 where
  pub state : 0 < t.size
  pub state_parent : t.parent 0 ≡ 0
  pub few_levels : (a : ℕ) → a < t.size → t.level a ≤ 2
  pub parent_there : (a : ℕ) → a < t.size → t.parent a < t.size
  pub parent_level : (a : ℕ) → a < t.size → 0 < t.level a → t.level (t.parent a) + 1 ≡ t.level a
  pub top_level : (a : ℕ) → a < t.size → t.level a ≡ 0 → a ≡ 0
  pub caps_order : (a : ℕ) → a < t.size → CapOrder (t.caps a).second (t.caps a).all

-- an area and every area above it
abbrev pub climb : {X : Type 0} → Tree → (ℕ → X → X) → ℕ → X → X
climb t step area x = fold_up t.parent step (t.level area) area x

-- an area lies within itself and within every area above it
abbrev pub within : Tree → ℕ → ℕ → Bool
within t area x = among t.parent (t.level area) area x

-- the charge: an amount, cut at an area and at every area above it to what the caps there have left over these sums
unfoldable pub charge_in : Tree → (ℕ → ℕ) → (ℕ → ℕ) → ℕ → ℕ → ℕ → ℕ
charge_in t second all class area amount = climb t (λ a rest. capped_here (t.caps a) class (second a) (all a) rest) area amount

-- which is the smallest of the amount and what each of these caps has left: at most all of them, and as large as that allows
-- (proofs/Charge.antt: charge_smallest)
pub record SmallestLeft (t : Tree) (second all : ℕ → ℕ) (class area amount charge : ℕ) : Type 0 where
  pub most : charge ≤ amount
  pub left : (x : ℕ) → within t area x ≡ true → Left (t.caps x) class (second x) (all x) charge
  pub greatest :
      (n : ℕ) → n ≤ amount → ((x : ℕ) → within t area x ≡ true → Left (t.caps x) class (second x) (all x) n) → n ≤ charge
