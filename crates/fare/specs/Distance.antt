-- Rules, section 7: kilometres are the least k with dx² + dy² ≤ (1,000k)².
use Rattle.std.specs.Prelude.{ℕ, zero, suc, ◌+◌, ◌-◌, ◌*◌, ◌≤◌, ◌≡◌, true, false, leb}
use Rattle.units.specs.Plane.{most_km}
use Rattle.layout.specs.declared.Stop.{Stop}

abbrev pub square : ℕ → ℕ
square n = n * n

-- the difference of two numbers, the smaller from the larger
abbrev pub gap : ℕ → ℕ → ℕ
gap a b = (a - b) + (b - a)

-- dx² + dy² between two stops
unfoldable pub apart : Stop → Stop → ℕ
apart p q = square (gap p.x.0 q.x.0) + square (gap p.y.0 q.y.0)

-- the first k from a number on with d ≤ (1,000k)², looked for at so many numbers
unfoldable pub km_from : ℕ → ℕ → ℕ → ℕ
km_from zero k d = k
km_from (suc more) k d = elim (leb d (square (1000 * k))) [ true ↦ k | false ↦ km_from more (k + 1) d ]

-- the least k
unfoldable pub km_of : ℕ → ℕ
km_of d = km_from most_km 0 d

-- k kilometres are enough, and no fewer are
pub record LeastKm (d k : ℕ) : Type 0 where
  pub value : k ≡ km_of d
  pub holds : d ≤ square (1000 * k)
  pub least : (j : ℕ) → d ≤ square (1000 * j) → k ≤ j
  pub range : k ≤ most_km
