-- What serves the contracts of blocks.rt alone: what the joined words of stops tell.
use Rattle.std.specs.Prelude.{◌≡◌, ℕ, ◌/◌, ◌%◌, ◌^◌, Bool, true, List, bit_or}
use Rattle.scan.specs.declared.blocks.Sums.{Sums}
use Rattle.scan.specs.Clauses.{StopsStand}

-- so many bits of a number, from one on
abbrev pub bits : ℕ → ℕ → ℕ → ℕ
bits from many n = n / 2 ^ from % 2 ^ many

-- the bits that a wrong field sets are clear: of the area those from 32 on, of length and kind all, of x and y those from 2 ^ 20 on
pub record Clear (s : Sums) : Type 0 where
  pub area : bits 61 3 s.head ≡ 0
  pub area_moved : bits 61 3 s.head_moved ≡ 0
  pub head-moved : bits 24 32 s.head_moved ≡ 0
  pub x : bits 20 12 s.point ≡ 0
  pub y : bits 52 12 s.point ≡ 0
  pub x_moved : bits 20 12 s.point_moved ≡ 0
  pub y_moved : bits 52 12 s.point_moved ≡ 0

-- where they are, so many stops stand from a place on
pub record Tells (b : List ℕ) (at areas many : ℕ) (s : Sums) : Type 0 where
  pub told : Clear s → StopsStand b at areas many

-- what a test of them tells
pub record ClearIf (s : Sums) (r : Bool) : Type 0 where
  pub told : r ≡ true → Clear s

-- words joined
abbrev pub joined_sums : Sums → Sums → Sums
joined_sums s t =
    record {
      head = bit_or s.head t.head;
      point = bit_or s.point t.point;
      head_moved = bit_or s.head_moved t.head_moved;
      point_moved = bit_or s.point_moved t.point_moved;
    }
