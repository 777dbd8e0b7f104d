-- What serves the contracts of alike.rt alone: riders whose sums are those of the rider before.
use Rattle.std.specs.Prelude.{ℕ, ◌+◌, ◌<◌, ◌≡◌, Bool, true, List}
use Rattle.ledger.specs.Words.{second_sum, all_sum}
use Rattle.charging.specs.declared.limits.Chain.{Chain}
use Rattle.charging.specs.declared.alike.Last.{Last}
use Rattle.charging.specs.Clauses.{person_by}

-- the two sums in an area of the rider behind one are that one's
pub record SameAt (w : List ℕ) (before area : ℕ) : Type 0 where
  pub second : second_sum w (before + 1) area ≡ second_sum w before area
  pub all : all_sum w (before + 1) area ≡ all_sum w before area

-- and what a test of them tells
pub record SamePair (w : List ℕ) (before area : ℕ) (r : Bool) : Type 0 where
  pub told : r ≡ true → SameAt w before area

-- they are in all areas of a chain
pub record SameSums (chain : Chain) (w : List ℕ) (before : ℕ) : Type 0 where
  pub own : SameAt w before chain.own.area
  pub above : SameAt w before chain.above.area
  pub top : SameAt w before chain.top.area

pub record AsBefore (chain : Chain) (w : List ℕ) (before : ℕ) (r : Bool) : Type 0 where
  pub told : r ≡ true → SameSums chain w before

-- what is held is of the rider before one, where that is the next: that there is such a rider, and what it is charged
pub record LastRight (chain : Chain) (w : List ℕ) (rider class price : ℕ) (last : Last) : Type 0 where
  pub told : rider ≡ last.next → (before : ℕ) → rider ≡ before + 1 → last.charge ≡ person_by chain w before class last.paid price
  pub after : rider ≡ last.next → 0 < rider
