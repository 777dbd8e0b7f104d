-- Started kilometres: the count up from 0 stops at the least k that reaches far enough, and any k that reaches far enough and is
-- least is the one where the count stops. So a search may go another way.
-- Assumes nothing.
use Prim.Native.Nat.{ℕ, zero, suc, ◌+◌, ◌*◌, ◌/◌, ◌≤◌, ◌<◌, max, min}
use native.Mathlib.Nat.{
  mul-le-mul,
  mul-le-mul_left,
  add-mul,
  suc-mul,
  div-lt_iff_lt-mul,
  le_antisymm,
  add-zero,
  add_comm,
  max-eq_left,
  max-eq_right,
  min-eq_left,
  min-eq_right,
}
use native.Mathlib.Omega.{arith}
use native.Mathlib.Decide.{dec_lt}
use mathlib.Core.Path.{◌≡◌, refl, sym}
use mathlib.Core.Bool.{Bool, true, false}
use borrow.Author.Tests.{leb-true, leb-false}
use lib.Dec.{leb}
use Rattle.layout.specs.Rules.{most_metres}
use Rattle.units.specs.Plane.{most_km}
use Rattle.fare.specs.Distance.{square, km_from, km_of, LeastKm}
use Rattle.fare.specs.Clauses.{most_guess}

-- a number that does not reach lies below every number that does
beyond : (d k j : ℕ) → square (1000 * k) < d → d ≤ square (1000 * j) → k < j
beyond d k j short reaches =
    elim (dec_lt k j) [
      | yes h ↦ h
      | no h ↦ let h' : 1000 * j ≤ 1000 * k = omega arith in absurd (omega (arith, mul-le-mul h' h'))
    ]

-- The k that is looked for lies between two numbers: the upper one reaches, and no number below the lower one does.
record Between (d low high : ℕ) : Type 0 where
  reaches : d ≤ square (1000 * high)
  least : (j : ℕ) → d ≤ square (1000 * j) → low ≤ j

-- from 0 on, up to any number that reaches
at_first : (d high : ℕ) → d ≤ square (1000 * high) → Between d 0 high
at_first d high reaches = record { reaches = reaches; least = λ j _. omega arith }

module _ {d low high : ℕ} (s : Between d low high) where
  -- a number that reaches is the upper one from then on
  lowered : (k : ℕ) → d ≤ square (1000 * k) → Between d low k
  lowered k reaches = record { reaches = reaches; least = s.least }

  -- one that does not reach is passed
  raised : (k : ℕ) → square (1000 * k) < d → Between d (k + 1) high
  raised k short = record { reaches = s.reaches; least = λ j reaches. omega (arith, beyond d k j short reaches) }

-- Where the count up from a number stops.
counted : (d more k : ℕ) → Between d k (k + more) → Between d (km_from more k d) (km_from more k d)
unfolding km_from
counted d zero k s = rw add-zero at s
counted d (suc more) k s =
    go (leb d (square (1000 * k))) refl
    (λ short. let e : k + suc more ≡ k + 1 + more = omega arith in counted d more (k + 1) (rw e at (raised s k short)))
  where
    go : (b : Bool) → leb d (square (1000 * k)) ≡ b
        → (square (1000 * k) < d → Between d (km_from more (k + 1) d) (km_from more (k + 1) d))
        → Between d (elim b [ true ↦ k | false ↦ km_from more (k + 1) d ]) (elim b [ true ↦ k | false ↦ km_from more (k + 1) d ])
    go true e later = lowered s k (leb-true _ _ e)
    go false e later = later (leb-false _ _ e)

-- Between any two stops of the plane, whose d is at most this:
module _ (d : ℕ) (h : d ≤ square (1000 * most_km)) where
  km_between : Between d (km_of d) (km_of d)
  unfolding km_of
  km_between = counted d most_km 0 (at_first d most_km h)

  -- The count's kilometres are enough, no fewer are, and they are at most 1,415.
  pub km-holds : d ≤ square (1000 * km_of d)
  km-holds = km_between.reaches

  pub km_least : (j : ℕ) → d ≤ square (1000 * j) → km_of d ≤ j
  km_least = km_between.least

  pub km_range : km_of d ≤ most_km
  km_range = km_least most_km h

  -- Any k that is enough where no fewer are is the count's.
  pub km_unique : (k : ℕ) → d ≤ square (1000 * k) → ((j : ℕ) → d ≤ square (1000 * j) → k ≤ j) → k ≡ km_of d
  km_unique k holds least = le_antisymm (least (km_of d) km-holds) (km_least k holds)

-- What lies between any two stops of the plane is less than what 1,415 kilometres reach.
pub across : (m n : ℕ) → m ≤ most_metres → n ≤ most_metres → square m + square n ≤ 2000000000000
across m n h h' = omega (arith, mul-le-mul h h, mul-le-mul h' h')

-- ---- From a guess, first down and then up.

-- no number up to the largest guess reaches farther than 64 bits go
pub fits : (k : ℕ) → k ≤ most_guess → square (1000 * k) ≤ 4000000000000
fits k most = let reach : 1000 * k ≤ 2000000 = omega arith in omega (arith, mul-le-mul reach reach)

-- what is some way off is not reached without a kilometre
pub some_km : (d k : ℕ) → 0 < d → d ≤ square (1000 * k) → 0 < k
some_km d zero far reaches = absurd (omega arith)
some_km d (suc k) far reaches = omega arith

-- d divided by a way that is not below the longer one is at most twice the longer one
pub divided : (longer shorter near : ℕ) → shorter ≤ longer → longer ≤ near → 0 < near → (square longer + square shorter) / near ≤ longer + longer
divided l s near order far some =
    let small : square l + square s < suc (l + l) * near =
    omega (arith, mul-le-mul order order, mul-le-mul_left l far, suc-mul (l + l) near, add-mul l l near) in
    omega (arith, (div-lt_iff_lt-mul some).1 small)

module _ (d below : ℕ) (h : d ≤ square (1000 * most_km)) (short : square (1000 * below) < d) where
  -- what is not enough is below 1,415 kilometres
  pub short_range : below < most_km
  short_range = beyond d below most_km short h

  -- and where one more is enough, that one is the least
  pub first_reached : d ≤ square (1000 * (below + 1)) → LeastKm d (below + 1)
  first_reached reaches =
      let least : (j : ℕ) → d ≤ square (1000 * j) → below + 1 ≤ j = λ j enough. omega (arith, beyond d below j short enough) in
      record { value = km_unique d h (below + 1) reaches least; holds = reaches; least = least; range = least most_km h }

-- 1,000 m are 1 km, 1,001 m are 2, and 0 m are none.
pub exactly_1000_m : km_of (square 1000) ≡ 1
unfolding km_of km_from
exactly_1000_m = refl

pub just_1001_m : km_of (square 1001) ≡ 2
unfolding km_of km_from
just_1001_m = refl

pub no_metre : km_of 0 ≡ 0
unfolding km_of km_from
no_metre = refl

-- the contract of `least_km` where there is no way to go
pub nowhere : LeastKm 0 0
nowhere = record { value = sym no_metre; holds = omega arith; least = λ j _. omega arith; range = omega arith }

-- the sum of two squares goes by neither number first
pub sorted : (a b : ℕ) → square (max a b) + square (min a b) ≡ square a + square b
sorted a b =
    elim (dec_lt a b) [
      | yes h ↦ rw (max-eq_right (less a b h), min-eq_left (less a b h)) (add_comm (square b) (square a))
      | no h ↦ rw (max-eq_left (more a b h), min-eq_right (more a b h))
    ]
  where
    less : (a b : ℕ) → a < b → a ≤ b
    less a b h = omega arith

    more : (a b : ℕ) → (a < b → ⊥) → b ≤ a
    more a b h = omega arith
