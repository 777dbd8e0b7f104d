-- Tests joined by "and" and "or": what they say together.
-- Assumes nothing.
use mathlib.Core.Path.{◌≡◌, refl}
use mathlib.Core.Bool.{Bool, true, false, ◌&&◌, ◌||◌, false≢true}
use borrow.Author.Tests.{leb-true, ltb-true, eqb-true}

-- Where two tests hold together, each holds.
pub both_left : (s t : Bool) → s && t ≡ true → s ≡ true
both_left true t e = refl
both_left false t e = e

pub both_right : (s t : Bool) → s && t ≡ true → t ≡ true
both_right true t e = e
both_right false t e = absurd (false≢true e)

-- Where one of two tests holds, or one of three, what follows from each holds.
pub one_of {ℓ} : {P : Type ℓ} (s t : Bool) → s || t ≡ true → (s ≡ true → P) → (t ≡ true → P) → P
one_of true t e left right = left refl
one_of false t e left right = right e

pub one_of_three {ℓ} : {P : Type ℓ} (s t u : Bool) → s || t || u ≡ true → (s ≡ true → P) → (t ≡ true → P) → (u ≡ true → P) → P
one_of_three true t u e one two three = one refl
one_of_three false t u e one two three = one_of t u e two three

-- A test beside one that fails decides alone.
pub or_none : (t : Bool) → t || false ≡ t
or_none true = refl
or_none false = refl

-- One of three tests that holds is enough.
pub second_holds : (s t u : Bool) → t ≡ true → s || t || u ≡ true
second_holds true t u e = refl
second_holds false t u e = rw e

pub third-holds : (s t u : Bool) → u ≡ true → s || t || u ≡ true
third-holds true t u e = refl
third-holds false true u e = refl
third-holds false false u e = e

-- What tests that hold together say of the numbers.
pub ruleset told = (both_left, both_right, leb-true, ltb-true, eqb-true)
