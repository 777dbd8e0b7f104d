-- Rules, sections 10 and 17: a rider's rides in one window, the latest first, whatever their prices are, and what their charges add up to.
use Rattle.std.specs.Prelude.{ℕ, zero, suc, ◌+◌, ◌≤◌, ◌<◌, ◌≡◌, Bool, true, cond, ◌&&◌, eqb, ltb}
use mathlib.Core.List.{List, [], ◌∷◌, ◌++◌, Memᴰ, Permᴰ}
use Rattle.units.specs.Caps.{capped_by}
use Rattle.units.specs.declared.Cap.{Cap}
use Rattle.caps.specs.Limits.{AtMost, Full}
use Rattle.caps.specs.Tree.{Tree, within, charge_in}

-- a ride as far as caps see it
pub record ChargedRide : Type 0 where
  pub area : ℕ
  pub class : ℕ
  pub price : ℕ
  pub charge : ℕ

-- the total of the charges of all rides within an area
unfoldable pub all_total : Tree → ℕ → List ChargedRide → ℕ
all_total t x [] = 0
all_total t x (e ∷ es) = all_total t x es + cond (within t e.area x) e.charge 0

-- the total of the charges of second-class rides within an area
unfoldable pub second_total : Tree → ℕ → List ChargedRide → ℕ
second_total t x [] = 0
second_total t x (e ∷ es) = second_total t x es + cond (eqb e.class 2 && within t e.area x) e.charge 0

-- each ride was charged what the caps had left over the totals of the rides before it
pub data ChargedInTurn (t : Tree) : List ChargedRide → Type 0 where
  none : ChargedInTurn t []
  more :
      {e : ChargedRide} {es : List ChargedRide} → ChargedInTurn t es → e.area < t.size
      → e.charge ≡ charge_in t (λ a. second_total t a es) (λ a. all_total t a es) e.class e.area e.price
      → ChargedInTurn t (e ∷ es)

-- one of the caps that a ride has is exactly full: the all-classes cap of its area or of one above, or in class 2 a second-class one
pub data CapFull (t : Tree) (e : ChargedRide) (es : List ChargedRide) : Type 0 where
  all_full : (x : ℕ) → x < t.size → within t e.area x ≡ true → Full (all_total t x es) (t.caps x).all → CapFull t e es
  second_full :
      (x : ℕ) → x < t.size → within t e.area x ≡ true → e.class ≡ 2 → Full (second_total t x es) (t.caps x).second → CapFull t e es

-- the total of all charges
unfoldable pub charges : List ChargedRide → ℕ
charges [] = 0
charges (e ∷ es) = charges es + e.charge

-- ---- What totals alone give, where all rides are of one class.

-- all rides are of one class
unfoldable pub one_class : ℕ → List ChargedRide → Bool
one_class class [] = true
one_class class (e ∷ es) = eqb e.class class && one_class class es

-- the cap that counts for a class: the second-class cap in class 2, the all-classes cap in class 1
abbrev pub cap_of : Tree → ℕ → ℕ → Cap
cap_of t class x = cond (eqb class 2) (t.caps x).second (t.caps x).all

-- the prices of an area's own rides
unfoldable pub own_prices : ℕ → List ChargedRide → ℕ
own_prices x [] = 0
own_prices x (e ∷ es) = own_prices x es + cond (eqb e.area x) e.price 0

-- an area lies right below another: it has a parent, and that is the other
abbrev pub child_of : Tree → ℕ → ℕ → Bool
child_of t y x = ltb 0 (t.level y) && eqb (t.parent y) x

-- f y for each area y below n that lies right below x, added up
unfoldable pub over_children : Tree → ℕ → (ℕ → ℕ) → ℕ → ℕ
over_children t x f zero = 0
over_children t x f (suc n) = over_children t x f n + cond (child_of t n x) (f n) 0

-- an area's result: the smaller of its cap and its own rides' prices with the results of the areas right below it, which reach `depth` down
unfoldable pub result_of : Tree → ℕ → List ChargedRide → ℕ → ℕ → ℕ
result_of t class es zero x = capped_by (cap_of t class x) (own_prices x es)
result_of t class es (suc depth) x =
    capped_by (cap_of t class x) (own_prices x es + over_children t x (result_of t class es depth) t.size)

-- the whole: the state's result, with regions below it and cities below them
abbrev pub totals_alone : Tree → ℕ → List ChargedRide → ℕ
totals_alone t class es = result_of t class es 2 0

-- ---- The order of rides.

-- each ride's area and price, whatever it was charged
unfoldable pub prices_of : List ChargedRide → List (ℕ × ℕ)
prices_of [] = []
prices_of (e ∷ es) = (e.area, e.price) ∷ prices_of es

-- the same areas and prices in another order: none; one more in front; two exchanged; one change of order after another
abbrev pub Reordered : List ChargedRide → List ChargedRide → Type 0
Reordered es fs = Permᴰ (prices_of es) (prices_of fs)

-- ---- A dearer price.

-- the same areas and prices in any order, but for one ride: in the same area its price is `increase` more
pub record OneDearer (increase : ℕ) (es fs : List ChargedRide) : Type 0 where
  pub area : ℕ
  pub price : ℕ
  pub others : List (ℕ × ℕ)
  pub old : Permᴰ (prices_of es) ((area, price) ∷ others)
  pub new : Permᴰ (prices_of fs) ((area, price + increase) ∷ others)

-- ---- Promise 3.

-- of one rider's rides in one window, the latest first, in the tree of areas with the rider's caps: no charge exceeds its price; no cap is
-- passed; a charge below its price leaves one of that ride's caps exactly full, where `es` are the rides before it and `later` those after
-- it; and rides of one class add up to what totals alone give
pub record PromiseThree (t : Tree) (rides : List ChargedRide) : Type 0 where
  pub at_most_prices : (e : ChargedRide) → Memᴰ e rides → e.charge ≤ e.price
  pub caps_hold :
      (x : ℕ) → x < t.size → AtMost (all_total t x rides) (t.caps x).all × AtMost (second_total t x rides) (t.caps x).second
  pub cut_at_full :
      (later : List ChargedRide) (e : ChargedRide) (es : List ChargedRide) → rides ≡ later ++ e ∷ es → e.charge < e.price → CapFull t e (e ∷ es)
  pub one_class_adds : (class : ℕ) → one_class class rides ≡ true → charges rides ≡ totals_alone t class rides
