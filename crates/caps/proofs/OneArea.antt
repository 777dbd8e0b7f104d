-- What one cap, and then one area's caps, make of an amount over what was charged before.
-- Assumes nothing.
use Prim.Native.Nat.{ℕ, ◌+◌, ◌≤◌, ◌<◌}
use native.Mathlib.Nat.{le_trans}
use native.Mathlib.Omega.{arith}
use native.Mathlib.Decide.{ℕ_discrete, dec_lt}
use mathlib.Core.Path.{◌≡◌, refl}
use mathlib.Core.Bool.{Bool, true, false, cond}
use borrow.Author.Tests.{eqb-true, eqb-false}
use lib.Dec.{eqb}
use Rattle.units.specs.Caps.{capped_by}
use Rattle.units.proofs.Caps.{capped_most}
use Rattle.units.specs.declared.Cap.{Cap}
use Rattle.units.specs.declared.Cap.TheVariants.{NoCap, UpTo}
use Rattle.caps.specs.declared.Caps.{Caps}
use Rattle.caps.specs.Limits.{left_of, capped_here, AtMost, Full, Left, CapOrder, neither, both}

-- ---- One cap, whichever it is.

-- no charge at all passes a cap
pub nothing_fits : (cap : Cap) → AtMost 0 cap
nothing_fits NoCap = tt
nothing_fits (UpTo most) = omega arith

-- less than what fits, fits
pub less_fits : (cap : Cap) {m n : ℕ} → m ≤ n → AtMost n cap → AtMost m cap
less_fits NoCap h k = tt
less_fits (UpTo most) h k = omega arith

-- a total that takes a charge fits, where the total fits and, if the charge is counted, the charge is at most what is left
pub counted_fits :
    (cap : Cap) (counted : Bool) (total charge : ℕ) → AtMost total cap → (counted ≡ true → AtMost charge (left_of cap total))
    → AtMost (total + cond counted charge 0) cap
unfolding left_of
counted_fits NoCap counted total charge k f = tt
counted_fits (UpTo most) true total charge k f = omega (arith, f refl)
counted_fits (UpTo most) false total charge k f = omega arith

-- a full cap that is not passed stays full
pub stays_full : (cap : Cap) {m n : ℕ} → m ≤ n → AtMost n cap → Full m cap → Full n cap
stays_full NoCap h k f = f
stays_full (UpTo most) h k f = omega arith

-- of an area's two caps the larger is full only where the smaller is
pub smaller_full : (second all : Cap) (n : ℕ) → CapOrder second all → AtMost n second → Full n all → Full n second
smaller_full second all n neither k f = f
smaller_full second all n (both h) k f = omega arith

-- a cap is full, or it is not
pub full_or_not : (cap : Cap) (n : ℕ) → Dec (Full n cap)
full_or_not NoCap n = no (λ f. f)
full_or_not (UpTo most) n = ℕ_discrete n most.0

-- what fits is at most the smaller of the cap and any larger amount
pub fits_capped : (cap : Cap) {m n : ℕ} → m ≤ n → AtMost m cap → m ≤ capped_by cap n
fits_capped NoCap h k = h
fits_capped (UpTo most) h k = omega arith

-- and that smaller one fits
capped_fits : (cap : Cap) (n : ℕ) → AtMost (capped_by cap n) cap
capped_fits NoCap n = tt
capped_fits (UpTo most) n = omega arith

-- where a cap is full, no capped amount is larger
pub full_capped : (cap : Cap) {m : ℕ} (n : ℕ) → Full m cap → capped_by cap n ≤ m
full_capped NoCap n f = absurd f
full_capped (UpTo most) n f = omega arith

-- capping keeps the order
pub capped_mono : (cap : Cap) {m n : ℕ} → m ≤ n → capped_by cap m ≤ capped_by cap n
capped_mono NoCap h = h
capped_mono (UpTo most) h = omega arith

-- and adds nothing to a difference
pub capped_within : (cap : Cap) {m : ℕ} (n k : ℕ) → m ≤ n + k → capped_by cap m ≤ capped_by cap n + k
capped_within NoCap n k h = h
capped_within (UpTo most) n k h = omega arith

-- an amount cut to what a cap has left fills the cap, and so does whatever is then charged of it, if that is all of it
left_full :
    (cap : Cap) (sum amount : ℕ) → AtMost sum cap → capped_by (left_of cap sum) amount < amount
    → Full (sum + capped_by (left_of cap sum) amount) cap
unfolding left_of
left_full NoCap sum amount k h = absurd (omega arith)
left_full (UpTo most) sum amount k h = omega arith

-- what two caps have cut, the same two do not cut again
caps_again : (c d : Cap) (n : ℕ) → capped_by d (capped_by c (capped_by d (capped_by c n))) ≡ capped_by d (capped_by c n)
caps_again NoCap NoCap n = refl
caps_again NoCap (UpTo most) n = omega arith
caps_again (UpTo most) NoCap n = omega arith
caps_again (UpTo most) (UpTo most') n = omega arith

-- ---- One area's caps: a class 2 ride has both, a class 1 ride the all-classes one.

-- a charge leaves one of them exactly full
pub data Fills (caps : Caps) (class second all charge : ℕ) : Type 0 where
  fills_all : Full (all + charge) caps.all → Fills caps class second all charge
  fills_second : class ≡ 2 → Full (second + charge) caps.second → Fills caps class second all charge

-- a smaller amount is at most what is left too
pub less_left : (caps : Caps) {class second all : ℕ} {m n : ℕ} → m ≤ n → Left caps class second all n → Left caps class second all m
less_left caps {class} {second} {all} h f =
    record {
      in_all = less_fits (left_of caps.all all) h f.in_all;
      in-second = λ two. less_fits (left_of caps.second second) h (f.in-second two);
    }

module _ (caps : Caps) (class second all amount : ℕ) where
  -- what the all-classes cap leaves, and what in class 2 the second-class cap leaves of that
  abbrev rest : ℕ
  rest = capped_by (left_of caps.all all) amount

  abbrev least : ℕ
  least = capped_by (left_of caps.second second) rest

  rest_most : rest ≤ amount
  rest_most = capped_most (left_of caps.all all) amount

  least_most : least ≤ rest
  least_most = capped_most (left_of caps.second second) rest

  -- The smallest of an amount and what an area's caps have left is at most the amount,
  pub here_most : capped_here caps class second all amount ≤ amount
  unfolding capped_here
  here_most = go (eqb class 2)
    where
      go : (b : Bool) → cond b least rest ≤ amount
      go true = le_trans least_most rest_most
      go false = rest_most

  -- at most what each cap has left,
  pub here_left : Left caps class second all (capped_here caps class second all amount)
  unfolding capped_here
  here_left = go (eqb class 2) refl
    where
      go : (b : Bool) → eqb class 2 ≡ b → Left caps class second all (cond b least rest)
      go true e =
          record {
            in_all = less_fits (left_of caps.all all) least_most (capped_fits (left_of caps.all all) amount);
            in-second = λ two. capped_fits (left_of caps.second second) rest;
          }
      go false e =
          record { in_all = capped_fits (left_of caps.all all) amount; in-second = λ two. absurd (eqb-false class 2 e two) }

  -- and the greatest such;
  pub here_greatest : (n : ℕ) → n ≤ amount → Left caps class second all n → n ≤ capped_here caps class second all amount
  unfolding capped_here
  here_greatest n h left = go (eqb class 2) refl
    where
      go : (b : Bool) → eqb class 2 ≡ b → n ≤ cond b least rest
      go true e =
          fits_capped (left_of caps.second second) (fits_capped (left_of caps.all all) h left.in_all)
          (left.in-second (eqb-true class 2 e))
      go false e = fits_capped (left_of caps.all all) h left.in_all

  -- it leaves one of them full where it is below the amount, if none was passed before;
  pub here_full :
      AtMost all caps.all → AtMost second caps.second → capped_here caps class second all amount < amount
      → Fills caps class second all (capped_here caps class second all amount)
  unfolding capped_here
  here_full kept₁ kept₂ = go (eqb class 2) refl
    where
      cut : class ≡ 2 → least < amount → Dec (least < rest) → Fills caps class second all least
      cut two h (yes below) = fills_second two (left_full caps.second second rest kept₂ below)
      cut two h (no whole) =
          let same : least ≡ rest = omega (arith, least_most) in
          fills_all (rw same (left_full caps.all all amount kept₁ (omega arith)))

      go : (b : Bool) → eqb class 2 ≡ b → cond b least rest < amount → Fills caps class second all (cond b least rest)
      go true e h = cut (eqb-true class 2 e) h (dec_lt least rest)
      go false e h = fills_all (left_full caps.all all amount kept₁ h)

  -- and the same caps do not cut it again.
  pub here_again : capped_here caps class second all (capped_here caps class second all amount) ≡ capped_here caps class second all amount
  unfolding capped_here
  here_again = go (eqb class 2)
    where
      c : Cap
      c = left_of caps.all all

      d : Cap
      d = left_of caps.second second

      go :
          (both : Bool)
          → cond both (capped_by d (capped_by c (cond both (capped_by d (capped_by c amount)) (capped_by c amount))))
          (capped_by c (cond both (capped_by d (capped_by c amount)) (capped_by c amount)))
          ≡ cond both (capped_by d (capped_by c amount)) (capped_by c amount)
      go true = caps_again c d amount
      go false = caps_again c NoCap amount
