-- Rules, section 10: an area's caps, and what they have left over the sums that count for them.
use Rattle.std.specs.Prelude.{ℕ, ◌-◌, ◌≤◌, ◌≡◌, cond, eqb}
use Rattle.units.specs.Caps.{capped_by}
use Rattle.units.specs.declared.Cents.{Cents}
use Rattle.units.specs.declared.Cap.{Cap}
use Rattle.units.specs.declared.Cap.TheVariants.{NoCap, UpTo}
use Rattle.caps.specs.declared.Caps.{Caps}

-- what a cap has left over a sum: 0 if passed already
unfoldable pub left_of : Cap → ℕ → Cap
left_of NoCap sum = NoCap
left_of (UpTo most) sum = UpTo (record { 0 = most.0 - sum })

-- the smallest of an amount and what an area's caps have left: a class 2 trip has both caps, a class 1 trip the all-classes one
unfoldable pub capped_here : Caps → ℕ → ℕ → ℕ → ℕ → ℕ
capped_here caps class second all amount =
    let rest = capped_by (left_of caps.all all) amount in
    cond (eqb class 2) (capped_by (left_of caps.second second) rest) rest

-- an amount is at most a cap; an amount is exactly a cap
abbrev pub AtMost : ℕ → Cap → Type 0
AtMost amount NoCap = Unit
AtMost amount (UpTo most) = amount ≤ most.0

abbrev pub Full : ℕ → Cap → Type 0
Full amount NoCap = ⊥
Full amount (UpTo most) = amount ≡ most.0

-- an amount is at most what each cap of an area that a ride of the class has, has left
pub record Left (caps : Caps) (class second all amount : ℕ) : Type 0 where
  pub in_all : AtMost amount (left_of caps.all all)
  pub in-second : class ≡ 2 → AtMost amount (left_of caps.second second)

-- an area has both caps or neither, and the second-class one is no larger
pub data CapOrder : Cap → Cap → Type 0 where
  neither : CapOrder NoCap NoCap
  both : {second all : Cents} → second.0 ≤ all.0 → CapOrder (UpTo second) (UpTo all)
