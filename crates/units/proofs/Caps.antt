-- What a cap makes of an amount.
-- Assumes nothing.
use Prim.Native.Nat.{ℕ, ◌≤◌, min}
use native.Mathlib.Nat.{le_refl, min-le_left}
use mathlib.Core.Path.{◌≡◌, refl}
use Rattle.units.specs.Caps.{capped_by, Capped}
use Rattle.units.specs.declared.Cents.{Cents}
use Rattle.units.specs.declared.Cap.{Cap}
use Rattle.units.specs.declared.Cap.TheVariants.{NoCap, UpTo}

-- A capped amount is at most the amount.
pub capped_most : (cap : Cap) (amount : ℕ) → capped_by cap amount ≤ amount
capped_most NoCap n = le_refl n
capped_most (UpTo most) n = min-le_left n most.0

-- the contract of `capped` under a cap, from the smaller of the two
pub up_to : (amount : ℕ) (cap : Cap) (most : Cents) (r : ℕ) → cap ≡ UpTo most → r ≡ min amount most.0 → Capped amount cap r
up_to n limit most r e v = rw (e, v) (record { value = refl; range = min-le_left n most.0 })
