-- In a tariff the first faulty record decides. A fault is given exactly when all before its place is faultless and what stands there is
-- not; its number says what is wrong, and is 1, 2 or 3.
-- Assumes nothing.
use Rattle.std.proofs.Common.{◌≡◌, ℕ, ◌≤◌, ◌⊎◌, ◌↔◌, List, inl, inr, ⊎_elim, arith}
use Rattle.layout.specs.declared.Counts.{Counts}
use Rattle.layout.specs.declared.Reading.TheVariants.{Fault}
use Rattle.layout.specs.Layout.{longest_tariff}
use Rattle.layout.specs.Scan.{read_tariff, FaultlessUntil, FirstFault, BrokenFrame, OutOfPlace, WrongValue, FaultSays, one, two, three}
use Rattle.layout.proofs.Entries.{fault_entry, fault_given}
use Rattle.layout.proofs.FaultlessUntil.{Ends, fault, ends, at_fault, early}

-- A fault that is given is the first: every record before its place is faultless, and what stands there has that fault.
pub first_fault :
    (b : List ℕ) (number at : ℕ) → read_tariff b ≡ Fault number at → (so_far : Counts) × FirstFault b number at so_far
first_fault b number at e = met (rw e at (ends b))
  where
    met : Ends b (Fault number at) → (so_far : Counts) × FirstFault b number at so_far
    met (fault so_far first) = (so_far, first)

-- It is given exactly when all before its place is faultless, and there is wrong what its number says.
pub fault_exactly :
    (b : List ℕ) (number at : ℕ)
    → (read_tariff b ≡ Fault number at)
    ↔ ((so_far : Counts) × FaultlessUntil b at so_far × FaultSays b at so_far number)
fault_exactly b number at = (
  λ e. let (so_far, first) = first_fault b number at e in (so_far, first.passed, fault_entry b at so_far number first.faulty),
  λ w. at_fault b number at w.0 (record { passed = w.1; faulty = fault_given b at w.0 w.2 }),
)

-- What is wrong at the first fault, by its number.
module _ (b : List ℕ) (number at : ℕ) (so_far : Counts) (first : FirstFault b number at so_far) where
  pub fault_says : FaultSays b at so_far number
  fault_says = fault_entry b at so_far number first.faulty

  pub fault_number : (number ≡ 1) ⊎ (number ≡ 2) ⊎ (number ≡ 3)
  fault_number = elim fault_says [ one e w ↦ inl e | two e w ↦ inr (inl e) | three e w ↦ inr (inr e) ]

  pub fault_one : number ≡ 1 → BrokenFrame b at
  fault_one is = elim fault_says [ one e w ↦ w | two e w ↦ absurd (omega arith) | three e w ↦ absurd (omega arith) ]

  pub fault_two : number ≡ 2 → OutOfPlace b at so_far
  fault_two is = elim fault_says [ one e w ↦ absurd (omega arith) | two e w ↦ w | three e w ↦ absurd (omega arith) ]

  pub fault_three : number ≡ 3 → WrongValue b at so_far
  fault_three is = elim fault_says [ one e w ↦ absurd (omega arith) | two e w ↦ absurd (omega arith) | three e w ↦ w ]

-- A tariff's fault is 1, 2 or 3, at a place no later than the longest tariff's end.
pub fault_most : (b : List ℕ) (number at : ℕ) → read_tariff b ≡ Fault number at → (number ≤ 3) × (at ≤ longest_tariff)
fault_most b number at e =
    let (so_far, first) = first_fault b number at e in (
      ⊎_elim (λ one. omega arith) (λ rest. ⊎_elim (λ two. omega arith) (λ three. omega arith) rest)
          (fault_number b number at so_far first),
      early b at so_far first.passed,
    )
