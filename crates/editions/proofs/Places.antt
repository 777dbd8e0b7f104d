-- Where an edition's tariff stands in a faultless file: within it, and what stands there is the tariff. And that there are at most two editions.
-- Assumes nothing.
use Prim.Native.Nat.{ℕ, ◌+◌, ◌-◌, ◌≤◌}
use native.Mathlib.Omega.{arith}
use native.Mathlib.Nat.{le_refl}
use native.Mathlib.Decide.{ℕ_discrete}
use mathlib.Core.Path.{◌≡◌, ap}
use mathlib.Core.List.{List}
use borrow.Author.Tests.{eq-eqb, ne_eqb}
use lib.ListN.{length, take, drop}
use Rattle.layout.specs.Layout.{tariff_size}
use Rattle.editions.specs.declared.Editions.{Editions}
use Rattle.editions.specs.declared.Editions.TheVariants.{One, Two}
use Rattle.editions.specs.Openings.{opening_size}
use Rattle.editions.specs.Editions.{many_of, tariff_in, start_in, end_in}
use Rattle.editions.specs.Reading.{ReadFile}
use Rattle.editions.proofs.Ways.{rest}
use Rattle.editions.proofs.Parts.{one_fits, two_fits}

pub many_most : (editions : Editions) → many_of editions ≤ 2
unfolding many_of
many_most (One first) = omega arith
many_most (Two first second) = omega arith

-- the first of two ends before the second is opened
first-part : (file : List ℕ) (size : ℕ) → take (opening_size + size - opening_size) (drop opening_size file) ≡ take size (drop opening_size file)
first-part file size = let same : opening_size + size - opening_size ≡ size = omega arith in ap (λ (n : ℕ). take n (drop opening_size file)) same

pub record Stands (file : List ℕ) (editions : Editions) (number : ℕ) : Type 0 where
  pub order : start_in editions number ≤ end_in file editions number
  pub within : end_in file editions number ≤ length file
  pub there : take (end_in file editions number - start_in editions number) (drop (start_in editions number) file) ≡ tariff_in file editions number

pub stands : (file : List ℕ) (editions : Editions) → ReadFile file editions → (number : ℕ) → Stands file editions number
unfolding start_in end_in tariff_in
stands file (One first) e number = record { order = one_fits file e; within = le_refl _; there = rest opening_size file }
stands file (Two first second) e number =
    let fits = two_fits file e in
    let size = tariff_size first.counts in
    elim (ℕ_discrete number 2) [
      | yes is ↦
          let two = eq-eqb number 2 is in
          record {
            order = rw two fits;
            within = rw two (le_refl (length file));
            there = rw two (rest (opening_size + size + opening_size) file);
          }
      | no other ↦
          let two = ne_eqb number 2 other in
          record {
            order = rw two (omega arith);
            within = rw two (omega (arith, fits));
            there = rw two (first-part file size);
          }
    ]
