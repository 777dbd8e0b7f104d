-- The lowest place with a number: what the search answers, in words and both ways, and how it goes on from place to place.
-- Assumes nothing.
use Prim.Native.Nat.{ℕ, zero, suc, ◌+◌, ◌-◌, ◌≤◌}
use native.Mathlib.Omega.{arith}
use native.Mathlib.Decide.{ℕ_discrete}
use mathlib.Core.Path.{◌≡◌, refl, ap, ◌∙◌}
use mathlib.Core.List.{List}
use borrow.Author.Tests.{eq-eqb, ne_eqb}
use Rattle.page.specs.declared.Spot.TheVariants.{Nowhere, At}
use Rattle.page.specs.Pages.{number_at, lowest_with}
use Rattle.page.specs.InWords.{Lowest, InNone}

module _ (page : List ℕ) (number : ℕ) where
  -- ---- From place to place.

  pub lowest_none : (first : ℕ) → lowest_with page first 0 number ≡ Nowhere
  unfolding lowest_with
  lowest_none first = refl

  pub lowest_here : (first count : ℕ) → 1 ≤ count → number_at page first ≡ number → lowest_with page first count number ≡ At first
  unfolding lowest_with
  lowest_here first zero some e = absurd (omega arith)
  lowest_here first (suc count) some e = rw (eq-eqb (number_at page first) number e)

  pub lowest_next :
      (first count : ℕ) → 1 ≤ count → (number_at page first ≡ number → ⊥)
      → lowest_with page first count number ≡ lowest_with page (first + 1) (count - 1) number
  unfolding lowest_with
  lowest_next first zero some ne = absurd (omega arith)
  lowest_next first (suc count) some ne =
      let less : suc count - 1 ≡ count = omega arith in
      rw (ne_eqb (number_at page first) number ne, less)

  -- ---- In words.

  pub at_lowest : (first count place : ℕ) → Lowest page number first count place → lowest_with page first count number ≡ At place
  at_lowest first zero place l = absurd (omega (arith, l.from, l.within))
  at_lowest first (suc count) place l =
      elim (ℕ_discrete place first) [
        | yes e ↦ rw e (lowest_here first (suc count) (omega arith) (rw (← e) l.there))
        | no ne ↦
            lowest_next first (suc count) (omega arith) (l.not_before first (omega arith) (omega (arith, l.from)))
            ∙ ap (λ (n : ℕ). lowest_with page (first + 1) n number) (omega arith)
            ∙ at_lowest (first + 1) count place
            (record {
              from = omega (arith, l.from);
              within = omega (arith, l.within);
              there = l.there;
              not_before = λ i low high. l.not_before i (omega arith) high;
            })
      ]

  pub nowhere_lowest : (first count : ℕ) → InNone page number first count → lowest_with page first count number ≡ Nowhere
  nowhere_lowest first zero none = lowest_none first
  nowhere_lowest first (suc count) none =
      lowest_next first (suc count) (omega arith) (none first (omega arith) (omega arith))
      ∙ ap (λ (n : ℕ). lowest_with page (first + 1) n number) (omega arith)
      ∙ nowhere_lowest (first + 1) count (λ i low high. none i (omega arith) (omega arith))

  -- where the search ends: one of the two holds
  pub data Searched (first count : ℕ) : Type 0 where
    in-none : InNone page number first count → Searched first count
    in_one : (place : ℕ) → Lowest page number first count place → Searched first count

  pub searched : (first count : ℕ) → Searched first count
  searched first zero = in-none (λ i low high is. omega arith)
  searched first (suc count) =
      elim (ℕ_discrete (number_at page first) number) [
        | yes e ↦
            in_one first
            (record { from = omega arith; within = omega arith; there = e; not_before = λ i low high is. omega arith })
        | no ne ↦ go (searched (first + 1) count) ne
      ]
    where
      go : Searched (first + 1) count → (number_at page first ≡ number → ⊥) → Searched first (suc count)
      go (in-none none) ne =
          in-none
          (λ i low high is.
          elim (ℕ_discrete i first) [ yes e ↦ ne (rw e at is) | no other ↦ none i (omega arith) (omega arith) is ])
      go (in_one place l) ne =
          in_one place
          (record {
            from = omega (arith, l.from);
            within = omega (arith, l.within);
            there = l.there;
            not_before = λ i low high is.
                elim (ℕ_discrete i first) [ yes e ↦ ne (rw e at is) | no other ↦ l.not_before i (omega arith) high is ];
          })

  pub lowest_says : (first count place : ℕ) → lowest_with page first count number ≡ At place → Lowest page number first count place
  lowest_says first count place e = go (searched first count)
    where
      go : Searched first count → Lowest page number first count place
      go (in-none none) = absurd (let z : ◌≡◌ {A = ℕ} 0 1 = cc (nowhere_lowest first count none, e) in omega arith)
      go (in_one other l) =
          let same : other ≡ place = cc (at_lowest first count other l, e) in
          rw (← same) l

  pub nowhere_says : (first count : ℕ) → lowest_with page first count number ≡ Nowhere → InNone page number first count
  nowhere_says first count e = go (searched first count)
    where
      go : Searched first count → InNone page number first count
      go (in-none none) = none
      go (in_one other l) = absurd (let z : ◌≡◌ {A = ℕ} 0 1 = cc (at_lowest first count other l, e) in omega arith)
