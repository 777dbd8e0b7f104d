-- Which edition is in force at a minute, both ways in words; in a file that was read the second's first minute is after the first's.
-- Assumes nothing.
use Prim.Native.Nat.{ℕ, ◌+◌, ◌≤◌, ◌<◌}
use native.Mathlib.Omega.{arith}
use native.Mathlib.Decide.{ℕ_discrete, dec_lt}
use mathlib.Core.Path.{◌≡◌, refl, ap}
use mathlib.Core.Logic.{◌↔◌}
use mathlib.Core.List.{List}
use borrow.Author.Tests.{le-leb, lt-leb}
use Rattle.calendar.specs.Stamps.{last_minute}
use Rattle.editions.specs.declared.Edition.{Edition}
use Rattle.editions.specs.declared.Editions.{Editions}
use Rattle.editions.specs.declared.Editions.TheVariants.{One, Two}
use Rattle.editions.specs.Openings.{opening_size}
use Rattle.editions.specs.Editions.{many_of, since_of, in_force, InForce, it, none}
use Rattle.editions.specs.Reading.{ReadFile}
use Rattle.layout.specs.Layout.{tariff_size}
use Rattle.editions.proofs.OpeningLaws.{opened_minute}
use Rattle.editions.proofs.Parts.{one_read, two_read, edition_one, edition_first, edition_second}

pub many_one : (first : Edition) → many_of (One first) ≡ 1
unfolding many_of
many_one first = refl

pub many_two : (first second : Edition) → many_of (Two first second) ≡ 2
unfolding many_of
many_two first second = refl

since_one : (first : Edition) (number : ℕ) → since_of (One first) number ≡ first.since.0
since_one first number = ap (λ (e : Edition). e.since.0) (edition_one first number)

since_first : (first second : Edition) → since_of (Two first second) 1 ≡ first.since.0
since_first first second = ap (λ (e : Edition). e.since.0) (edition_first first second 1 (λ e. omega arith))

since_second : (first second : Edition) → since_of (Two first second) 2 ≡ second.since.0
since_second first second = ap (λ (e : Edition). e.since.0) (edition_second first second 2 refl)

-- each way through `in_force`
module _ (first : Edition) (minute : ℕ) where
  one_valid : first.since.0 ≤ minute → in_force (One first) minute ≡ 1
  unfolding in_force
  one_valid h = rw (le-leb first.since.0 minute h)

  one_not_yet : minute < first.since.0 → in_force (One first) minute ≡ 0
  unfolding in_force
  one_not_yet h = rw (lt-leb first.since.0 minute h)

module _ (first second : Edition) (minute : ℕ) where
  second_valid : second.since.0 ≤ minute → in_force (Two first second) minute ≡ 2
  unfolding in_force
  second_valid h = rw (le-leb second.since.0 minute h)

  module _ (not-second : minute < second.since.0) where
    first_valid : first.since.0 ≤ minute → in_force (Two first second) minute ≡ 1
    unfolding in_force
    first_valid h = rw (lt-leb second.since.0 minute not-second, le-leb first.since.0 minute h)

    none_valid : minute < first.since.0 → in_force (Two first second) minute ≡ 0
    unfolding in_force
    none_valid h = rw (lt-leb second.since.0 minute not-second, lt-leb first.since.0 minute h)

in_words : (editions : Editions) (minute : ℕ) → InForce editions minute (in_force editions minute)
in_words (One first) minute =
    elim (dec_lt minute first.since.0) [
      | yes before ↦
          rw (one_not_yet first minute before) (none refl (λ each least most. omega (arith, since_one first each)))
      | no since ↦
          rw (one_valid first minute (omega arith))
          (it (omega arith) (omega (arith, many_one first)) (omega (arith, since_one first 1))
          (λ later more most. absurd (omega (arith, many_one first))))
    ]
in_words (Two first second) minute =
    elim (dec_lt minute second.since.0) [
      | no since ↦
          rw (second_valid first second minute (omega arith))
          (it (omega arith) (omega (arith, many_two first second)) (omega (arith, since_second first second))
          (λ later more most. absurd (omega (arith, many_two first second))))
      | yes before ↦
          elim (dec_lt minute first.since.0) [
            | no since ↦
                rw (first_valid first second minute before (omega arith))
                (it (omega arith) (omega (arith, many_two first second)) (omega (arith, since_first first second))
                (λ later more most.
                let two : later ≡ 2 = omega (arith, many_two first second) in rw two (omega (arith, since_second first second))))
            | yes earlier ↦
                rw (none_valid first second minute before earlier)
                (none refl
                (λ each least most.
                elim (dec_lt each 2) [
                  | yes is ↦ let one : each ≡ 1 = omega arith in rw one (omega (arith, since_first first second))
                  | no is ↦
                      let two : each ≡ 2 = omega (arith, many_two first second) in rw two (omega (arith, since_second first second))
                ]))
          ]
    ]

-- only one can be: of two the later would be after the minute
one_in_force : (editions : Editions) (minute m n : ℕ) → InForce editions minute m → InForce editions minute n → m ≡ n
one_in_force editions minute m n (it l₁ m₁ s₁ later₁) (it l₂ m₂ s₂ later₂) =
    elim (dec_lt m n) [
      | yes less ↦ absurd (omega (arith, later₁ n less m₂))
      | no not-less ↦ elim (dec_lt n m) [ yes more ↦ absurd (omega (arith, later₂ m more m₁)) | no not_more ↦ omega arith ]
    ]
one_in_force editions minute m n (it l₁ m₁ s₁ later₁) (none e each) = absurd (omega (arith, each m l₁ m₁))
one_in_force editions minute m n (none e each) (it l₂ m₂ s₂ later₂) = absurd (omega (arith, each n l₂ m₂))
one_in_force editions minute m n (none e each) (none e₂ each₂) = omega arith

-- An edition's number is given exactly when that edition is in force.
pub in-force-exactly : (editions : Editions) (minute number : ℕ) → (in_force editions minute ≡ number) ↔ InForce editions minute number
in-force-exactly editions minute number = (
  λ e. rw e at (in_words editions minute),
  λ w. one_in_force editions minute (in_force editions minute) number (in_words editions minute) w,
)

pub in-force-most : (editions : Editions) (minute : ℕ) → in_force editions minute ≤ many_of editions
in-force-most editions minute = bound (in_words editions minute)
  where
    bound : InForce editions minute (in_force editions minute) → in_force editions minute ≤ many_of editions
    bound (it least most since later) = most
    bound (none e each) = omega arith

-- Each edition's first minute is one of a book's minutes, and the second's is after the first's.
module _ (file : List ℕ) where
  pub dates_rise : {first second : Edition} → ReadFile file (Two first second) → first.since.0 < second.since.0
  dates_rise e = omega (arith, (two_read file e).opened₂.late)

  pub since_most : (editions : Editions) → ReadFile file editions → (number : ℕ) → since_of editions number ≤ last_minute
  since_most (One first) e number = omega (arith, since_one first number, opened_minute file 0 0 (one_read file e).opened)
  since_most (Two first second) e number =
      let facts = two_read file e in
      elim (ℕ_discrete number 2) [
        | yes is ↦
            let same = ap (λ (x : Edition). x.since.0) (edition_second first second number is) in
            omega
            (arith, same, opened_minute file (opening_size + tariff_size first.counts) (first.since.0 + 1) facts.opened₂)
        | no other ↦
            let same = ap (λ (x : Edition). x.since.0) (edition_first first second number other) in
            omega (arith, same, opened_minute file 0 0 facts.opened)
      ]
