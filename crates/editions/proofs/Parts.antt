-- Each edition's tariff is a part of the file, faultless alone with its counts; so all that holds of a faultless tariff holds of it.
-- Assumes nothing.
use Prim.Native.Nat.{ℕ, ◌+◌, ◌≤◌}
use native.Mathlib.Omega.{arith}
use native.Mathlib.Decide.{ℕ_discrete}
use mathlib.Core.Path.{◌≡◌, refl, sym, ap, ◌∙◌}
use mathlib.Core.List.{List}
use borrow.Author.Tests.{eq-eqb, ne_eqb}
use lib.ListN.{length, take}
use Rattle.layout.specs.Layout.{tariff_size}
use Rattle.layout.specs.declared.Reading.TheVariants as tariff
use Rattle.layout.specs.Scan.{read_tariff, Read}
use Rattle.editions.specs.declared.Edition.{Edition}
use Rattle.editions.specs.declared.Editions.{Editions}
use Rattle.editions.specs.declared.Editions.TheVariants.{One, Two}
use Rattle.editions.specs.declared.FileReading.TheVariants.{Faultless}
use Rattle.editions.specs.Openings.{opening_size, Opened}
use Rattle.editions.specs.Editions.{edition_in, counts_in, tariff_in}
use Rattle.editions.specs.Reading.{ReadFile}
use Rattle.editions.specs.InWords.{first_tariff, second_tariff, SecondBegins, FileSays, one_edition, two_editions}
use Rattle.editions.proofs.OpeningLaws.{opened_fits}
use Rattle.editions.proofs.FileLaws.{alone, says}

-- What a file of one edition is, and one of two.
pub record OneEdition (file : List ℕ) (first : Edition) : Type 0 where
  pub opened : Opened file 0 0 first.since
  pub read : Read (first_tariff file) first.counts

pub record TwoEditions (file : List ℕ) (first second : Edition) : Type 0 where
  pub opened : Opened file 0 0 first.since
  pub begins : SecondBegins file (tariff_size first.counts) first.counts
  pub opened₂ : Opened file (opening_size + tariff_size first.counts) (first.since.0 + 1) second.since
  pub read₂ : Read (second_tariff file (opening_size + tariff_size first.counts)) second.counts

-- The edition of a number, and the bytes of its tariff.
pub edition_one : (first : Edition) (number : ℕ) → edition_in (One first) number ≡ first
unfolding edition_in
edition_one first number = refl

pub tariff_one : (file : List ℕ) (first : Edition) (number : ℕ) → tariff_in file (One first) number ≡ first_tariff file
unfolding tariff_in
tariff_one file first number = refl

module _ (first second : Edition) (number : ℕ) where
  pub edition_second : number ≡ 2 → edition_in (Two first second) number ≡ second
  unfolding edition_in
  edition_second is = rw (eq-eqb number 2 is)

  pub edition_first : (number ≡ 2 → ⊥) → edition_in (Two first second) number ≡ first
  unfolding edition_in
  edition_first other = rw (ne_eqb number 2 other)

module _ (file : List ℕ) (first second : Edition) (number : ℕ) where
  pub tariff_second : number ≡ 2 → tariff_in file (Two first second) number ≡ second_tariff file (opening_size + tariff_size first.counts)
  unfolding tariff_in
  tariff_second is = rw (eq-eqb number 2 is)

  pub tariff_first : (number ≡ 2 → ⊥) → tariff_in file (Two first second) number ≡ take (tariff_size first.counts) (first_tariff file)
  unfolding tariff_in
  tariff_first other = rw (ne_eqb number 2 other)

module _ (file : List ℕ) where
  pub one_read : {first : Edition} → ReadFile file (One first) → OneEdition file first
  one_read {first} e = meant (rw e at (says file))
    where
      meant : FileSays file (Faultless (One first)) → OneEdition file first
      meant (one_edition opened read) = record { opened = opened; read = read }

  -- the second begins where the first's tariff ends
  pub two_read : {first second : Edition} → ReadFile file (Two first second) → TwoEditions file first second
  two_read {first} {second} e = meant (rw e at (says file))
    where
      meant : FileSays file (Faultless (Two first second)) → TwoEditions file first second
      meant (two_editions {since} {since₂} {place} {counts} {counts₂} opened begins opened₂ read) =
          let size : place ≡ tariff_size counts = begins.passed.reached.place in
          record { opened = opened; begins = rw size at begins; opened₂ = rw size at opened₂; read₂ = rw size at read }

  -- Each edition's tariff is faultless, with its counts.
  pub edition_read : (editions : Editions) → ReadFile file editions → (number : ℕ) → Read (tariff_in file editions number) (counts_in editions number)
  edition_read (One first) e number =
      ap read_tariff (tariff_one file first number) ∙ (one_read e).read ∙ ap (λ (x : Edition). tariff.Faultless x.counts) (sym (edition_one first number))
  edition_read (Two first second) e number =
      elim (ℕ_discrete number 2) [
        | yes is ↦
            ap read_tariff (tariff_second file first second number is) ∙ (two_read e).read₂
            ∙ ap (λ (x : Edition). tariff.Faultless x.counts) (sym (edition_second first second number is))
        | no other ↦
            ap read_tariff (tariff_first file first second number other)
            ∙ alone file (tariff_size first.counts) first.counts (two_read e).begins
            ∙ ap (λ (x : Edition). tariff.Faultless x.counts) (sym (edition_first first second number other))
      ]

  -- The records that open them end within the file.
  pub one_fits : {first : Edition} → ReadFile file (One first) → opening_size ≤ length file
  one_fits e = omega (arith, opened_fits file 0 0 (one_read e).opened)

  pub two_fits : {first second : Edition} → ReadFile file (Two first second) → opening_size + tariff_size first.counts + opening_size ≤ length file
  two_fits {first} e = opened_fits file (opening_size + tariff_size first.counts) (first.since.0 + 1) (two_read e).opened₂
