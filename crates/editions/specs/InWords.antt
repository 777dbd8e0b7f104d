-- Rules, section 4, in words: what a file is read as. It is faultless where its one edition, or both, are; else its first faulty record decides.
use Rattle.std.specs.Prelude.{ℕ, ◌+◌, ◌<◌, ◌≡◌, List, drop}
use Rattle.units.specs.declared.Minutes.{Minutes}
use Rattle.wire.specs.Frame.{frame_at}
use Rattle.wire.specs.declared.Frame.TheVariants.{Whole}
use Rattle.layout.specs.declared.Counts.{Counts}
use Rattle.layout.specs.Rules.{factors_due}
use Rattle.layout.specs.Scan.{Read, FaultlessUntil, FaultSays}
use Rattle.editions.specs.declared.Editions.TheVariants.{One, Two}
use Rattle.editions.specs.declared.FileReading.{FileReading}
use Rattle.editions.specs.declared.FileReading.TheVariants.{Fault, Faultless}
use Rattle.editions.specs.Openings.{edition_kind, opening_size, Opened, OpeningSays}

-- the first edition's tariff, and the second's that begins at a place of the file
abbrev pub first_tariff : List ℕ → List ℕ
first_tariff file = drop opening_size file

abbrev pub second_tariff : List ℕ → ℕ → List ℕ
second_tariff file at = drop (at + opening_size) file

-- the second edition begins behind so many bytes of the first's tariff: all records before are faultless, an area is among them and every factor
-- record that is due, and a record of kind 9 follows
pub record SecondBegins (file : List ℕ) (place : ℕ) (counts : Counts) : Type 0 where
  pub passed : FaultlessUntil (first_tariff file) place counts
  pub some : 0 < counts.areas
  pub all : counts.factors ≡ factors_due (first_tariff file) counts
  pub body : ℕ
  pub frame : frame_at file (opening_size + place) ≡ Whole edition_kind body

-- what a file is read as, and when
pub data FileSays (file : List ℕ) : FileReading → Type 0 where
  -- the first edition is not opened
  first_opening : {number : ℕ} → OpeningSays file 0 0 number → FileSays file (Fault number 0)
  -- its tariff has a first fault, at which the second edition does not begin
  first-tariff : {since : Minutes} {number place : ℕ} {so_far : Counts} → Opened file 0 0 since → FaultlessUntil (first_tariff file) place so_far
      → FaultSays (first_tariff file) place so_far number → (SecondBegins file place so_far → ⊥) → FileSays file (Fault number (opening_size + place))
  -- the file ends with it
  one_edition : {since : Minutes} {counts : Counts} → Opened file 0 0 since → Read (first_tariff file) counts
      → FileSays file (Faultless (One (record { since = since; counts = counts })))
  -- the second edition begins, and is not opened: its date has to be after the first's
  second_opening : {since : Minutes} {number place : ℕ} {counts : Counts} → Opened file 0 0 since → SecondBegins file place counts
      → OpeningSays file (opening_size + place) (since.0 + 1) number → FileSays file (Fault number (opening_size + place))
  -- its tariff has a first fault
  second-tariff : {since since₂ : Minutes} {number place place₂ : ℕ} {counts so_far : Counts} → Opened file 0 0 since → SecondBegins file place counts
      → Opened file (opening_size + place) (since.0 + 1) since₂ → FaultlessUntil (second_tariff file (opening_size + place)) place₂ so_far
      → FaultSays (second_tariff file (opening_size + place)) place₂ so_far number
      → FileSays file (Fault number (opening_size + place + opening_size + place₂))
  -- the file ends with it
  two_editions : {since since₂ : Minutes} {place : ℕ} {counts counts₂ : Counts} → Opened file 0 0 since → SecondBegins file place counts
      → Opened file (opening_size + place) (since.0 + 1) since₂ → Read (second_tariff file (opening_size + place)) counts₂
      → FileSays file (Faultless (Two (record { since = since; counts = counts }) (record { since = since₂; counts = counts₂ })))
