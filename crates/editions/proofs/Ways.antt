-- Each way through the reading of a file, as an equation.
-- Assumes nothing.
use Prim.Native.Nat.{ℕ, ◌+◌, ◌-◌, ◌≤◌}
use native.Mathlib.Omega.{arith}
use mathlib.Core.Path.{◌≡◌}
use mathlib.Core.Bool.{true, false}
use mathlib.Core.List.{List}
use lib.ListN.{length, take, drop, length-drop}
use lib.Seq.{take_all}
use Rattle.units.specs.declared.Minutes.{Minutes}
use Rattle.layout.specs.declared.Counts.{Counts}
use Rattle.layout.specs.declared.Reading.TheVariants as tariff
use Rattle.layout.specs.Layout.{longest_tariff}
use Rattle.layout.specs.Scan.{read_tariff}
use Rattle.layout.proofs.FaultlessUntil.{early}
use Rattle.scan.proofs.Faults.{first_fault}
use Rattle.scan.specs.declared.Halt.TheVariants.{End, Behind, Amid}
use Rattle.scan.specs.Halts.{halt_of}
use Rattle.editions.specs.declared.Edition.{Edition}
use Rattle.editions.specs.declared.Editions.TheVariants.{One, Two}
use Rattle.editions.specs.declared.FileReading.TheVariants.{Fault, Faultless}
use Rattle.editions.specs.declared.openings.Opening.TheVariants.{Faulty, Since}
use Rattle.editions.specs.Openings.{opening_size, opening_at, opens_at}
use Rattle.editions.specs.Reading.{second_read, second_opened, read_second, first_read, read_first, first_opened, read_file}

-- all that is behind a place, taken as a part
pub rest : (n : ℕ) (b : List ℕ) → take (length b - n) (drop n b) ≡ drop n b
rest n b = take_all (length b - n) (drop n b) (omega (arith, length-drop n b))

module _ (file : List ℕ) where
  module _ (first : Edition) (at : ℕ) where
    pub second_faulty : (number : ℕ) → opening_at file at (first.since.0 + 1) ≡ Faulty number → read_second file first at ≡ Fault number at
    unfolding read_second second_opened
    second_faulty number e = rw e

    module _ (since : Minutes) (e : opening_at file at (first.since.0 + 1) ≡ Since since) where
      pub second_fault :
          (number place : ℕ) → read_tariff (drop (at + opening_size) file) ≡ tariff.Fault number place
          → read_second file first at ≡ Fault number (at + opening_size + place)
      unfolding read_second second_opened second_read
      second_fault number place f = rw (e, f)

      pub second_whole :
          (counts : Counts) → read_tariff (drop (at + opening_size) file) ≡ tariff.Faultless counts
          → read_second file first at ≡ Faultless (Two first (record { since = since; counts = counts }))
      unfolding read_second second_opened second_read
      second_whole counts f = rw (e, f)

  module _ (since : Minutes) where
    pub first_whole :
        (counts : Counts) → halt_of (drop opening_size file) ≡ End counts
        → read_first file since ≡ Faultless (One (record { since = since; counts = counts }))
    unfolding read_first first_read
    first_whole counts e = rw e

    pub first_amid :
        (number place : ℕ) → halt_of (drop opening_size file) ≡ Amid number place → read_first file since ≡ Fault number (opening_size + place)
    unfolding read_first first_read
    first_amid number place e = rw e

    module _ (number place : ℕ) (before : Counts) (e : halt_of (drop opening_size file) ≡ Behind number place before) where
      pub first_behind : opens_at file (opening_size + place) ≡ false → read_first file since ≡ Fault number (opening_size + place)
      unfolding read_first first_read
      first_behind other = rw (e, other)

      pub first_then :
          opens_at file (opening_size + place) ≡ true
          → read_first file since ≡ read_second file (record { since = since; counts = before }) (opening_size + place)
      unfolding read_first first_read
      first_then opens = rw (e, opens)

  pub file_faulty : (number : ℕ) → opening_at file 0 0 ≡ Faulty number → read_file file ≡ Fault number 0
  unfolding read_file first_opened
  file_faulty number e = rw e

  pub file_opened : (since : Minutes) → opening_at file 0 0 ≡ Since since → read_file file ≡ read_first file since
  unfolding read_file first_opened
  file_opened since e = rw e

-- A tariff's fault lies within it, and no later than the longest tariff's end.
pub fault_inside : (b : List ℕ) {number at : ℕ} → read_tariff b ≡ tariff.Fault number at → (at ≤ length b) × (at ≤ longest_tariff)
fault_inside b {number} {at} e =
    let (so_far, first) = first_fault b number at e in
    (first.passed.reached.inside, early b at so_far first.passed)
