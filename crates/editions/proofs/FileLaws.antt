-- What a file is read as, both ways: what the reading comes to is so in words, and what is so in words is read so.
-- Assumes nothing.
use Prim.Native.Nat.{ℕ, ◌+◌, ◌<◌}
use native.Mathlib.Omega.{arith}
use mathlib.Core.Path.{◌≡◌, refl, sym, ◌∙◌}
use mathlib.Core.Logic.{◌↔◌}
use mathlib.Core.Bool.{Bool, true, false, false≢true}
use mathlib.Core.List.{List}
use borrow.Author.Tests.{ne_eqb, le-ltb}
use lib.ListN.{take}
use Rattle.units.specs.declared.Minutes.{Minutes}
use Rattle.layout.specs.declared.Counts.{Counts}
use Rattle.layout.specs.declared.Reading.{Reading}
use Rattle.layout.specs.declared.Reading.TheVariants as tariff
use Rattle.layout.specs.Rules.{factors_due}
use Rattle.layout.specs.Scan.{read_tariff, FaultlessUntil, FirstFault, FaultSays}
use Rattle.layout.proofs.Entries.{still_due, none_due, other_frame}
use Rattle.layout.proofs.FaultlessUntil.{due_factors, at_fault}
use Rattle.scan.specs.declared.Halt.{Halt}
use Rattle.scan.specs.declared.Halt.TheVariants.{End, Behind, Amid}
use Rattle.scan.specs.Halts.{halt_of}
use Rattle.scan.proofs.Faults.{fault_exactly}
use Rattle.scan.proofs.Halts.{faultless_before, short_before, halt_end, halt_behind, halt_amid, halts, end, behind, amid, Halts}
use Rattle.editions.specs.declared.Edition.{Edition}
use Rattle.editions.specs.declared.FileReading.{FileReading}
use Rattle.editions.specs.declared.FileReading.TheVariants.{Fault}
use Rattle.editions.specs.declared.openings.Opening.{Opening}
use Rattle.editions.specs.declared.openings.Opening.TheVariants.{Faulty, Since}
use Rattle.editions.specs.Openings.{edition_kind, opening_size, opening_at, opens_at, Opened}
use Rattle.editions.specs.Reading.{read_second, read_first, read_file}
use Rattle.editions.specs.InWords.{
  first_tariff,
  second_tariff,
  SecondBegins,
  FileSays,
  first_opening,
  first-tariff,
  one_edition,
  second_opening,
  second-tariff,
  two_editions,
}
use Rattle.editions.proofs.OpeningLaws.{frame_drop, opens_whole, opens_frame, opening_says, opening_opened, opening_faulty, opened_since}
use Rattle.editions.proofs.Ways.{
  second_faulty,
  second_fault,
  second_whole,
  first_whole,
  first_amid,
  first_behind,
  first_then,
  file_faulty,
  file_opened,
}

-- nothing is due any more: an area is there, and every factor record
pub nothing_due : (counts : Counts) (due : ℕ) → 0 < counts.areas → counts.factors ≡ due → still_due counts due ≡ false
nothing_due counts due some all = rw (ne_eqb counts.areas 0 (λ e. omega arith), le-ltb counts.factors due (omega arith))

-- ---- Where the second edition begins.

module _ (file : List ℕ) (place : ℕ) (counts : Counts) where
  -- the reading of the first's tariff stops there, and what stands before is faultless alone
  module _ (begins : SecondBegins file place counts) where
    first_fault_there : FirstFault (first_tariff file) 2 place counts
    first_fault_there =
        record {
          passed = begins.passed;
          faulty =
              other_frame (first_tariff file) place counts edition_kind begins.body (frame_drop opening_size file place ∙ begins.frame) refl
              (λ e. omega arith) (λ e. omega arith);
        }

    pub alone : read_tariff (take place (first_tariff file)) ≡ tariff.Faultless counts
    alone = faultless_before (first_tariff file) place counts begins.passed (nothing_due counts _ begins.some begins.all)

    pub halt_there : halt_of (first_tariff file) ≡ Behind 2 place counts
    halt_there = halt_behind (first_tariff file) (at_fault (first_tariff file) 2 place counts first_fault_there) alone

    pub opens_there : opens_at file (opening_size + place) ≡ true
    opens_there = opens_whole file (opening_size + place) edition_kind begins.body begins.frame

  -- by the tests
  module _ (p : FaultlessUntil (first_tariff file) place counts) where
    pub begins_there :
        still_due counts (factors_due (first_tariff file) counts) ≡ false → opens_at file (opening_size + place) ≡ true → SecondBegins file place counts
    begins_there none opens =
        let (some, all) = none_due counts (factors_due (first_tariff file) counts) none in
        let (body, frame) = opens_frame file (opening_size + place) opens in
        record {
          passed = p;
          some = some;
          all = omega (arith, due_factors (first_tariff file) place counts p);
          body = body;
          frame = frame;
        }

-- ---- What the reading comes to is so in words.

module _ (file : List ℕ) where
  second_says :
      {since : Minutes} {place : ℕ} {counts : Counts} → Opened file 0 0 since → SecondBegins file place counts
      → FileSays file (read_second file (record { since = since; counts = counts }) (opening_size + place))
  second_says {since} {place} {counts} opened begins = go (opening_at file at (since.0 + 1)) refl
    where
      at : ℕ
      at = opening_size + place

      first : Edition
      first = record { since = since; counts = counts }

      go : (o : Opening) → opening_at file at (since.0 + 1) ≡ o → FileSays file (read_second file first at)
      go (Faulty number) e =
          rw (second_faulty file first at number e) (second_opening opened begins (opening_says file at (since.0 + 1) e))
      go (Since since₂) e = read (read_tariff (second_tariff file at)) refl
        where
          opened₂ : Opened file at (since.0 + 1) since₂
          opened₂ = opening_opened file at (since.0 + 1) e

          read : (r : Reading) → read_tariff (second_tariff file at) ≡ r → FileSays file (read_second file first at)
          read (tariff.Fault number place₂) f =
              let (so_far, passed, says) = (fault_exactly (second_tariff file at) number place₂).0 f in
              rw (second_fault file first at since₂ e number place₂ f) (second-tariff opened begins opened₂ passed says)
          read (tariff.Faultless counts₂) f = rw (second_whole file first at since₂ e counts₂ f) (two_editions opened begins opened₂ f)

  first_says : {since : Minutes} → Opened file 0 0 since → FileSays file (read_first file since)
  first_says {since} opened = go (halt_of (first_tariff file)) refl (halts (first_tariff file))
    where
      go : (h : Halt) → halt_of (first_tariff file) ≡ h → Halts (first_tariff file) h → FileSays file (read_first file since)
      go (End counts) e (end read) = rw (first_whole file since counts e) (one_edition opened read)
      go (Amid number place) e (amid read short) =
          let (so_far, passed, says) = (fault_exactly (first_tariff file) number place).0 read in
          rw (first_amid file since number place e)
          (first-tariff opened passed says
          (λ begins. let whole = alone file place so_far begins in let z : ◌≡◌ {A = ℕ} 0 1 = cc in omega arith))
      go (Behind number place before) e (behind read whole) =
          let (so_far, passed, says) = (fault_exactly (first_tariff file) number place).0 read in
          opens (opens_at file (opening_size + place)) refl so_far passed says (due so_far passed)
        where
          due : (so_far : Counts) → FaultlessUntil (first_tariff file) place so_far → (still_due so_far (factors_due (first_tariff file) so_far) ≡ false) × (so_far ≡ before)
          due so_far passed = by (still_due so_far (factors_due (first_tariff file) so_far)) refl
            where
              by : (t : Bool) → still_due so_far (factors_due (first_tariff file) so_far) ≡ t
                  → (still_due so_far (factors_due (first_tariff file) so_far) ≡ false) × (so_far ≡ before)
              by true some =
                  let short = short_before (first_tariff file) place so_far passed some in
                  absurd (let z : ◌≡◌ {A = ℕ} 0 1 = cc in omega arith)
              by false none = let same = faultless_before (first_tariff file) place so_far passed none in (none, cc)

          opens :
              (t : Bool) → opens_at file (opening_size + place) ≡ t → (so_far : Counts) → FaultlessUntil (first_tariff file) place so_far
              → FaultSays (first_tariff file) place so_far number
              → (still_due so_far (factors_due (first_tariff file) so_far) ≡ false) × (so_far ≡ before)
              → FileSays file (read_first file since)
          opens true is so_far passed says (none, same) =
              rw (first_then file since number place before e is) (second_says opened (rw same at (begins_there file place so_far passed none is)))
          opens false is so_far passed says (none, same) =
              rw (first_behind file since number place before e is)
              (first-tariff opened passed says (λ begins. false≢true (sym is ∙ opens_there file place so_far begins)))

  pub says : FileSays file (read_file file)
  says = go (opening_at file 0 0) refl
    where
      go : (o : Opening) → opening_at file 0 0 ≡ o → FileSays file (read_file file)
      go (Faulty number) e = rw (file_faulty file number e) (first_opening (opening_says file 0 0 e))
      go (Since since) e = rw (file_opened file since e) (first_says (opening_opened file 0 0 e))

-- ---- What is so in words is read so.

module _ (file : List ℕ) where
  file_then :
      {since : Minutes} {place : ℕ} {counts : Counts} → Opened file 0 0 since → SecondBegins file place counts
      → read_file file ≡ read_second file (record { since = since; counts = counts }) (opening_size + place)
  file_then {since} {place} {counts} opened begins =
      file_opened file since (opened_since file 0 0 opened)
      ∙ first_then file since 2 place counts (halt_there file place counts begins) (opens_there file place counts begins)

  pub said : {r : FileReading} → FileSays file r → read_file file ≡ r
  said (first_opening {number} wrong) = file_faulty file number (opening_faulty file 0 0 wrong)
  said (first-tariff {since} {number} {place} {so_far} opened passed wrong no_second) =
      file_opened file since (opened_since file 0 0 opened) ∙ by (still_due so_far (factors_due (first_tariff file) so_far)) refl
    where
      read : read_tariff (first_tariff file) ≡ tariff.Fault number place
      read = (fault_exactly (first_tariff file) number place).1 (so_far, passed, wrong)

      by : (t : Bool) → still_due so_far (factors_due (first_tariff file) so_far) ≡ t → read_first file since ≡ Fault number (opening_size + place)
      by true some =
          first_amid file since number place (halt_amid (first_tariff file) read (short_before (first_tariff file) place so_far passed some))
      by false none = opens (opens_at file (opening_size + place)) refl
        where
          there : halt_of (first_tariff file) ≡ Behind number place so_far
          there = halt_behind (first_tariff file) read (faultless_before (first_tariff file) place so_far passed none)

          opens : (t : Bool) → opens_at file (opening_size + place) ≡ t → read_first file since ≡ Fault number (opening_size + place)
          opens true is = absurd (no_second (begins_there file place so_far passed none is))
          opens false is = first_behind file since number place so_far there is
  said (one_edition {since} {counts} opened read) =
      file_opened file since (opened_since file 0 0 opened) ∙ first_whole file since counts (halt_end (first_tariff file) read)
  said (second_opening {since} {number} {place} {counts} opened begins wrong) =
      file_then opened begins
      ∙ second_faulty file (record { since = since; counts = counts }) (opening_size + place) number
      (opening_faulty file (opening_size + place) (since.0 + 1) wrong)
  said (second-tariff {since} {since₂} {number} {place} {place₂} {counts} {so_far} opened begins opened₂ passed wrong) =
      file_then opened begins
      ∙ second_fault file (record { since = since; counts = counts }) (opening_size + place) since₂
      (opened_since file (opening_size + place) (since.0 + 1) opened₂) number place₂
      ((fault_exactly (second_tariff file (opening_size + place)) number place₂).1 (so_far, passed, wrong))
  said (two_editions {since} {since₂} {place} {counts} {counts₂} opened begins opened₂ read) =
      file_then opened begins
      ∙ second_whole file (record { since = since; counts = counts }) (opening_size + place) since₂
      (opened_since file (opening_size + place) (since.0 + 1) opened₂) counts₂ read

  -- A file is read as something exactly when it is so in words.
  pub file_exactly : (r : FileReading) → (read_file file ≡ r) ↔ FileSays file r
  file_exactly r = (λ e. rw e at (says file), said)
