-- A faultless file is at most 29,062 bytes long, and no fault lies later; the first 30,088 bytes of any decide what it is read as: two of the longest
-- tariffs with their openings, and the frame of one record too many.
-- Assumes nothing.
use Prim.Native.Nat.{ℕ, ◌+◌, ◌-◌, ◌≤◌}
use native.Mathlib.Omega.{arith}
use native.Mathlib.Decide.{dec_lt}
use mathlib.Core.Path.{◌≡◌, refl, sym, ap, ◌∙◌}
use mathlib.Core.Bool.{Bool, true, false, cond, ◌&&◌}
use mathlib.Core.List.{List}
use lib.ListN.{length, take, drop, length-drop}
use lib.Dec.{eqb}
use lib.Seq.{take_all, take-take, take-add, drop_at, length-take-le}
use Rattle.units.specs.declared.Minutes.{Minutes}
use Rattle.wire.specs.Frame.{longest_record, frame_at}
use Rattle.wire.specs.declared.Frame.{Frame}
use Rattle.wire.specs.declared.Frame.TheVariants.{Whole, Broken}
use Rattle.wire.proofs.Number.{get_take}
use Rattle.wire.proofs.Frames.{frame_take}
use Rattle.layout.specs.declared.Counts.{Counts}
use Rattle.layout.specs.declared.Reading.{Reading}
use Rattle.layout.specs.declared.Reading.TheVariants as tariff
use Rattle.layout.specs.Layout.{tariff_size, longest_tariff, deciding_bytes}
use Rattle.layout.specs.Scan.{read_tariff, Read}
use Rattle.layout.proofs.FaultlessUntil.{finished, early}
use Rattle.scan.specs.declared.Halt.{Halt}
use Rattle.scan.specs.declared.Halt.TheVariants.{End, Behind, Amid}
use Rattle.scan.specs.Halts.{halt_of}
use Rattle.scan.proofs.Halts.{halt_end, halt_behind, halt_amid, halts, end, behind, amid, Halts}
use Rattle.scan.proofs.Prefix.{enough_bytes_decide}
use Rattle.editions.specs.declared.Edition.{Edition}
use Rattle.editions.specs.declared.Editions.{Editions}
use Rattle.editions.specs.declared.Editions.TheVariants.{One, Two}
use Rattle.editions.specs.declared.openings.Opening.{Opening}
use Rattle.editions.specs.declared.openings.Opening.TheVariants.{Faulty, Since}
use Rattle.editions.specs.Openings.{edition_kind, opening_body, opening_size, opening_at, opens_at, since_at}
use Rattle.editions.specs.Reading.{read_second, read_first, read_file, ReadFile, longest_file, deciding_file}
use Rattle.editions.specs.InWords.{first_tariff, second_tariff}
use Rattle.editions.proofs.OpeningLaws.{opens_broken, opens_whole, opening_broken, opening_whole}
use Rattle.editions.proofs.Ways.{
  second_faulty,
  second_fault,
  second_whole,
  first_whole,
  first_amid,
  first_behind,
  first_then,
  file_faulty,
  file_opened,
  fault_inside,
}
use Rattle.editions.proofs.Parts.{one_read, two_read, two_fits, one_fits}

-- ---- The length of a faultless file.

read_most : (b : List ℕ) (counts : Counts) → Read b counts → length b ≤ longest_tariff
read_most b counts e = early b (length b) counts (finished b counts e).0

pub file_most : (file : List ℕ) (editions : Editions) → ReadFile file editions → length file ≤ longest_file
file_most file (One first) e =
    omega (arith, read_most (first_tariff file) first.counts (one_read file e).read, length-drop opening_size file, one_fits file e)
file_most file (Two first second) e =
    let facts = two_read file e in
    let at = opening_size + tariff_size first.counts in
    omega (
      arith,
      read_most (second_tariff file at) second.counts facts.read₂,
      length-drop (at + opening_size) file,
      early (first_tariff file) (tariff_size first.counts) first.counts facts.begins.passed,
      two_fits file e,
    )

-- ---- So many bytes decide.

drop_take : (k n : ℕ) (l : List ℕ) → k ≤ length l → drop k (take (k + n) l) ≡ take n (drop k l)
drop_take k n l within = rw (take-add k n l) (drop_at (take k l) (take n (drop k l)) k (length-take-le k l within))

module _ (n : ℕ) (file : List ℕ) (there : n ≤ length file) where
  part_same : (k : ℕ) → k ≤ n → drop k (take n file) ≡ take (n - k) (drop k file)
  part_same k inside = let sum : k + (n - k) ≡ n = omega arith in rw sum at (drop_take k (n - k) file (omega arith))

  tariff_same : (k : ℕ) → k + deciding_bytes ≤ n → read_tariff (drop k (take n file)) ≡ read_tariff (drop k file)
  tariff_same k fits =
      ap read_tariff (part_same k (omega arith)) ∙ sym (enough_bytes_decide (n - k) (drop k file) (omega arith))

  -- where the reading of a part stops
  halt_same : (k : ℕ) → k + deciding_bytes ≤ n → halt_of (drop k (take n file)) ≡ halt_of (drop k file)
  halt_same k fits = go (halt_of (drop k file)) refl (halts (drop k file))
    where
      before : (number at : ℕ) → read_tariff (drop k file) ≡ tariff.Fault number at → take at (drop k (take n file)) ≡ take at (drop k file)
      before number at e =
          ap (take at) (part_same k (omega arith)) ∙ take-take at (n - k) (drop k file) (omega (arith, fault_inside (drop k file) e))

      go : (h : Halt) → halt_of (drop k file) ≡ h → Halts (drop k file) h → halt_of (drop k (take n file)) ≡ halt_of (drop k file)
      go (End counts) is (end e) = halt_end (drop k (take n file)) (tariff_same k fits ∙ e) ∙ sym is
      go (Behind number at counts) is (behind e f) =
          halt_behind (drop k (take n file)) (tariff_same k fits ∙ e) (ap read_tariff (before number at e) ∙ f) ∙ sym is
      go (Amid number at) is (amid e f) =
          halt_amid (drop k (take n file)) (tariff_same k fits ∙ e) (ap read_tariff (before number at e) ∙ f) ∙ sym is

  module _ (at : ℕ) (fits : at + longest_record ≤ n) where
    opens_same : opens_at (take n file) at ≡ opens_at file at
    opens_same = go (frame_at file at) refl
      where
        go : (f : Frame) → frame_at file at ≡ f → opens_at (take n file) at ≡ opens_at file at
        go Broken e = opens_broken (take n file) at (frame_take n file at there fits ∙ e) ∙ sym (opens_broken file at e)
        go (Whole kind body) e =
            opens_whole (take n file) at kind body (frame_take n file at there fits ∙ e) ∙ sym (opens_whole file at kind body e)

    since_same : (least : ℕ) → since_at (take n file) at least ≡ since_at file at least
    unfolding since_at
    since_same least =
        rw (
          get_take 2 n file (at + 4) (omega arith),
          get_take 1 n file (at + 6) (omega arith),
          get_take 1 n file (at + 7) (omega arith),
        )

    opening_same : (least : ℕ) → opening_at (take n file) at least ≡ opening_at file at least
    opening_same least = go (frame_at file at) refl
      where
        go : (f : Frame) → frame_at file at ≡ f → opening_at (take n file) at least ≡ opening_at file at least
        go Broken e =
            opening_broken (take n file) at least (omega (arith, length-take-le n file there)) (frame_take n file at there fits ∙ e)
            ∙ sym (opening_broken file at least (omega arith) e)
        go (Whole kind body) e =
            opening_whole (take n file) at least kind body (frame_take n file at there fits ∙ e) refl
            ∙ ap (λ (o : Opening). cond (eqb kind edition_kind && eqb body opening_body) o (Faulty 2)) (since_same least)
            ∙ sym (opening_whole file at least kind body e refl)

  second_same : (first : Edition) (at : ℕ) → at + opening_size + deciding_bytes ≤ n → read_second (take n file) first at ≡ read_second file first at
  second_same first at fits = go (opening_at file at (first.since.0 + 1)) refl
    where
      opening : {o : Opening} → opening_at file at (first.since.0 + 1) ≡ o → opening_at (take n file) at (first.since.0 + 1) ≡ o
      opening e = opening_same at (omega arith) (first.since.0 + 1) ∙ e

      go : (o : Opening) → opening_at file at (first.since.0 + 1) ≡ o → read_second (take n file) first at ≡ read_second file first at
      go (Faulty number) e = second_faulty (take n file) first at number (opening e) ∙ sym (second_faulty file first at number e)
      go (Since since) e = read (read_tariff (second_tariff file at)) refl
        where
          read : (r : Reading) → read_tariff (second_tariff file at) ≡ r → read_second (take n file) first at ≡ read_second file first at
          read (tariff.Fault number place) f =
              second_fault (take n file) first at since (opening e) number place (tariff_same (at + opening_size) (omega arith) ∙ f)
              ∙ sym (second_fault file first at since e number place f)
          read (tariff.Faultless counts) f =
              second_whole (take n file) first at since (opening e) counts (tariff_same (at + opening_size) (omega arith) ∙ f)
              ∙ sym (second_whole file first at since e counts f)

  module _ (wide : deciding_file ≤ n) where
    first_same : (since : Minutes) → read_first (take n file) since ≡ read_first file since
    first_same since = go (halt_of (first_tariff file)) refl (halts (first_tariff file))
      where
        halt : {h : Halt} → halt_of (first_tariff file) ≡ h → halt_of (first_tariff (take n file)) ≡ h
        halt e = halt_same opening_size (omega arith) ∙ e

        go : (h : Halt) → halt_of (first_tariff file) ≡ h → Halts (first_tariff file) h → read_first (take n file) since ≡ read_first file since
        go (End counts) e (end f) = first_whole (take n file) since counts (halt e) ∙ sym (first_whole file since counts e)
        go (Amid number place) e (amid f g) = first_amid (take n file) since number place (halt e) ∙ sym (first_amid file since number place e)
        go (Behind number place before) e (behind f g) = opens (opens_at file (opening_size + place)) refl
          where
            early_place : place ≤ longest_tariff
            early_place = (fault_inside (first_tariff file) f).1

            opens : (t : Bool) → opens_at file (opening_size + place) ≡ t → read_first (take n file) since ≡ read_first file since
            opens false is =
                first_behind (take n file) since number place before (halt e) (opens_same (opening_size + place) (omega (arith, early_place)) ∙ is)
                ∙ sym (first_behind file since number place before e is)
            opens true is =
                first_then (take n file) since number place before (halt e) (opens_same (opening_size + place) (omega (arith, early_place)) ∙ is)
                ∙ second_same (record { since = since; counts = before }) (opening_size + place) (omega (arith, early_place))
                ∙ sym (first_then file since number place before e is)

    file_same : read_file (take n file) ≡ read_file file
    file_same = go (opening_at file 0 0) refl
      where
        go : (o : Opening) → opening_at file 0 0 ≡ o → read_file (take n file) ≡ read_file file
        go (Faulty number) e = file_faulty (take n file) number (opening_same 0 (omega arith) 0 ∙ e) ∙ sym (file_faulty file number e)
        go (Since since) e =
            file_opened (take n file) since (opening_same 0 (omega arith) 0 ∙ e) ∙ first_same since ∙ sym (file_opened file since e)

-- So many bytes decide, and any more.
pub enough_file_decides : (n : ℕ) (file : List ℕ) → deciding_file ≤ n → read_file file ≡ read_file (take n file)
enough_file_decides n file wide =
    elim (dec_lt n (length file)) [
      | yes longer ↦ sym (file_same n file (omega arith) wide)
      | no all ↦ rw (take_all n file (omega arith))
    ]

pub first_file_decides : (file : List ℕ) → read_file file ≡ read_file (take deciding_file file)
first_file_decides file = enough_file_decides deciding_file file (omega arith)
