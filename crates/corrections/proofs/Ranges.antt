-- No payer's sum over a roll passes what a sum holds, so each difference added to the old sum is the new one.
-- Assumes nothing.
use Prim.Native.Nat.{ℕ, zero, suc, ◌*◌, ◌^◌, ◌≤◌, ◌<◌}
use native.Mathlib.Omega.{arith}
use mathlib.Core.Path.{◌≡◌, refl, sym, ap, subst}
use mathlib.Core.List.{List, [], ◌∷◌}
use lib.ListN.{length}
use Rattle.wire.specs.Number.{get_le}
use Rattle.editions.specs.declared.Editions.{Editions}
use Rattle.editions.specs.declared.FileReading.{FileReading}
use Rattle.editions.specs.declared.FileReading.TheVariants.{Fault, Faultless}
use Rattle.editions.specs.Editions.{tariff_in, counts_in}
use Rattle.editions.specs.Reading.{read_file, ReadFile}
use Rattle.ledger.specs.Words.{fresh_book}
use Rattle.statement.specs.Record.{most_parts}
use Rattle.statement.specs.Clauses.{Recordables, none}
use Rattle.deciding.specs.declared.decide.Decision.{Decision}
use Rattle.deciding.specs.declared.decide.Decision.TheVariants.{Refused, Clear}
use Rattle.deciding.specs.Deciding.{decided_under}
use Rattle.deciding.proofs.Decisions.{clear_found, no_row, all_clear}
use Rattle.settle.specs.Outcome.{Outcome, refused, accepted_trip, settled_under, settled, parts_in, book_after}
use Rattle.settle.specs.Runs.{Offer, run_from}
use Rattle.settle.proofs.Ways.{fault_way, faultless_way, refused_under, accepted-under}
use Rattle.settle.proofs.Parts.{under_few}
use Rattle.settle.proofs.Clear.{parts_right}
use Rattle.roll.specs.Lines.{most_records, offers_of}
use Rattle.corrections.specs.Corrections.{exchanged, settled_with, settled_before, payers, paid_by, differences_of}
use Rattle.corrections.specs.Clauses.{most_paid}
use Rattle.corrections.proofs.Alone.{paid_most}
use Rattle.corrections.proofs.Records.{counts_most}
use Rattle.corrections.proofs.Rooms.{few_most}
use Rattle.corrections.proofs.Differences.{Changed, difference_right}

-- ---- The parts of an outcome are one or two, or none, and can be recorded.

record FewRecordable (outcome : Outcome) : Type 0 where
  few : length (parts_in outcome) ≤ most_parts
  recordable : Recordables (parts_in outcome)

refused_few : {outcome : Outcome} {number place : ℕ} → outcome ≡ refused number place → FewRecordable outcome
refused_few is = subst FewRecordable (sym is) (record { few = omega arith; recordable = none })

under_recordable :
    (file : List ℕ) (editions : Editions) → ReadFile file editions → (book trip : List ℕ) (room : ℕ)
    → FewRecordable (settled_under file editions book trip room)
unfolding accepted_trip
under_recordable file editions read book trip room = go (decided_under file editions book trip room) refl
  where
    go : (d : Decision) → decided_under file editions book trip room ≡ d → FewRecordable (settled_under file editions book trip room)
    go (Refused why) is = refused_few (refused_under file editions book trip room is)
    go (Clear fields window breaking) is =
        let rows = no_row file editions book trip room (clear_found file editions book trip room is).0 in
        let clear = all_clear file editions book trip fields window breaking room (record { read = read; sound_book = rows.sound_book }) is in
        let taken = accepted-under file editions book trip room fields window is in
        subst FewRecordable (sym taken)
        (record {
          few = few_most (under_few file editions book trip room _ _ taken);
          recordable =
              (parts_right (tariff_in file editions window.edition) (counts_in editions window.edition) book trip fields window room clear).0;
        })

settled_recordable : (file book trip : List ℕ) (room : ℕ) → FewRecordable (settled file book trip room)
settled_recordable file book trip room = go (read_file file) refl
  where
    go : (r : FileReading) → read_file file ≡ r → FewRecordable (settled file book trip room)
    go (Fault number at) is = refused_few (fault_way file book trip room number at is)
    go (Faultless editions) is =
        subst FewRecordable (sym (faultless_way file book trip room editions is)) (under_recordable file editions is book trip room)

-- ---- Runs.

run_most : (file : List ℕ) (payer : ℕ) (book : List ℕ) (offers : List Offer) → paid_by payer (run_from file book offers) ≤ length offers * (most_parts * 2 ^ 32)
unfolding run_from paid_by
run_most file payer book [] = omega arith
run_most file payer book (offer ∷ later) =
    let o = settled file book offer.bytes offer.room in
    let parts = settled_recordable file book offer.bytes offer.room in
    omega (arith, paid_most (parts_in o) payer parts.few parts.recordable, run_most file payer (book_after o book) later)

exchanged_length : (n : ℕ) (replacement : List ℕ) (offers : List Offer) → length (exchanged n replacement offers) ≡ length offers
unfolding exchanged
exchanged_length zero replacement offers = refl
exchanged_length (suc n) replacement [] = refl
exchanged_length (suc zero) replacement (offer ∷ later) = refl
exchanged_length (suc (suc n)) replacement (offer ∷ later) = ap suc (exchanged_length (suc n) replacement later)

pub sum_most : (file roll : List ℕ) (n : ℕ) (replacement : List ℕ) (payer : ℕ) → paid_by payer (settled_with file roll n replacement) ≤ most_paid
unfolding settled_with
sum_most file roll n replacement payer =
    let offers = offers_of most_records roll in
    omega (
      arith,
      run_most file payer fresh_book (exchanged n replacement offers),
      exchanged_length n replacement offers,
      counts_most most_records roll,
    )

-- The eight bytes of each payer are what the sum over the records' own bytes changed by.
pub difference_is :
    (file roll : List ℕ) (n : ℕ) (replacement : List ℕ) (payer : ℕ) → payer < payers
    → Changed (paid_by payer (settled_before file roll replacement)) (paid_by payer (settled_with file roll n replacement))
    (get_le 8 (differences_of (settled_before file roll replacement) (settled_with file roll n replacement)) (8 * payer))
difference_is file roll n replacement payer there =
    difference_right (settled_before file roll replacement) (settled_with file roll n replacement) payer there (sum_most file roll 0 replacement payer)
    (sum_most file roll n replacement payer)
