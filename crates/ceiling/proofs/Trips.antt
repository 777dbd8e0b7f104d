-- What an accepted trip gives: stamps, of which a month can be told, and records that fit into their room, whose charges can be read off the
-- statement.
-- Assumes nothing.
use Prim.Native.Nat.{ℕ, zero, suc, ◌≤◌}
use native.Mathlib.Nat.{zero-add}
use native.Mathlib.Omega.{arith}
use mathlib.Core.Path.{◌≡◌, refl, sym, ap, subst, ◌∙◌}
use mathlib.Core.List.{List, [], ◌∷◌, ◌++◌, append_assoc, append-nil}
use lib.ListN.{length, take, drop, take-append-drop}
use Rattle.editions.specs.declared.Editions.{Editions}
use Rattle.editions.specs.Editions.{tariff_in, counts_in}
use Rattle.editions.specs.Reading.{ReadFile}
use Rattle.trip.proofs.Shapes.{fills}
use Rattle.statement.specs.Record.{Part, most_parts, statement_of}
use Rattle.statement.specs.Reading.{cents_over}
use Rattle.statement.specs.Clauses.{Recordables, none, more, StandFrom, RecordsTo}
use Rattle.statement.proofs.Charges.{length_record, one_part, length_two}
use Rattle.statement.proofs.Records.{stand_from, records_to, cents-over}
use Rattle.deciding.specs.declared.decide.Decision.{Decision}
use Rattle.deciding.specs.declared.decide.Decision.TheVariants.{Refused, Clear}
use Rattle.deciding.specs.Deciding.{decided_under}
use Rattle.deciding.proofs.Decisions.{clear_found, no_row, all_clear}
use Rattle.settle.specs.declared.Answer.{Answer}
use Rattle.settle.specs.Outcome.{Outcome, refused, accepted, parts_under, accepted_trip, settled_under}
use Rattle.settle.specs.Clauses.{Told}
use Rattle.settle.proofs.Ways.{refused_under, accepted-under}
use Rattle.settle.proofs.Parts.{OneOrTwo, alone, both, under_few}
use Rattle.settle.proofs.Clear.{parts_right, size_most}
use Rattle.ceiling.specs.Ceiling.{charged_in}
use Rattle.ceiling.specs.Clauses.{Stamped}

-- ---- An accepted trip.

pub record Taken (trip : List ℕ) (room : ℕ) (parts : List Part) : Type 0 where
  pub stamped : Stamped trip
  pub few : OneOrTwo parts
  pub recordable : Recordables parts
  pub fits : length (statement_of parts) ≤ room

pub taken :
    (file : List ℕ) (editions : Editions) → ReadFile file editions → (book trip : List ℕ) (room : ℕ) {new : List ℕ} {parts : List Part}
    → settled_under file editions book trip room ≡ accepted new parts → Taken trip room parts
unfolding accepted_trip
taken file editions read book trip room {new} {parts} e = go (decided_under file editions book trip room) refl
  where
    go : (d : Decision) → decided_under file editions book trip room ≡ d → Taken trip room parts
    go (Refused why) is = absurd (let z : ◌≡◌ {A = ℕ} 0 1 = cc (refused_under file editions book trip room is, e) in omega arith)
    go (Clear fields window breaking) is =
        let rows = no_row file editions book trip room (clear_found file editions book trip room is).0 in
        let clear = all_clear file editions book trip fields window breaking room (record { read = read; sound_book = rows.sound_book }) is in
        let tariff = tariff_in file editions window.edition in
        let counts = counts_in editions window.edition in
        let same = sym (accepted-under file editions book trip room fields window is) ∙ e in
        let these : parts_under file editions book trip fields window ≡ parts = cc in
        record {
          stamped = record { long = omega (arith, (fills trip rows.good.whole).size); stamps = rows.good.stamps };
          few = under_few file editions book trip room new parts e;
          recordable = subst Recordables these (parts_right tariff counts book trip fields window room clear).0;
          fits =
              subst (λ (p : List Part). length (statement_of p) ≤ room) these (size_most tariff counts book trip fields window room clear).1;
        }

-- Its records have some bytes.
pub some_bytes : {parts : List Part} → OneOrTwo parts → Recordables parts → 1 ≤ length (statement_of parts)
some_bytes (alone part) (more ok none) = omega (arith, ap length (one_part part), length_record part ok.complete)
some_bytes (both one other) (more ok (more also none)) = omega (arith, length_two one other, length_record one ok.complete)

few_most : {parts : List Part} → OneOrTwo parts → length parts ≤ most_parts
few_most (alone part) = omega arith
few_most (both one other) = omega arith

-- ---- Its charges.

module _ {parts : List Part} {statement : List ℕ} {size : ℕ} (few : OneOrTwo parts) (ok : Recordables parts) (stand : StandFrom statement parts 0)
    (is : size ≡ length (statement_of parts)) where
  -- They can be read off the statement,
  pub charges_there : RecordsTo statement size most_parts 0
  charges_there = records_to statement most_parts parts (few_most few) ok stand (is ∙ sym (zero-add (length (statement_of parts))))

  -- and are those that stand in the records alone.
  pub charges_read : cents_over statement size ≡ charged_in parts
  unfolding charged_in
  charges_read =
      cents-over statement most_parts parts (few_most few) ok stand (is ∙ sym (zero-add (length (statement_of parts))))
      ∙ sym
      (cents-over (statement_of parts) most_parts parts (few_most few) ok (stand_from parts (statement_of parts) [] 0 (sym (append-nil (statement_of parts))))
      (sym (zero-add (length (statement_of parts)))))

-- ---- The statement is lent up to the room for the records.

drop_both : (n room : ℕ) (s : List ℕ) → n ≤ room → drop n (take room s) ++ drop room s ≡ drop n s
drop_both zero room s h = take-append-drop room s
drop_both (suc n) zero s h = absurd (omega arith)
drop_both (suc n) (suc room) [] h = refl
drop_both (suc n) (suc room) (x ∷ s) h = drop_both n room s (omega arith)

-- What is told of so much of it is told of all.
pub lent_told :
    (o : Outcome) (room : ℕ) {book book' lent : List ℕ} (statement : List ℕ) {r : Answer}
    → ((new : List ℕ) (parts : List Part) → o ≡ accepted new parts → length (statement_of parts) ≤ room)
    → Told o book book' (take room statement) lent r → Told o book book' statement (lent ++ drop room statement) r
lent_told (refused number place) room statement fits told =
    record {
      answer = told.answer;
      fits = told.fits;
      recordable = told.recordable;
      book_is = told.book_is;
      statement_is = ap (λ (l : List ℕ). l ++ drop room statement) told.statement_is ∙ take-append-drop room statement;
    }
lent_told (accepted new parts) room statement fits told =
    let bytes = statement_of parts in
    record {
      answer = told.answer;
      fits = told.fits;
      recordable = told.recordable;
      book_is = told.book_is;
      statement_is =
          ap (λ (l : List ℕ). l ++ drop room statement) told.statement_is
          ∙ append_assoc bytes (drop (length bytes) (take room statement)) (drop room statement)
          ∙ ap (λ (l : List ℕ). bytes ++ l) (drop_both (length bytes) room statement (fits new parts refl));
    }
