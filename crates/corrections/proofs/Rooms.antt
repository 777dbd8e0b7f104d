-- What a trip comes to where its own statement fits is what it comes to with room for the largest, and no statement is longer than that: 12 is the
-- table's last row.
-- Assumes nothing.
use Prim.Native.Nat.{ℕ, ◌≤◌}
use native.Mathlib.Nat.{zero-add}
use native.Mathlib.Omega.{arith}
use mathlib.Core.Path.{◌≡◌, refl, sym, ap, subst, ◌∙◌}
use mathlib.Core.List.{List}
use borrow.Author.Tests.{le-ltb}
use lib.ListN.{length}
use Rattle.editions.specs.declared.Editions.{Editions}
use Rattle.editions.specs.Reading.{ReadFile}
use Rattle.trip.specs.Trips.{trip_of}
use Rattle.statement.specs.Record.{Part, largest_statement, most_parts, statement_of, statement_size}
use Rattle.statement.specs.Clauses.{RecordsTo, no_more}
use Rattle.statement.proofs.Records.{records_to}
use Rattle.deciding.specs.declared.refusals.Refusal.{Refusal}
use Rattle.deciding.specs.Refusals.{window_in, tariff_for, counts_for, rides_for, rows, Verdict, nothing, found, first_of}
use Rattle.deciding.proofs.Rows.{skip, end, earlier_rows, earlier_decides, later_decides}
use Rattle.deciding.proofs.Decisions.{refused_first, clear_first, no_row}
use Rattle.settle.specs.declared.Answer.{Answer}
use Rattle.settle.specs.declared.Answer.TheVariants.{Refused, Written}
use Rattle.settle.specs.Outcome.{Outcome, refused, accepted, accepted_trip, settled_under, parts_in}
use Rattle.settle.specs.Runs.{Offer}
use Rattle.settle.specs.Clauses.{Told, UnderSettled}
use Rattle.settle.proofs.Ways.{refused_under, accepted-under, faultless_way}
use Rattle.settle.proofs.Clear.{parts_size}
use Rattle.settle.proofs.Postings.{enough_room, none_earlier}
use Rattle.settle.proofs.Parts.{OneOrTwo, alone, both, Accepted, no_size, settled_accepted}
use Rattle.corrections.specs.Corrections.{paid_over}
use Rattle.corrections.specs.Clauses.{came_to, StatementFits, TripSized, NextFits}
use Rattle.corrections.proofs.Paid.{paid_end}
use Rattle.corrections.proofs.Alone.{paid_alone}

-- the bytes of an outcome's statement
abbrev pub size_of : Outcome → ℕ
size_of outcome = length (statement_of (parts_in outcome))

-- ---- Any room.

module _ (file : List ℕ) (editions : Editions) (book trip : List ℕ) where
  -- a row of 4 to 11 decides with any room
  found_still :
      (room : ℕ) {why : Refusal} → first_of (earlier_rows file editions book trip) ≡ found why → first_of (rows file editions book trip room) ≡ found why
  unfolding rows
  found_still room e = earlier_decides (earlier_rows file editions book trip) _ e

  -- where none of them does, none does with room for the records
  none_still :
      (room : ℕ) → first_of (earlier_rows file editions book trip) ≡ nothing → statement_size (rides_for file editions book trip) ≤ room
      → first_of (rows file editions book trip room) ≡ nothing
  unfolding rows
  none_still room e fits =
      later_decides (earlier_rows file editions book trip) _ e
      ∙ skip _ _ (le-ltb room (statement_size (rides_for file editions book trip)) fits)
      ∙ end

  -- the records take what the rides say
  clear_size :
      (room : ℕ) → first_of (rows file editions book trip room) ≡ nothing
      → size_of (settled_under file editions book trip room) ≡ statement_size (rides_for file editions book trip)
  unfolding accepted_trip
  clear_size room none =
      ap (λ (o : Outcome). size_of o)
      (accepted-under file editions book trip room (trip_of trip) (window_in editions book trip) (clear_first file editions book trip room none))
      ∙ parts_size (tariff_for file editions book trip) (counts_for editions book trip) (trip_of trip).checkout.0 book (window_in editions book trip)
      (rides_for file editions book trip)

  pub same_room :
      (room : ℕ) → size_of (settled_under file editions book trip largest_statement) ≤ room
      → settled_under file editions book trip room ≡ settled_under file editions book trip largest_statement
  same_room room fits = go (first_of (rows file editions book trip largest_statement)) refl
    where
      go : (v : Verdict) → first_of (rows file editions book trip largest_statement) ≡ v
          → settled_under file editions book trip room ≡ settled_under file editions book trip largest_statement
      go (found why) is =
          refused_under file editions book trip room
          (refused_first file editions book trip room (found_still room (enough_room file editions book trip is)))
          ∙ sym (refused_under file editions book trip largest_statement (refused_first file editions book trip largest_statement is))
      go nothing is =
          accepted-under file editions book trip room (trip_of trip) (window_in editions book trip)
          (clear_first file editions book trip room
          (none_still room (none_earlier file editions book trip largest_statement is) (omega (arith, clear_size largest_statement is, fits))))
          ∙ sym
          (accepted-under file editions book trip largest_statement (trip_of trip) (window_in editions book trip)
          (clear_first file editions book trip largest_statement is))

  pub size_most : size_of (settled_under file editions book trip largest_statement) ≤ largest_statement
  unfolding statement_of
  size_most = go (first_of (rows file editions book trip largest_statement)) refl
    where
      go : (v : Verdict) → first_of (rows file editions book trip largest_statement) ≡ v
          → size_of (settled_under file editions book trip largest_statement) ≤ largest_statement
      go (found why) is =
          omega (
            arith,
            ap (λ (o : Outcome). size_of o)
                (refused_under file editions book trip largest_statement (refused_first file editions book trip largest_statement is)),
          )
      go nothing is = omega (arith, clear_size largest_statement is, (no_row file editions book trip largest_statement is).fits)

-- ---- What settling tells.

-- a refused trip has no byte of a statement
told_none :
    (o : Outcome) {book book' statement statement' : List ℕ} {number place : ℕ} → Told o book book' statement statement' (Refused number place)
    → size_of o ≡ 0
unfolding statement_of
told_none (refused number place) told = refl
told_none (accepted new parts) told = no_size (sym told.answer)

pub few_most : {parts : List Part} → OneOrTwo parts → length parts ≤ most_parts
few_most (alone part) = omega arith
few_most (both one other) = omega arith

-- the records of a statement that was written can be read
written_records : {o : Outcome} {statement : List ℕ} {size : ℕ} → Accepted o statement size → RecordsTo statement size most_parts 0
written_records {statement = statement} w =
    records_to statement most_parts w.parts (few_most w.few) w.recordable w.stand (w.size_is ∙ sym (zero-add (length (statement_of w.parts))))

module _ (file : List ℕ) (editions : Editions) (book trip : List ℕ) (read : ReadFile file editions) where
  under : came_to file book trip ≡ settled_under file editions book trip largest_statement
  under = faultless_way file book trip largest_statement editions read

  most : size_of (came_to file book trip) ≤ largest_statement
  most = subst (λ (o : Outcome). size_of o ≤ largest_statement) (sym under) (size_most file editions book trip)

module _ (file : List ℕ) (editions : Editions) (book trip : List ℕ) {book' statement statement' : List ℕ} {r : Answer} (read : ReadFile file editions)
    (fits : StatementFits file book trip (length statement)) (told : UnderSettled file editions book trip statement book' statement' r) where
  as_offered : settled_under file editions book trip (length statement) ≡ came_to file book trip
  as_offered =
      let same = under file editions book trip read in
      same_room file editions book trip (length statement) (subst (λ (o : Outcome). size_of o ≤ length statement) same fits) ∙ sym same

  of_offered : Told (came_to file book trip) book book' statement statement' r
  of_offered = subst (λ (o : Outcome). Told o book book' statement statement' r) as_offered told

  pub sized_refused : {number place : ℕ} → r ≡ Refused number place → TripSized file book trip statement book' statement' 0
  sized_refused is =
      record {
        size_is = sym (told_none (came_to file book trip) (rw is at of_offered));
        size_most = omega arith;
        records = no_more refl;
        paid = λ payer. paid_end statement' most_parts payer (omega arith) ∙ sym (paid_end _ most_parts payer (omega arith));
        book_is = of_offered.book_is;
        statement_is = of_offered.statement_is;
      }

  pub sized_written : {size : ℕ} → r ≡ Written size → TripSized file book trip statement book' statement' size
  sized_written {size} is =
      let w = settled_accepted file book trip largest_statement (rw is at of_offered) in
      let all : size ≡ size_of (came_to file book trip) = w.size_is ∙ ap (λ (o : Outcome). size_of o) (sym w.is) in
      record {
        size_is = all;
        size_most = omega (arith, all, most file editions book trip read);
        records = written_records w;
        paid = λ payer.
            ap (λ (n : ℕ). paid_over statement' n payer) w.size_is
            ∙ paid_alone w.parts statement' payer (few_most w.few) w.recordable w.stand
            ∙ ap (λ (n : ℕ). paid_over (statement_of w.parts) n payer) (sym w.size_is)
            ∙ ap (λ (o : Outcome). paid_over (statement_of (parts_in o)) size payer) (sym w.is);
        book_is = of_offered.book_is;
        statement_is = of_offered.statement_is;
      }

-- Every trip's statement fits where the largest does.
pub any_fits :
    (file : List ℕ) (editions : Editions) → ReadFile file editions → (book : List ℕ) {rest : List Offer} {room : ℕ} → room ≡ largest_statement
    → NextFits file book rest room
any_fits file editions read book is =
    record { fits = λ trip later next. omega (arith, is, most file editions book trip read) }
