-- What each function answers, from what is decided: where file and book are not ready, where a trip is refused, and where its records are
-- stated, compared and posted.
-- Assumes nothing.
use Prim.Native.Nat.{ℕ, ◌-◌, ◌≤◌, ◌<◌, ◌^◌}
use native.Mathlib.Nat.{zero-add}
use native.Mathlib.Omega.{arith}
use mathlib.Core.Path.{◌≡◌, refl, sym, ap, ◌∙◌}
use mathlib.Core.Bool.{true, false}
use mathlib.Core.List.{List, ◌++◌}
use lib.ListN.{length, take, drop}
use lib.Seq.{sets-eq, take-append_seam}
use Rattle.layout.specs.declared.Counts.{Counts}
use Rattle.editions.specs.declared.Editions.{Editions}
use Rattle.editions.specs.declared.FileReading.TheVariants.{Fault}
use Rattle.editions.specs.Reading.{read_file, ReadFile}
use Rattle.editions.specs.Editions.{many_of, counts_in, tariff_in, start_in, end_in}
use Rattle.editions.proofs.Cases.{file_fault_most}
use Rattle.editions.proofs.Places.{Stands, stands}
use Rattle.units.specs.declared.Minutes.{Minutes}
use Rattle.trip.specs.declared.Trip.{Trip}
use Rattle.trip.specs.declared.Ride.{Ride}
use Rattle.fare.specs.declared.Breaking.{Breaking}
use Rattle.fare.specs.Parts.{rides_of}
use Rattle.statement.specs.Record.{Part, largest_statement, statement_of}
use Rattle.statement.proofs.Records.{stand_from}
use Rattle.ledger.specs.declared.Window.{Window}
use Rattle.deciding.specs.declared.decide.Decision.{Decision}
use Rattle.deciding.specs.declared.decide.Decision.TheVariants as decision
use Rattle.deciding.specs.declared.ready.Readiness.TheVariants as readiness
use Rattle.deciding.specs.declared.refusals.Refusal.{Refusal}
use Rattle.deciding.specs.declared.refusals.Refusal.TheVariants.{UnsoundBook, OtherRecord}
use Rattle.deciding.specs.Refusals.{refusal, sound_in}
use Rattle.deciding.specs.Deciding.{readiness_of, decided_under}
use Rattle.deciding.specs.Clauses.{Ready, AllClear}
use Rattle.deciding.proofs.Decisions.{Unready, faulty, unsound, unready, in-back, clear_found, edition_known, all_clear}
use Rattle.settle.specs.declared.Answer.TheVariants as answer
use Rattle.settle.specs.declared.state.Stated.{Stated}
use Rattle.settle.specs.declared.state.Stated.TheVariants as stated
use Rattle.settle.specs.Outcome.{
  parts_under,
  trip_parts,
  posted_all,
  trip_posted,
  accepted_trip,
  refused,
  settled_under,
  settled,
  unquoted,
  quoted_under,
  quoted,
}
use Rattle.settle.specs.Posting.{same_bytes, unposted, posted_under, posting_of}
use Rattle.settle.specs.Clauses.{
  RidesStated,
  stated_under,
  TripStated,
  RidesPostable,
  RecordsPostable,
  RecordsPosted,
  ToldSound,
  QuoteTold,
  PostingTold,
  clear_posting,
}
use Rattle.settle.proofs.Clear.{parts_right, edition_posted, size_most, trip_postable}
use Rattle.settle.proofs.Ways.{
  fault_way,
  faultless_way,
  unsound_under,
  accepted-under,
  fault_quote,
  faultless_quote,
  unquoted_under,
  unsound_quote,
  priced_under,
}
use Rattle.settle.proofs.Postings.{fault_posting, faultless_posting, unsound_posting, posted_clear, other_told, posted_told}

-- ---- Not ready.

module _ (file book : List ℕ) {number place : ℕ} (e : readiness_of file book ≡ readiness.Refused number place) where
  -- what is true of a fault and of a book that is not sound
  by-cause :
      {A : Type 0} → (read_file file ≡ Fault number place → A)
      → ((editions : Editions) → ReadFile file editions → sound_in editions book ≡ false → number ≡ refusal UnsoundBook → place ≡ 0 → A) → A
  by-cause {A} of-fault of-book = met (unready file book e)
    where
      met : Unready file book number place → A
      met (faulty is) = of-fault is
      met (unsound editions read is n p) = of-book editions read is n p

  pub place-near : place < 2 ^ 32
  place-near = by-cause (λ is. omega (arith, (file_fault_most _ _ _ is).1)) (λ editions read is n p. omega arith)

  pub refused_settled : (trip : List ℕ) (room : ℕ) → settled file book trip room ≡ refused number place
  refused_settled trip room =
      by-cause (λ is. fault_way file book trip room number place is)
      (λ editions read is n p. faultless_way file book trip room editions read ∙ rw (n, p) (unsound_under file editions book trip room is))

  pub refused-quoted : (trip : List ℕ) (room : ℕ) → quoted file book trip room ≡ unquoted number place
  refused-quoted trip room =
      by-cause (λ is. fault_quote file book trip room number place is)
      (λ editions read is n p. faultless_quote file book trip room editions read ∙ rw (n, p) (unsound_quote file editions book trip room is))

  pub refused-posting : (trip offered : List ℕ) → posting_of file book trip offered ≡ unposted number place
  refused-posting trip offered =
      by-cause (λ is. fault_posting file book trip offered number place is)
      (λ editions read is n p. faultless_posting file book trip offered editions read ∙ rw (n, p) (unsound_posting file editions book trip offered is))

-- ---- Stated.

module _ (file : List ℕ) (editions : Editions) (book trip : List ℕ) (room : ℕ) where
  stated-refused : {why : Refusal} → decided_under file editions book trip room ≡ decision.Refused why → stated_under file editions book trip room ≡ stated.Refused why
  unfolding stated_under
  stated-refused e = rw (e, stated_under)

  stated-clear :
      (fields : Trip) (window : Window) {breaking : Breaking} → decided_under file editions book trip room ≡ decision.Clear fields window breaking
      → stated_under file editions book trip room
      ≡ stated.Records (length (statement_of (parts_under file editions book trip fields window))) window fields.checkout fields.class
      (start_in editions window.edition) (end_in file editions window.edition) (counts_in editions window.edition)
  unfolding stated_under
  stated-clear fields window e = rw (e, stated_under)

  -- and only then
  refused-stated : {why : Refusal} → stated_under file editions book trip room ≡ stated.Refused why → decided_under file editions book trip room ≡ decision.Refused why
  refused-stated {why} e = go (decided_under file editions book trip room) refl
    where
      go : (d : Decision) → decided_under file editions book trip room ≡ d → decided_under file editions book trip room ≡ decision.Refused why
      go (decision.Refused other) is = let same : other ≡ why = cc (stated-refused is) in is ∙ ap decision.Refused same
      go (decision.Clear fields window breaking) is = absurd (let z : ◌≡◌ {A = ℕ} 0 1 = cc (stated-clear fields window is) in omega arith)

  pub record StatedClear (size : ℕ) (window : Window) (checkout : Minutes) (class from to : ℕ) (counts : Counts) : Type 0 where
    pub fields : Trip
    pub breaking : Breaking
    pub decided : decided_under file editions book trip room ≡ decision.Clear fields window breaking
    pub size_is : size ≡ length (statement_of (parts_under file editions book trip fields window))
    pub checkout-is : checkout ≡ fields.checkout
    pub class_is : class ≡ fields.class
    pub from_is : from ≡ start_in editions window.edition
    pub to_is : to ≡ end_in file editions window.edition
    pub counts-are : counts ≡ counts_in editions window.edition

  clear-stated :
      {size : ℕ} {window : Window} {checkout : Minutes} {class from to : ℕ} {counts : Counts}
      → stated_under file editions book trip room ≡ stated.Records size window checkout class from to counts
      → StatedClear size window checkout class from to counts
  clear-stated {size} {window} {checkout} {class} {from} {to} {counts} e = go (decided_under file editions book trip room) refl
    where
      go : (d : Decision) → decided_under file editions book trip room ≡ d → StatedClear size window checkout class from to counts
      go (decision.Refused why) is = absurd (let z : ◌≡◌ {A = ℕ} 0 1 = cc (stated-refused is) in omega arith)
      go (decision.Clear fields here breaking) is =
          let told = stated-clear fields here is in
          let same : here ≡ window = cc in
          record {
            fields = fields;
            breaking = breaking;
            decided = is ∙ ap (λ (w : Window). decision.Clear fields w breaking) same;
            size_is = rw (← same) (cc);
            checkout-is = cc;
            class_is = cc;
            from_is = rw (← same) (cc);
            to_is = rw (← same) (cc);
            counts-are = rw (← same) (cc);
          }

-- Where no row holds, the rides are stated under the part of the file that is the tariff of the window's edition.
pub clear-there :
    {file : List ℕ} {editions : Editions} {book trip : List ℕ} {room : ℕ} {fields : Trip} {window : Window} {breaking : Breaking} {from to : ℕ}
    {counts : Counts} → Ready file editions book → decided_under file editions book trip room ≡ decision.Clear fields window breaking
    → from ≡ start_in editions window.edition → to ≡ end_in file editions window.edition → counts ≡ counts_in editions window.edition
    → AllClear (take (to - from) (drop from file)) counts book trip fields window breaking room
clear-there {file} {editions} {book} {trip} {room} {fields} {window} {breaking} ready e from_is to_is counts-are =
    rw (counts-are, from_is, to_is, (stands file editions ready.read window.edition).there)
    (all_clear file editions book trip fields window breaking room ready e)

-- What was decided is stated.
module _ {file : List ℕ} {editions : Editions} {book trip statement : List ℕ} where
  pub refusal-stated :
      {why : Refusal} → decided_under file editions book trip (length statement) ≡ decision.Refused why
      → TripStated file editions book trip statement statement (stated.Refused why)
  refusal-stated e =
      record { answer = sym (stated-refused file editions book trip (length statement) e); statement_is = rw (unquoted_under file editions book trip (length statement) e) }

  pub records-stated :
      {fields : Trip} {window : Window} {breaking : Breaking} {statement' : List ℕ} {r from to : ℕ} {counts : Counts} → Ready file editions book
      → decided_under file editions book trip (length statement) ≡ decision.Clear fields window breaking → from ≡ start_in editions window.edition
      → to ≡ end_in file editions window.edition → counts ≡ counts_in editions window.edition
      → RidesStated (take (to - from) (drop from file)) counts book trip fields window statement statement' r
      → TripStated file editions book trip statement statement' (stated.Records r window fields.checkout fields.class from to counts)
  records-stated {fields} {window} {breaking} {statement'} {r} ready e from_is to_is counts-are wrote =
      let there = (stands file editions ready.read window.edition).there in
      let stated-bytes = rw (counts-are, from_is, to_is, there) at wrote in
      let tariff = tariff_in file editions window.edition in
      let bytes = statement_of (parts_under file editions book trip fields window) in
      let clear = all_clear file editions book trip fields window breaking (length statement) ready e in
      let size : r ≡ length bytes = stated-bytes.next ∙ zero-add _ in
      record {
        answer = rw (stated-clear file editions book trip (length statement) fields window e, size, from_is, to_is, counts-are);
        statement_is =
            rw (priced_under file editions book trip (length statement) fields window e)
            (stated-bytes.stored
            ∙ sets-eq bytes statement 0
            (omega (arith, (size_most tariff (counts_in editions window.edition) book trip fields window (length statement) clear).1))
            ∙ rw zero-add);
      }

-- What was stated: a refusal, with nothing written;
module _ {file : List ℕ} {editions : Editions} {book trip statement statement' : List ℕ} {r : Stated}
    (ok : TripStated file editions book trip statement statement' r) where
  pub why-refused :
      {why : Refusal} → r ≡ stated.Refused why
      → (decided_under file editions book trip (length statement) ≡ decision.Refused why) × (statement' ≡ statement)
  why-refused is =
      let e = refused-stated file editions book trip (length statement) (sym ok.answer ∙ is) in
      (e, ok.statement_is ∙ rw (unquoted_under file editions book trip (length statement) e))

-- rides are postable under other names for the same
named-alike :
    {tariff : List ℕ} {counts : Counts} {book : List ℕ} {window : Window} {statement : List ℕ} {rides : List Ride} {size n place : ℕ} {checkout out : Minutes}
    {class of : ℕ} → size ≡ n → checkout ≡ out → class ≡ of → RidesPostable tariff counts out of statement n book window place rides
    → RidesPostable tariff counts checkout class statement size book window place rides
named-alike size_is checkout-is class_is it = rw (size_is, checkout-is, class_is) it

-- or the trip's records.
module _ {file : List ℕ} {editions : Editions} {book trip statement statement' : List ℕ} {r : Stated} (ready : Ready file editions book)
    (ok : TripStated file editions book trip statement statement' r) {size : ℕ} {window : Window} {checkout : Minutes} {class from to : ℕ} {counts : Counts}
    (is : r ≡ stated.Records size window checkout class from to counts) where
  told : StatedClear file editions book trip (length statement) size window checkout class from to counts
  told = clear-stated file editions book trip (length statement) (sym ok.answer ∙ is)

  -- the tariff of the window's edition, and its counts
  abbrev tariff : List ℕ
  tariff = tariff_in file editions window.edition

  abbrev own : Counts
  own = counts_in editions window.edition

  clear : AllClear tariff own book trip told.fields window told.breaking (length statement)
  clear = all_clear file editions book trip told.fields window told.breaking (length statement) ready told.decided

  -- it stands in the file between the two places
  placed : Stands file editions window.edition
  placed = stands file editions ready.read window.edition

  pub slice-near : (from ≤ to) × (to ≤ length file)
  slice-near = (omega (arith, told.from_is, told.to_is, placed.order), omega (arith, told.to_is, placed.within))

  abbrev slice : List ℕ
  slice = take (to - from) (drop from file)

  slice_is : slice ≡ tariff
  slice_is = rw (told.from_is, told.to_is) placed.there

  abbrev parts : List Part
  parts = trip_parts tariff own book trip told.fields window

  statement_is : statement' ≡ statement_of parts ++ drop (length (statement_of parts)) statement
  statement_is = ok.statement_is ∙ rw (priced_under file editions book trip (length statement) told.fields window told.decided)

  pub size-near : (size ≤ largest_statement) × (size ≤ length statement)
  size-near =
      let most = size_most tariff own book trip told.fields window (length statement) clear in
      (omega (arith, told.size_is, most.0), omega (arith, told.size_is, most.1))

  -- They are the trip's quote.
  pub quote-told : QuoteTold (quoted_under file editions book trip (length statement)) statement statement' (answer.Written size)
  quote-told =
      rw (priced_under file editions book trip (length statement) told.fields window told.decided)
      (record {
        answer = ap answer.Written told.size_is;
        fits = omega (arith, size-near.0);
        recordable = (parts_right tariff own book trip told.fields window (length statement) clear).0;
        statement_is = statement_is;
      })

  -- They can be posted,
  postable : RidesPostable tariff own checkout class statement' size book window 0 (rides_of tariff own trip told.fields)
  postable =
      named-alike told.size_is told.checkout-is told.class_is
      (trip_postable tariff own book trip told.fields window (length statement) clear refl
      (stand_from parts statement' (drop (length (statement_of parts)) statement) 0 statement_is))

  pub records-postable : RecordsPostable slice counts book window checkout class statement' size
  records-postable = rw (slice_is, told.counts-are) (record { rides = rides_of tariff own trip told.fields; postable = postable })

  module _ {book' : List ℕ} (posted-are : RecordsPosted slice counts book window checkout class statement' size book') where
    posted-own : RecordsPosted tariff own book window checkout class statement' size book'
    posted-own = rw (slice_is, told.counts-are) at posted-are

    book_is : book' ≡ trip_posted tariff own book trip told.fields window
    book_is =
        posted-own.book_is (rides_of tariff own trip told.fields) postable
        ∙ ap (λ (m : Minutes). posted_all tariff own book window m.0 (rides_of tariff own trip told.fields)) told.checkout-is

    -- the book has the window's edition, which is one of the file's
    sound_again : sound_in editions (trip_posted tariff own book trip told.fields window) ≡ true
    sound_again =
        let window_is = (clear_found file editions book trip (length statement) told.decided).1.1.0 in
        let known : window.edition ≤ many_of editions = rw window_is (edition_known editions book trip ready.sound_book) in
        in-back editions _ (edition_posted tariff own book trip told.fields window (length statement) clear) known
        (parts_right tariff own book trip told.fields window (length statement) clear).1

    -- and then it is the accepted outcome, and the book left behind is sound again.
    pub settled-told : ToldSound (settled_under file editions book trip (length statement)) editions book book' statement statement' (answer.Written size)
    unfolding accepted_trip
    settled-told =
        rw (accepted-under file editions book trip (length statement) told.fields window told.decided)
        (record {
          told =
              record {
                answer = ap answer.Written told.size_is;
                fits = omega (arith, size-near.0);
                recordable = (parts_right tariff own book trip told.fields window (length statement) clear).0;
                book_is = book_is;
                statement_is = statement_is;
              };
          sound_again = rw book_is sound_again;
        })

  -- Of a posting, which has room for the largest statement: another record than the quote's is refused; with the quote's the book has the trip.
  module _ (offered : List ℕ) (room : length statement ≡ largest_statement) where
    starts : take size statement' ≡ statement_of parts
    starts =
        ap (λ (n : ℕ). take n statement') told.size_is ∙ ap (take (length (statement_of parts))) statement_is ∙ take-append_seam (statement_of parts) _

    comes-to : posted_under file editions book trip offered ≡ clear_posting tariff own book trip told.fields window offered
    comes-to = posted_clear file editions book trip offered told.fields window (rw room at told.decided)

    pub other-refused :
        same_bytes (take size statement') offered ≡ false
        → PostingTold (posted_under file editions book trip offered) book book (answer.Refused (refusal OtherRecord) 0)
    other-refused differs = rw comes-to (other_told _ _ _ _ _ _ (rw room at clear) offered (rw starts at differs))

    pub quote-posted :
        same_bytes (take size statement') offered ≡ true → {book' : List ℕ}
        → RecordsPosted slice counts book window checkout class statement' size book'
        → PostingTold (posted_under file editions book trip offered) book book' (answer.Written (length book'))
    quote-posted same posted-are = rw comes-to (posted_told _ _ _ _ _ _ (rw room at clear) offered (rw starts at same) (book_is posted-are))
