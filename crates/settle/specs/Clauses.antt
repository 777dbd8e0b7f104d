-- What the functions of settling, of a quote and of a posting ask and answer, up to the exported ones.
use Rattle.std.specs.Prelude.{ℕ, ◌+◌, ◌^◌, ◌<◌, ◌≡◌, List, [], ◌∷◌, true, cond, length}
use Rattle.units.specs.declared.Minutes.{Minutes}
use Rattle.layout.specs.declared.Counts.{Counts}
use Rattle.editions.specs.declared.Editions.{Editions}
use Rattle.editions.specs.Editions.{start_in, end_in, counts_in}
use Rattle.trip.specs.declared.Trip.{Trip}
use Rattle.trip.specs.declared.Ride.{Ride}
use Rattle.fare.specs.declared.Breaking.{Breaking}
use Rattle.fare.specs.declared.Breaking.TheVariants.{Unbroken, At}
use Rattle.statement.specs.Record.{record_size, statement_of}
use Rattle.statement.specs.Clauses.{Recordables, Wrote}
use Rattle.ledger.specs.declared.Window.{Window}
use Rattle.charging.specs.After.{posted}
use Rattle.posting.specs.Clauses.{Postable}
use Rattle.deciding.specs.declared.decide.Decision.TheVariants as decision
use Rattle.deciding.specs.declared.refusals.Refusal.TheVariants.{OtherRecord}
use Rattle.deciding.specs.Refusals.{refusal, sound_in}
use Rattle.deciding.specs.Deciding.{decided_under}
use Rattle.settle.specs.declared.Answer.{Answer}
use Rattle.settle.specs.declared.Answer.TheVariants.{Refused, Written}
use Rattle.settle.specs.declared.state.Stated.{Stated}
use Rattle.settle.specs.declared.state.Stated.TheVariants as stated
use Rattle.settle.specs.declared.state.Stated.TheVariants.{Records}
use Rattle.settle.specs.Outcome.{
  Quote,
  unquoted,
  priced,
  Outcome,
  refused,
  accepted,
  part_of,
  one_more,
  posted_all,
  trip_parts,
  trip_posted,
  parts_under,
  quoted_under,
  quoted,
  settled_under,
  settled,
  parts_in,
  parts_priced,
  book_after,
  statement_after,
  quote_after,
}
use Rattle.settle.specs.Posting.{same_bytes, Posting, unposted, renewed, posted_under, posting_of, book_left}

-- ---- Stating: the book is only read.

-- the stop at which a trip's first ride ends: where the trip is broken, or its last
abbrev pub first_end : Breaking → ℕ → ℕ
first_end Unbroken last = last
first_end (At c) last = c

-- the records of a trip with these fields are written from the start of the statement on
abbrev pub RidesStated : List ℕ → Counts → List ℕ → List ℕ → Trip → Window → List ℕ → List ℕ → ℕ → Type 0
RidesStated tariff counts book bytes trip window statement statement' r =
    Wrote (statement_of (trip_parts tariff counts book bytes trip window)) statement 0 statement' r

-- what stating a trip comes to: the refusal that was decided; or the bytes of its records, and what posting them asks
unfoldable pub stated_under : List ℕ → Editions → List ℕ → List ℕ → ℕ → Stated
stated_under file editions book trip room =
    elim (decided_under file editions book trip room) [
      | decision.Refused why ↦ stated.Refused why
      | decision.Clear fields window breaking ↦
          Records (length (statement_of (parts_under file editions book trip fields window))) window fields.checkout fields.class
          (start_in editions window.edition) (end_in file editions window.edition) (counts_in editions window.edition)
    ]

-- so is the answer, and the statement is left as the quote leaves it
pub record TripStated (file : List ℕ) (editions : Editions) (book trip statement statement' : List ℕ) (r : Stated) : Type 0 where
  pub answer : r ≡ stated_under file editions book trip (length statement)
  pub statement_is : statement' ≡ quote_after (quoted_under file editions book trip (length statement)) statement

-- ---- Posting.

-- the records of some rides stand one behind the other from a place of the statement up to an end, each to be posted on the book that the ones
-- before it left, as one trip more
pub data RidesPostable (tariff : List ℕ) (counts : Counts) (checkout : Minutes) (class : ℕ) (statement : List ℕ) (end : ℕ)
    : List ℕ → Window → ℕ → List Ride → Type 0 where
  over : {book : List ℕ} {window : Window} {place : ℕ} → place ≡ end → RidesPostable tariff counts checkout class statement end book window place []
  then :
      {book : List ℕ} {window : Window} {place : ℕ} {ride : Ride} {rest : List Ride}
      → Postable tariff counts book window class (part_of tariff counts book window ride) statement place
      → RidesPostable tariff counts checkout class statement end (posted tariff counts book window checkout.0 ride) (one_more window)
      (place + record_size ride.party) rest
      → RidesPostable tariff counts checkout class statement end book window place (ride ∷ rest)

-- the first `size` bytes of the statement are such records
pub record RecordsPostable (tariff : List ℕ) (counts : Counts) (book : List ℕ) (window : Window)
    (checkout : Minutes) (class : ℕ) (statement : List ℕ) (size : ℕ) : Type 0 where
  pub rides : List Ride
  pub postable : RidesPostable tariff counts checkout class statement size book window 0 rides

-- whatever rides they are of, the book has them
pub record RecordsPosted (tariff : List ℕ) (counts : Counts) (book : List ℕ) (window : Window)
    (checkout : Minutes) (class : ℕ) (statement : List ℕ) (size : ℕ) (book' : List ℕ) : Type 0 where
  pub book_is :
      (rides : List Ride) → RidesPostable tariff counts checkout class statement size book window 0 rides
      → book' ≡ posted_all tariff counts book window checkout.0 rides

-- ---- Answers.

-- what an answer tells of an outcome
abbrev pub told_by : Outcome → Answer
told_by (refused number place) = Refused number place
told_by (accepted new parts) = Written (length (statement_of parts))

-- the exported answer has room for it: 8 bits for a refusal's number, 32 for its place, and 32 for a size
abbrev pub AnswerFits : Answer → Type 0
AnswerFits (Refused number place) = place < 2 ^ 32
AnswerFits (Written size) = size < 2 ^ 32

-- the answer and every byte left behind are the outcome's, and what was written can be read
pub record Told (outcome : Outcome) (book book' statement statement' : List ℕ) (r : Answer) : Type 0 where
  pub answer : r ≡ told_by outcome
  pub fits : AnswerFits r
  pub recordable : Recordables (parts_in outcome)
  pub book_is : book' ≡ book_after outcome book
  pub statement_is : statement' ≡ statement_after outcome statement

-- and the book left behind is sound again
pub record ToldSound (outcome : Outcome) (editions : Editions) (book book' statement statement' : List ℕ) (r : Answer) : Type 0 where
  pub told : Told outcome book book' statement statement' r
  pub sound_again : sound_in editions book' ≡ true

-- of a quote
abbrev pub told_quote : Quote → Answer
told_quote (unquoted number place) = Refused number place
told_quote (priced parts) = Written (length (statement_of parts))

pub record QuoteTold (quote : Quote) (statement statement' : List ℕ) (r : Answer) : Type 0 where
  pub answer : r ≡ told_quote quote
  pub fits : AnswerFits r
  pub recordable : Recordables (parts_priced quote)
  pub statement_is : statement' ≡ quote_after quote statement

-- of a posting
abbrev pub told_posting : Posting → Answer
told_posting (unposted number place) = Refused number place
told_posting (renewed new) = Written (length new)

pub record PostingTold (posting : Posting) (book book' : List ℕ) (r : Answer) : Type 0 where
  pub answer : r ≡ told_posting posting
  pub fits : AnswerFits r
  pub book_is : book' ≡ book_left posting book

-- ---- What each function answers, of the slices at its entry and at its exit.

-- `settle_next`
abbrev pub NextSettled : List ℕ → Editions → List ℕ → List ℕ → List ℕ → List ℕ → List ℕ → Answer → Type 0
NextSettled file editions book trip statement book' statement' r =
    ToldSound (settled_under file editions book trip (length statement)) editions book book' statement statement' r

-- `settle_under`
abbrev pub UnderSettled : List ℕ → Editions → List ℕ → List ℕ → List ℕ → List ℕ → List ℕ → Answer → Type 0
UnderSettled file editions book trip statement book' statement' r =
    Told (settled_under file editions book trip (length statement)) book book' statement statement' r

-- `settle`
abbrev pub TripSettled : List ℕ → List ℕ → List ℕ → List ℕ → List ℕ → List ℕ → Answer → Type 0
TripSettled file book trip statement book' statement' r =
    Told (settled file book trip (length statement)) book book' statement statement' r

-- `quote_next`
abbrev pub NextQuoted : List ℕ → Editions → List ℕ → List ℕ → List ℕ → List ℕ → Answer → Type 0
NextQuoted file editions book trip statement statement' r =
    QuoteTold (quoted_under file editions book trip (length statement)) statement statement' r

-- `quote`
abbrev pub TripQuoted : List ℕ → List ℕ → List ℕ → List ℕ → List ℕ → Answer → Type 0
TripQuoted file book trip statement statement' r = QuoteTold (quoted file book trip (length statement)) statement statement' r

-- where all conditions are clear: 13, or the book with the trip
abbrev pub clear_posting : List ℕ → Counts → List ℕ → List ℕ → Trip → Window → List ℕ → Posting
clear_posting tariff counts book bytes trip window offered =
    cond (same_bytes (statement_of (trip_parts tariff counts book bytes trip window)) offered) (renewed (trip_posted tariff counts book bytes trip window))
    (unposted (refusal OtherRecord) 0)

-- `post_next`
abbrev pub NextPosted : List ℕ → Editions → List ℕ → List ℕ → List ℕ → List ℕ → Answer → Type 0
NextPosted file editions book trip offered book' r = PostingTold (posted_under file editions book trip offered) book book' r

-- `post`
abbrev pub TripPosted : List ℕ → List ℕ → List ℕ → List ℕ → List ℕ → Answer → Type 0
TripPosted file book trip offered book' r = PostingTold (posting_of file book trip offered) book book' r
