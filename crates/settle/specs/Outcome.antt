-- docs/RULES.md, section 14: the one outcome of settling a trip, which is made of its quote: what it would be charged, told and not posted.
-- 1 to 3 are the file's; 4 to 12 stand in the table of deciding's `Refusals`.
use Rattle.std.specs.Prelude.{ℕ, ◌+◌, ◌*◌, ◌^◌, ◌≡◌, List, [], ◌∷◌, ◌++◌, true, length, drop}
use Rattle.layout.specs.declared.Counts.{Counts}
use Rattle.editions.specs.declared.Editions.{Editions}
use Rattle.editions.specs.declared.FileReading.TheVariants.{Fault, Faultless}
use Rattle.editions.specs.Editions.{counts_in, tariff_in}
use Rattle.editions.specs.Reading.{read_file}
use Rattle.trip.specs.declared.Trip.{Trip}
use Rattle.trip.specs.Trips.{trip_of}
use Rattle.trip.specs.declared.Ride.{Ride}
use Rattle.fare.specs.Parts.{rides_of}
use Rattle.ledger.specs.declared.Window.{Window}
use Rattle.ledger.specs.Windows.{in_window}
use Rattle.charging.specs.Charging.{charges_of}
use Rattle.charging.specs.Cuts.{cuts_of}
use Rattle.charging.specs.After.{posted}
use Rattle.statement.specs.Record.{Part, statement_of}
use Rattle.deciding.specs.declared.decide.Decision.TheVariants.{Refused, Clear}
use Rattle.deciding.specs.Refusals.{refusal, window_in, tariff_for, counts_for}
use Rattle.deciding.specs.Deciding.{decided_under}

-- a quote: a refusal with its number and place; or the parts that the trip would be charged in
pub data Quote : Type 0 where
  unquoted : ℕ → ℕ → Quote
  priced : List Part → Quote

-- a refusal with its number and place; or the new book and the parts that the trip was charged in
pub data Outcome : Type 0 where
  refused : ℕ → ℕ → Outcome
  accepted : List ℕ → List Part → Outcome

-- ---- What a trip that meets no refusal comes to.

-- a ride charged in a window of the book
unfoldable pub part_of : List ℕ → Counts → List ℕ → Window → Ride → Part
part_of tariff counts book window ride =
    let words = in_window window.current book in
    record {
      opening = window.opening.0;
      ride = ride;
      charges = charges_of tariff counts words ride;
      cuts = cuts_of tariff counts words ride;
    }

-- the same window, which is open now, with one trip more
unfoldable pub one_more : Window → Window
one_more window = record { current = true; opening = window.opening; trips = window.trips + 1; edition = window.edition }

-- rides one after another: each is charged on the book that those before it left
unfoldable pub parts_of : List ℕ → Counts → List ℕ → Window → ℕ → List Ride → List Part
parts_of tariff counts book window checkout [] = []
parts_of tariff counts book window checkout (ride ∷ more) =
    part_of tariff counts book window ride ∷ parts_of tariff counts (posted tariff counts book window checkout ride) (one_more window) checkout more

-- the book that they leave
unfoldable pub posted_all : List ℕ → Counts → List ℕ → Window → ℕ → List Ride → List ℕ
posted_all tariff counts book window checkout [] = book
posted_all tariff counts book window checkout (ride ∷ more) =
    posted_all tariff counts (posted tariff counts book window checkout ride) (one_more window) checkout more

-- the parts that a trip with these fields is charged in, in a window; and the book that has them
abbrev pub trip_parts : List ℕ → Counts → List ℕ → List ℕ → Trip → Window → List Part
trip_parts tariff counts book bytes trip window = parts_of tariff counts book window trip.checkout.0 (rides_of tariff counts bytes trip)

abbrev pub trip_posted : List ℕ → Counts → List ℕ → List ℕ → Trip → Window → List ℕ
trip_posted tariff counts book bytes trip window = posted_all tariff counts book window trip.checkout.0 (rides_of tariff counts bytes trip)

unfoldable pub accepted_trip : List ℕ → Counts → List ℕ → List ℕ → Trip → Window → Outcome
accepted_trip tariff counts book bytes trip window =
    accepted (trip_posted tariff counts book bytes trip window) (trip_parts tariff counts book bytes trip window)

-- under a file of editions: the parts in a window, by the tariff of its edition; and the book that has the trip of some bytes, in the window that
-- it belongs to or opens
abbrev pub parts_under : List ℕ → Editions → List ℕ → List ℕ → Trip → Window → List Part
parts_under file editions book bytes trip window =
    trip_parts (tariff_in file editions window.edition) (counts_in editions window.edition) book bytes trip window

abbrev pub book_with : List ℕ → Editions → List ℕ → List ℕ → List ℕ
book_with file editions book trip =
    trip_posted (tariff_for file editions book trip) (counts_for editions book trip) book trip (trip_of trip) (window_in editions book trip)

-- ---- The quote.

-- of a trip on a book, under a file without fault, with so many bytes of room for the records. 4 to 12 have no place
unfoldable pub quoted_under : List ℕ → Editions → List ℕ → List ℕ → ℕ → Quote
quoted_under file editions book trip room =
    elim (decided_under file editions book trip room) [
      | Refused why ↦ unquoted (refusal why) 0
      | Clear fields window breaking ↦ priced (parts_under file editions book trip fields window)
    ]

-- under any byte string as a file. 1 to 3: the file's first fault, at its record's offset
unfoldable pub quoted : List ℕ → List ℕ → List ℕ → ℕ → Quote
quoted file book trip room =
    elim (read_file file) [
      | Fault number at ↦ unquoted number at
      | Faultless editions ↦ quoted_under file editions book trip room
    ]

-- ---- The outcome.

-- the quote's refusal; or its parts, with the book that has them
unfoldable pub settled_under : List ℕ → Editions → List ℕ → List ℕ → ℕ → Outcome
settled_under file editions book trip room =
    elim (quoted_under file editions book trip room) [
      | unquoted number place ↦ refused number place
      | priced parts ↦ accepted (book_with file editions book trip) parts
    ]

-- under any byte string as a file
unfoldable pub settled : List ℕ → List ℕ → List ℕ → ℕ → Outcome
settled file book trip room =
    elim (read_file file) [
      | Fault number at ↦ refused number at
      | Faultless editions ↦ settled_under file editions book trip room
    ]

-- ---- What comes back.

-- a refusal returns its number and a place
abbrev pub refused_as : ℕ → ℕ → ℕ
refused_as number place = number * 2 ^ 32 + place

-- acceptance returns the bytes written
abbrev pub answer_of : Outcome → ℕ
answer_of (refused number place) = refused_as number place
answer_of (accepted new parts) = length (statement_of parts)

abbrev pub quote_answer : Quote → ℕ
quote_answer (unquoted number place) = refused_as number place
quote_answer (priced parts) = length (statement_of parts)

-- a refused trip has no part
abbrev pub parts_in : Outcome → List Part
parts_in (refused number place) = []
parts_in (accepted new parts) = parts

abbrev pub parts_priced : Quote → List Part
parts_priced (unquoted number place) = []
parts_priced (priced parts) = parts

-- the bytes that a quote writes
abbrev pub quote_bytes : Quote → List ℕ
quote_bytes quote = statement_of (parts_priced quote)

-- a refusal leaves the book; acceptance replaces it
abbrev pub book_after : Outcome → List ℕ → List ℕ
book_after (refused number place) book = book
book_after (accepted new parts) book = new

-- the parts' records stand at the start of the statement, and its further bytes stay
abbrev pub statement_with : List Part → List ℕ → List ℕ
statement_with parts statement = statement_of parts ++ drop (length (statement_of parts)) statement

-- a refusal leaves the statement
abbrev pub statement_after : Outcome → List ℕ → List ℕ
statement_after (refused number place) statement = statement
statement_after (accepted new parts) statement = statement_with parts statement

abbrev pub quote_after : Quote → List ℕ → List ℕ
quote_after (unquoted number place) statement = statement
quote_after (priced parts) statement = statement_with parts statement

-- the answer and every byte left behind are the outcome's
pub record Settled (outcome : Outcome) (book book' statement statement' : List ℕ) (r : ℕ) : Type 0 where
  pub answer : r ≡ answer_of outcome
  pub book_is : book' ≡ book_after outcome book
  pub statement_is : statement' ≡ statement_after outcome statement

-- the quote's; the book is only read
pub record Quoted (quote : Quote) (statement statement' : List ℕ) (r : ℕ) : Type 0 where
  pub answer : r ≡ quote_answer quote
  pub statement_is : statement' ≡ quote_after quote statement
