-- What is decided before anything is written: of file and book, by each group of the table's rows, and of a trip by all of them.
use Rattle.std.specs.Prelude.{ℕ, ◌+◌, ◌*◌, List, [], ◌∷◌, cond, ltb}
use Rattle.layout.specs.declared.Counts.{Counts}
use Rattle.editions.specs.declared.Editions.{Editions}
use Rattle.editions.specs.declared.FileReading.TheVariants.{Fault, Faultless}
use Rattle.editions.specs.Reading.{read_file}
use Rattle.editions.specs.Editions.{in_force}
use Rattle.trip.specs.declared.Trip.{Trip}
use Rattle.trip.specs.declared.Party.{Party}
use Rattle.trip.specs.Record.{class_at, level_at, party_at, count_at}
use Rattle.trip.specs.Moments.{checkin_of, checkout_of}
use Rattle.trip.specs.Trips.{trip_of}
use Rattle.fare.specs.declared.Breaking.{Breaking}
use Rattle.fare.specs.declared.Breaking.TheVariants.{Unbroken, At}
use Rattle.fare.specs.Parts.{break_of}
use Rattle.ledger.specs.declared.Window.{Window}
use Rattle.ledger.specs.Windows.{window_of}
use Rattle.statement.specs.Record.{record_size}
use Rattle.deciding.specs.declared.decide.Decision.{Decision}
use Rattle.deciding.specs.declared.decide.Decision.TheVariants.{Refused, Clear}
use Rattle.deciding.specs.declared.groups.Fields.{Fields}
use Rattle.deciding.specs.declared.groups.Span.{Span}
use Rattle.deciding.specs.declared.groups.Formed.{Formed}
use Rattle.deciding.specs.declared.groups.Formed.TheVariants as formed
use Rattle.deciding.specs.declared.groups.Placed.{Placed}
use Rattle.deciding.specs.declared.groups.Placed.TheVariants as placed
use Rattle.deciding.specs.declared.groups.Timed.{Timed}
use Rattle.deciding.specs.declared.groups.Timed.TheVariants as timed
use Rattle.deciding.specs.declared.groups.Opened.{Opened}
use Rattle.deciding.specs.declared.groups.Opened.TheVariants as opened
use Rattle.deciding.specs.declared.groups.Roomed.{Roomed}
use Rattle.deciding.specs.declared.groups.Roomed.TheVariants as roomed
use Rattle.deciding.specs.declared.ready.Readiness.{Readiness}
use Rattle.deciding.specs.declared.ready.Readiness.TheVariants as readiness
use Rattle.deciding.specs.declared.refusals.Refusal.TheVariants.{UnsoundBook, FullWindow, NoRoom}
use Rattle.deciding.specs.Refusals.{
  refusal,
  sound_in,
  window_in,
  tariff_for,
  counts_for,
  Row,
  row,
  trip_rows,
  clock_rows,
  edition_rows,
  tariff_rows,
  rows,
  first_of,
  comes_to,
}

-- ---- Of file and book: 1 to 3, the file's first fault at its record's offset; 4; or that both are ready.

unfoldable pub readiness_of : List ℕ → List ℕ → Readiness
readiness_of file book =
    elim (read_file file) [
      | Fault number at ↦ readiness.Refused number at
      | Faultless editions ↦ cond (sound_in editions book) (readiness.Ready editions) (readiness.Refused (refusal UnsoundBook) 0)
    ]

-- ---- Of a trip.

-- what is decided under a faultless file: the first row of the table that holds; or that none does, with the trip's fields, its window and
-- where it is broken under the window's edition
unfoldable pub decided_under : List ℕ → Editions → List ℕ → List ℕ → ℕ → Decision
decided_under file editions book trip room =
    comes_to Refused
    (Clear (trip_of trip) (window_in editions book trip)
    (break_of (tariff_for file editions book trip) (counts_for editions book trip) trip (count_at trip 0)))
    (first_of (rows file editions book trip room))

-- ---- By each group: its first row that holds; or that none does, with what it has found.

-- what a trip record says besides its stamps, and its times
abbrev pub fields_of : List ℕ → Fields
fields_of trip = record { class = class_at trip 0; level = level_at trip 0; party = party_at trip 0; stops = count_at trip 0 }

abbrev pub span_of : List ℕ → Span
span_of trip = record { checkin = record { 0 = checkin_of trip }; checkout = record { 0 = checkout_of trip } }

-- both together
abbrev pub trip_with : Fields → Span → Trip
trip_with fields span =
    record {
      checkin = span.checkin;
      checkout = span.checkout;
      class = fields.class;
      level = fields.level;
      party = fields.party;
      stops = fields.stops;
    }

unfoldable pub formed_by : List ℕ → Formed
formed_by trip = comes_to formed.Refused (formed.As (fields_of trip)) (first_of (trip_rows trip))

unfoldable pub placed_by : List ℕ → Counts → List ℕ → Placed
placed_by tariff counts trip =
    comes_to placed.Refused (placed.Broken (break_of tariff counts trip (count_at trip 0))) (first_of (tariff_rows tariff counts trip))

unfoldable pub timed_by : List ℕ → List ℕ → Timed
timed_by book trip = comes_to timed.Refused (timed.Over (span_of trip)) (first_of (clock_rows book trip))

-- the window of a trip with these times, which has an edition
abbrev pub window_over : Editions → List ℕ → Span → Window
window_over editions book span = window_of book span.checkin.0 span.checkout.0 (in_force editions span.checkin.0)

unfoldable pub opened_by : Editions → List ℕ → Span → Opened
opened_by editions book span =
    comes_to opened.Refused (opened.In (window_over editions book span)) (first_of (edition_rows (window_over editions book span)))

-- how many rides a trip is charged as, by where it is broken, and the bytes of their records: all have the trip's party
abbrev pub rides_in : Breaking → ℕ
rides_in Unbroken = 1
rides_in (At c) = 2

abbrev pub records_size : Breaking → Party → ℕ
records_size breaking party = rides_in breaking * record_size party

-- so much is all that the rows of room look at
abbrev pub room_rows_by : Window → Breaking → Party → ℕ → List Row
room_rows_by window breaking party room =
    row FullWindow (ltb 256 (window.trips + rides_in breaking)) ∷ row NoRoom (ltb room (records_size breaking party)) ∷ []

unfoldable pub roomed_by : Window → Breaking → Party → ℕ → Roomed
roomed_by window breaking party room = comes_to roomed.Refused roomed.Enough (first_of (room_rows_by window breaking party room))
