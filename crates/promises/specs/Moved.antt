-- Nights moved on the calendar: trips, books, parts and outcomes that are alike but for their minutes of UTC, which are all d later; where the
-- moved windows open under the same editions.
use Rattle.std.specs.Prelude.{ℕ, ◌+◌, ◌≤◌, ◌≡◌, ◌↔◌, List, [], ◌∷◌, true, false, cond, length, eqb}
use Rattle.wire.specs.Frame.{frame_at}
use Rattle.editions.specs.declared.Editions.{Editions}
use Rattle.editions.specs.Editions.{in_force}
use Rattle.editions.specs.Reading.{ReadFile}
use Rattle.calendar.specs.Stamps.{last_minute, MovedStamp}
use Rattle.trip.specs.Record.{checkin_place, checkout_place, class_at, level_at, party_at, count_at, stop_number}
use Rattle.trip.specs.Moments.{stamp_at, checkin_of, checkout_of}
use Rattle.trip.specs.Trips.{stamps_right}
use Rattle.ledger.specs.Words.{word, trips_of, opening_of, last_out_of}
use Rattle.ledger.specs.Windows.{belongs}
use Rattle.statement.specs.Record.{Part, statement_of}
use Rattle.settle.specs.Outcome.{Outcome, refused, accepted, book_after}
use Rattle.settle.specs.Runs.{Offer}
use Rattle.settle.specs.Steps.{Step, settling, posting, offer_of, step_outcome}
use Rattle.promises.specs.ReadBack.{EachReadable}

-- two trips the same in every field but their stamps: the record's length and frame, class, level, party, the number of stops and each stop
pub record SameTrip (trip trip' : List ℕ) : Type 0 where
  pub size : length trip' ≡ length trip
  pub frame : frame_at trip' 0 ≡ frame_at trip 0
  pub class : class_at trip' 0 ≡ class_at trip 0
  pub level : level_at trip' 0 ≡ level_at trip 0
  pub party : party_at trip' 0 ≡ party_at trip 0
  pub count : count_at trip' 0 ≡ count_at trip 0
  pub stop : (i : ℕ) → stop_number trip' i ≡ stop_number trip i

-- such trips; all four stamps are right, and the second's moments d minutes later
pub record MovedTrip (d : ℕ) (trip trip' : List ℕ) : Type 0 where
  pub same : SameTrip trip trip'
  pub stamps : stamps_right trip ≡ true
  pub stamps' : stamps_right trip' ≡ true
  pub checkin : checkin_of trip' ≡ checkin_of trip + d
  pub checkout : checkout_of trip' ≡ checkout_of trip + d

-- the same, told by the stamps: local dates and clock times, each with its own offset
pub record MovedStamps (d : ℕ) (trip trip' : List ℕ) : Type 0 where
  pub same : SameTrip trip trip'
  pub stamps : stamps_right trip ≡ true
  pub stamps' : stamps_right trip' ≡ true
  pub checkin : MovedStamp d (stamp_at trip checkin_place) (stamp_at trip' checkin_place)
  pub checkout : MovedStamp d (stamp_at trip checkout_place) (stamp_at trip' checkout_place)

-- two books of one length, the same in every word but the opening minute and the last check-out: the trips, and from word 3 on each rider's
-- sums, each bicycle's covering area and payments, and the window's edition
pub record SameWords (book book' : List ℕ) : Type 0 where
  pub size : length book' ≡ length book
  pub trips : trips_of book' ≡ trips_of book
  pub sums : (i : ℕ) → 3 ≤ i → word book' i ≡ word book i

-- such books: where a window is open, its opening and its last check-out are d minutes later in the second
pub record MovedBook (d : ℕ) (book book' : List ℕ) : Type 0 where
  pub same : SameWords book book'
  pub opening : opening_of book' ≡ opening_of book + cond (eqb (trips_of book) 0) 0 d
  pub last : last_out_of book' ≡ last_out_of book + cond (eqb (trips_of book) 0) 0 d
  pub in-calendar : last_out_of book' ≤ last_minute

-- two parts alike but for the window's opening minute, which is d later in the second: the ride, every charge and every cut are the same
pub record MovedPart (d : ℕ) (part part' : Part) : Type 0 where
  pub ride : part'.ride ≡ part.ride
  pub charges : part'.charges ≡ part.charges
  pub cuts : part'.cuts ≡ part.cuts
  pub opening : part'.opening ≡ part.opening + d

pub data MovedParts (d : ℕ) : List Part → List Part → Type 0 where
  no_part : MovedParts d [] []
  one_part : {part part' : Part} {more more' : List Part} → MovedPart d part part' → MovedParts d more more'
      → MovedParts d (part ∷ more) (part' ∷ more')

-- two outcomes alike: both refused with one number and place, or both accepted, with books and parts so moved
pub data MovedOutcome (d : ℕ) : Outcome → Outcome → Type 0 where
  both_refused : (n place : ℕ) → MovedOutcome d (refused n place) (refused n place)
  both_accepted : {new new' : List ℕ} {parts parts' : List Part} → MovedBook d new new' → MovedParts d parts parts'
      → MovedOutcome d (accepted new parts) (accepted new' parts')

-- two records offered: of parts that a reader accepts, the one is their charge records exactly where the other is those of the same parts d
-- minutes later. So it is of two that are no charge records, and of what quotes wrote in two such nights
pub record MovedRecord (d : ℕ) (offered offered' : List ℕ) : Type 0 where
  pub alike :
      {parts parts' : List Part} → EachReadable parts → EachReadable parts' → MovedParts d parts parts'
      → statement_of parts ≡ offered ↔ statement_of parts' ≡ offered'

-- two steps alike but for the moments of their trips, as `trips` says of these: settled with the same room, or posted with such records
pub data MovedStep (d : ℕ) (trips : List ℕ → List ℕ → Type 0) : Step → Step → Type 0 where
  moved_settling : {o o' : Offer} → trips o.bytes o'.bytes → o'.room ≡ o.room → MovedStep d trips (settling o) (settling o')
  moved_posting :
      {trip trip' offered offered' : List ℕ} → trips trip trip' → MovedRecord d offered offered'
      → MovedStep d trips (posting trip offered) (posting trip' offered')

-- two runs, step by step alike
pub data MovedSteps (d : ℕ) (trips : List ℕ → List ℕ → Type 0) : List Step → List Step → Type 0 where
  moved_none : MovedSteps d trips [] []
  moved_more :
      {step step' : Step} {run run' : List Step} → MovedStep d trips step step' → MovedSteps d trips run run'
      → MovedSteps d trips (step ∷ run) (step' ∷ run')

-- the moments are d minutes later in the second
abbrev pub MovedRun : ℕ → List Step → List Step → Type 0
MovedRun d = MovedSteps d (MovedTrip d)

-- the same, told by the stamps
abbrev pub MovedNight : ℕ → List Step → List Step → Type 0
MovedNight d = MovedSteps d (MovedStamps d)

-- ---- Under the same editions.

-- where a trip opens a window, the edition in force at its check-in is still, or already, in force d minutes later. A file with a fault has none
pub record OpensAlike (file : List ℕ) (d : ℕ) (book trip : List ℕ) : Type 0 where
  pub in-force :
      (editions : Editions) → ReadFile file editions → belongs book (checkout_of trip) ≡ false
      → in_force editions (checkin_of trip + d) ≡ in_force editions (checkin_of trip)

-- so it is of each trip of a run that begins with a book
pub data OpenAlike (file : List ℕ) (d : ℕ) : List ℕ → List Step → Type 0 where
  alike_none : {book : List ℕ} → OpenAlike file d book []
  alike_more :
      {book : List ℕ} {step : Step} {run : List Step} → OpensAlike file d book (offer_of step).bytes
      → OpenAlike file d (book_after (step_outcome file book step) book) run → OpenAlike file d book (step ∷ run)
