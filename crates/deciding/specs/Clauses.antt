-- What deciding asks and what a clear decision gives.
use Rattle.std.specs.Prelude.{ℕ, ◌+◌, ◌≤◌, ◌≡◌, List, true, false, length}
use Rattle.layout.specs.declared.Counts.{Counts}
use Rattle.layout.specs.Scan.{Read}
use Rattle.editions.specs.declared.Editions.{Editions}
use Rattle.editions.specs.Reading.{ReadFile}
use Rattle.trip.specs.declared.Trip.{Trip}
use Rattle.trip.specs.Trips.{is_trip, party_right, trip_of}
use Rattle.trip.specs.Clauses.{GoodTrip}
use Rattle.fare.specs.declared.Breaking.{Breaking}
use Rattle.fare.specs.Parts.{break_of, rides_of}
use Rattle.ledger.specs.declared.Window.{Window}
use Rattle.ledger.specs.Sound.{sound_alone, covers_sound}
use Rattle.ledger.specs.Windows.{too_early, window_of}
use Rattle.statement.specs.Record.{statement_size}
use Rattle.deciding.specs.declared.groups.Fields.{Fields}
use Rattle.deciding.specs.Refusals.{sound_in}
use Rattle.deciding.specs.Deciding.{fields_of}

-- what settling one trip after another asks: the file is faultless, with these editions, and the book is sound under it
pub record Ready (file : List ℕ) (editions : Editions) (book : List ℕ) : Type 0 where
  pub read : ReadFile file editions
  pub sound_book : sound_in editions book ≡ true

-- the trip's own rows are clear, and these are its fields
pub record WellFormed (trip : List ℕ) (fields : Fields) : Type 0 where
  pub whole : is_trip trip ≡ true
  pub party : party_right fields.class fields.level fields.party fields.stops ≡ true
  pub fields_are : fields ≡ fields_of trip

-- all conditions are clear, with so many bytes of room for the records, under the tariff of the window's edition. The book's bicycles are
-- within its areas where its window goes on; where the trip opens one, the old one may have been under another edition
pub record AllClear (tariff : List ℕ) (counts : Counts) (book bytes : List ℕ) (trip : Trip) (window : Window) (breaking : Breaking) (room : ℕ) : Type 0 where
  pub read : Read tariff counts
  pub alone : sound_alone book ≡ true
  pub covers : window.current ≡ true → covers_sound book counts.areas ≡ true
  pub good : GoodTrip bytes counts.stops
  pub trip_is : trip ≡ trip_of bytes
  pub next : ℕ
  pub window_is : window ≡ window_of book trip.checkin.0 trip.checkout.0 next
  pub some_edition : 1 ≤ window.edition
  pub small : window.edition ≤ 255
  pub breaking_is : breaking ≡ break_of tariff counts bytes trip.stops
  pub on_time : too_early book trip.checkin.0 ≡ false
  pub few : window.trips + length (rides_of tariff counts bytes trip) ≤ 256
  pub fits : statement_size (rides_of tariff counts bytes trip) ≤ room
