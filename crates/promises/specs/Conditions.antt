-- docs/RULES.md, section 13: the conditions, in the rules' words and order; and what a refusal and an acceptance say.
use Rattle.std.specs.Prelude.{ℕ, ◌+◌, ◌-◌, ◌<◌, ◌≡◌, ◌⊎◌, List, map, true, false, length}
use Rattle.caps.specs.declared.Name.{Name}
use Rattle.caps.specs.Named.{cap_named, sum_named, FullOrPassed}
use Rattle.layout.specs.declared.Counts.{Counts}
use Rattle.editions.specs.declared.Editions.{Editions}
use Rattle.editions.specs.declared.FileReading.TheVariants.{Fault}
use Rattle.editions.specs.Reading.{ReadFile}
use Rattle.editions.specs.Editions.{since_of}
use Rattle.editions.specs.InWords.{FileSays}
use Rattle.trip.specs.Record.{count_at, class_at, level_at, party_at}
use Rattle.trip.specs.Moments.{checkin_of, checkout_of}
use Rattle.trip.specs.Trips.{trip_of}
use Rattle.trip.specs.Conditions.{NoTrip, WrongParty, LackingStop, WrongStamp, WrongOrder, Mistap}
use Rattle.trip.specs.declared.Ride.{Ride}
use Rattle.fare.specs.Distance.{apart, LeastKm}
use Rattle.fare.specs.Rides.{stop_of, AreaOfStops, ride_between}
use Rattle.fare.specs.Parts.{BrokenAt, rides_of}
use Rattle.fare.specs.Towns.{FirstClassInTown}
use Rattle.ledger.specs.declared.Window.{Window}
use Rattle.caps.specs.declared.Cut.{Cut}
use Rattle.ledger.specs.Words.{trips_of, last_out_of, second_sum, all_sum, cover_word, paid_word}
use Rattle.ledger.specs.Windows.{belongs, in_window}
use Rattle.charging.specs.Caps.{tree_of}
use Rattle.charging.specs.Charging.{is_child, carries, place_of, rider_charge}
use Rattle.cycles.specs.Bicycles.{bicycle_charge}
use Rattle.charging.specs.Cuts.{rider_cut}
use Rattle.charging.specs.After.{posted}
use Rattle.charging.specs.InWords.{ChargeSays, CutSays}
use Rattle.cycles.specs.InWords.{BicycleSays}
use Rattle.statement.specs.Record.{Part, record_size, charge_kind, statement_size}
use Rattle.statement.specs.Reading.{
  long_in,
  kind_in,
  opening_in,
  area_in,
  km_in,
  minutes_in,
  adults_in,
  children_in,
  bicycles_in,
  charge_in,
  reduction_in,
  cap_area_in,
  cap_class_in,
}
use Rattle.settle.specs.Outcome.{parts_of, posted_all}
use Rattle.settle.specs.Posting.{present_quote}
use Rattle.deciding.specs.declared.refusals.Refusal.{Refusal}
use Rattle.deciding.specs.declared.refusals.Refusal.TheVariants as why
use Rattle.deciding.specs.Refusals.{refusal, sound_in, window_in, tariff_for, counts_for, rides_for, rows, First}

-- ---- What the conditions speak of.

-- the rides that a trip's bytes are under a tariff, one or two
abbrev pub trip_rides : List ℕ → Counts → List ℕ → List Ride
trip_rides tariff counts bytes = rides_of tariff counts bytes (trip_of bytes)

-- ---- The conditions. 5 to 9 and 17 are the trip's own: trip/Conditions.

-- 10: check-in before the book's last check-out (word 0 not 0)
pub record TooEarly (book : List ℕ) (checkin : ℕ) : Type 0 where
  pub in_use : trips_of book ≡ 0 → ⊥
  pub early : checkin < last_out_of book

-- 22: the trip opens a window before the first edition's first minute
pub record BeforeFirst (editions : Editions) (book trip : List ℕ) : Type 0 where
  pub opens : belongs book (checkout_of trip) ≡ false
  pub before : checkin_of trip < since_of editions 1

-- 4 to 11, by the table's refusals, and what 12 and 13 are asked with. 4: the book is not sound: by itself, by its edition's number, or by its
-- bicycles under that edition. 5 to 10 are asked of the trip as it is offered; 11 counts each of its
-- rides as a trip. From 7 on the tariff is that of the window's edition
unfoldable pub condition_with : Editions → List ℕ → Counts → List ℕ → List ℕ → Type 0 → Type 0 → Refusal → Type 0
condition_with editions tariff counts book trip no_room other_record why.UnsoundBook = sound_in editions book ≡ false
condition_with editions tariff counts book trip no_room other_record why.NoTrip = NoTrip trip
condition_with editions tariff counts book trip no_room other_record why.WrongParty =
    WrongParty (class_at trip 0) (level_at trip 0) (party_at trip 0) (count_at trip 0)
condition_with editions tariff counts book trip no_room other_record why.WrongStamp = WrongStamp trip
condition_with editions tariff counts book trip no_room other_record why.WrongOrder = WrongOrder (checkin_of trip) (checkout_of trip)
condition_with editions tariff counts book trip no_room other_record why.Mistap = Mistap trip (count_at trip 0) (checkin_of trip) (checkout_of trip)
condition_with editions tariff counts book trip no_room other_record why.TooEarly = TooEarly book (checkin_of trip)
condition_with editions tariff counts book trip no_room other_record why.NoEdition = BeforeFirst editions book trip
condition_with editions tariff counts book trip no_room other_record why.UnknownStop = LackingStop trip (count_at trip 0) counts.stops
condition_with editions tariff counts book trip no_room other_record why.NoFirstClass = FirstClassInTown tariff counts trip (trip_of trip)
condition_with editions tariff counts book trip no_room other_record why.FullWindow =
    256 < (window_in editions book trip).trips + length (trip_rides tariff counts trip)
condition_with editions tariff counts book trip no_room other_record why.NoRoom = no_room
condition_with editions tariff counts book trip no_room other_record why.OtherRecord = other_record

-- settling and a quote: 12 asks for the records of all of the trip's rides, and 13 is never met
abbrev pub condition : List ℕ → Editions → List ℕ → List ℕ → ℕ → Refusal → Type 0
condition file editions book trip room =
    condition_with editions (tariff_for file editions book trip) (counts_for editions book trip) book trip
    (room < statement_size (rides_for file editions book trip)) ⊥

-- a posting: 12 is never met; 13: the record is not exactly the bytes that a quote on the present book would write
abbrev pub posting_condition : List ℕ → Editions → List ℕ → List ℕ → List ℕ → Refusal → Type 0
posting_condition file editions book trip offered =
    condition_with editions (tariff_for file editions book trip) (counts_for editions book trip) book trip ⊥
    (present_quote file editions book trip ≡ offered → ⊥)

-- no condition holds: the file has no first fault, of any number at any place, and no row of the table holds under its editions
pub record NoCondition (file book trip : List ℕ) (room : ℕ) : Type 0 where
  pub no_fault : (number at : ℕ) → FileSays file (Fault number at) → ⊥
  pub none_of_table : (editions : Editions) → ReadFile file editions → (why : Refusal) → condition file editions book trip room why → ⊥

-- ---- What the two answers say.

-- a refusal. 1 to 3: all before its place is faultless, and there is wrong what its number says. 4 to 12: it has no place, the file is
-- faultless, and its condition is the first of the table that holds
pub data RefusedBy (file book trip : List ℕ) (room n place : ℕ) : Type 0 where
  by_file : FileSays file (Fault n place) → RefusedBy file book trip room n place
  by_others : (editions : Editions) → ReadFile file editions → (why : Refusal) → n ≡ refusal why → place ≡ 0
      → First (condition file editions book trip room) why (rows file editions book trip room) → RefusedBy file book trip room n place

-- an acceptance: the file is faultless, and no condition of the table holds; the new book and the parts are those of the trip's rides, by the
-- tariff of its window's edition
pub record AcceptedBy (file book bytes : List ℕ) (room : ℕ) (new : List ℕ) (parts : List Part) : Type 0 where
  pub editions : Editions
  pub read : ReadFile file editions
  pub none : (why : Refusal) → condition file editions book bytes room why → ⊥
  pub new_is :
      new
      ≡ posted_all (tariff_for file editions book bytes) (counts_for editions book bytes) book (window_in editions book bytes) (checkout_of bytes)
      (rides_for file editions book bytes)
  pub parts_is :
      parts
      ≡ parts_of (tariff_for file editions book bytes) (counts_for editions book bytes) book (window_in editions book bytes) (checkout_of bytes)
      (rides_for file editions book bytes)

-- ---- What the records of an accepted trip say.

-- the rides of some parts
abbrev pub rides_in : List Part → List Ride
rides_in parts = map (λ part. part.ride) parts

-- check-out less check-in
abbrev pub minutes_of : List ℕ → ℕ
minutes_of bytes = checkout_of bytes - checkin_of bytes

-- the ride from one stop of the trip to another in so many minutes, with the trip's class, level and party
abbrev pub ride_on : List ℕ → Counts → List ℕ → ℕ → ℕ → ℕ → Ride
ride_on tariff counts bytes from to minutes = ride_between tariff counts bytes (trip_of bytes) from to minutes

-- the words that count for a trip; and, where it is broken at a change, those that count for its second part: the book with the first part
abbrev pub words_before : Window → List ℕ → List ℕ
words_before window book = in_window window.current book

abbrev pub words_between : List ℕ → Counts → Window → List ℕ → List ℕ → ℕ → List ℕ
words_between tariff counts window book bytes c =
    posted tariff counts book window (checkout_of bytes) (ride_on tariff counts bytes 0 c (minutes_of bytes))

-- person i's cut in the record at a place of a statement: the reduction and the named cap's area and class
abbrev pub cut_in : List ℕ → ℕ → ℕ → Cut
cut_in statement place i =
    record {
      reduction = record { 0 = reduction_in statement place i };
      area = cap_area_in statement place i;
      class = cap_class_in statement place i;
    }

-- the cap that a cut names
abbrev pub name_of_cut : Cut → Name
name_of_cut cut = record { area = cut.area; class = cut.class }

-- what a rider's cut is, in words. It makes up the price with the charge, and names one of the ride's caps where it is not 0, by book/InWords:
-- CutSays; and it names one only then. With this charge the named cap is exactly full, or it was passed before. No other cut says so
pub record CutTold (tariff : List ℕ) (counts : Counts) (w : List ℕ) (ride : Ride) (rider charge : ℕ) (cut : Cut) : Type 0 where
  pub says : CutSays tariff counts w ride rider charge cut
  pub only_then : (cut.area ≡ 255) ⊎ (cut.class ≡ 0) → cut.reduction.0 ≡ 0
  pub full_or_passed :
      0 < cut.reduction.0
      → FullOrPassed (cap_named (tree_of tariff counts (is_child rider)) (name_of_cut cut)) (sum_named (second_sum w rider) (all_sum w rider) (name_of_cut cut)) charge
  pub alone : (other : Cut) → CutSays tariff counts w ride rider charge other → other ≡ cut

-- what a record says, read off a statement at its place: the window's opening minute, the smallest area containing all stops of the trip
-- from one to another, the least kilometres between these two, some minutes, the party's numbers; then the charges, in the order holder,
-- adults, children, bicycles, and each person's cut: by their definitions, and then in words, each rider's charge the smallest of the price
-- and what each of the ride's caps has left, each rider's cut what that took off the price, and each bicycle's charge what its new
-- covering area says by its kind. w stands for the words that count: the book's own in the open window, a fresh book's in the next
pub record RecordSays (tariff bytes w : List ℕ) (counts : Counts) (opens from to minutes : ℕ) (statement : List ℕ) (place : ℕ) : Type 0 where
  pub long : long_in statement place + 2 ≡ record_size (party_at bytes 0)
  pub kind : kind_in statement place ≡ charge_kind
  pub opening : opening_in statement place ≡ opens
  pub area : AreaOfStops tariff counts bytes from to (area_in statement place)
  pub km : LeastKm (apart (stop_of tariff counts bytes from) (stop_of tariff counts bytes to)) (km_in statement place)
  pub in-minutes : minutes_in statement place ≡ minutes
  pub many_adults : adults_in statement place ≡ (party_at bytes 0).adults
  pub many_children : children_in statement place ≡ (party_at bytes 0).children
  pub many_bicycles : bicycles_in statement place ≡ (party_at bytes 0).bicycles
  pub holder : charge_in statement place 0 ≡ rider_charge tariff counts w (ride_on tariff counts bytes from to minutes) false 0
  pub adults :
      (i : ℕ) → i < (party_at bytes 0).adults
      → charge_in statement place (1 + i) ≡ rider_charge tariff counts w (ride_on tariff counts bytes from to minutes) false (1 + i)
  pub children :
      (i : ℕ) → i < (party_at bytes 0).children
      → charge_in statement place (1 + (party_at bytes 0).adults + i)
      ≡ rider_charge tariff counts w (ride_on tariff counts bytes from to minutes) true (11 + i)
  pub bicycles :
      (i : ℕ) → i < (party_at bytes 0).bicycles
      → charge_in statement place (1 + (party_at bytes 0).adults + (party_at bytes 0).children + i)
      ≡ bicycle_charge tariff counts (area_in statement place) (cover_word w i) (paid_word w i)
  pub holder_cut : cut_in statement place 0 ≡ rider_cut tariff counts w (ride_on tariff counts bytes from to minutes) false 0
  pub adult_cuts :
      (i : ℕ) → i < (party_at bytes 0).adults
      → cut_in statement place (1 + i) ≡ rider_cut tariff counts w (ride_on tariff counts bytes from to minutes) false (1 + i)
  pub child_cuts :
      (i : ℕ) → i < (party_at bytes 0).children
      → cut_in statement place (1 + (party_at bytes 0).adults + i)
      ≡ rider_cut tariff counts w (ride_on tariff counts bytes from to minutes) true (11 + i)
  pub riders_pay :
      (rider : ℕ) → carries (party_at bytes 0) rider ≡ true
      → ChargeSays tariff counts w (ride_on tariff counts bytes from to minutes) rider (charge_in statement place (place_of (party_at bytes 0) rider))
  pub riders_cut :
      (rider : ℕ) → carries (party_at bytes 0) rider ≡ true
      → CutTold tariff counts w (ride_on tariff counts bytes from to minutes) rider (charge_in statement place (place_of (party_at bytes 0) rider))
      (cut_in statement place (place_of (party_at bytes 0) rider))
  pub bicycles_pay :
      (i : ℕ) → i < (party_at bytes 0).bicycles
      → BicycleSays tariff counts (area_in statement place) (cover_word w i) (paid_word w i)
      (charge_in statement place (1 + (party_at bytes 0).adults + (party_at bytes 0).children + i))

-- what the statement of an accepted trip says. A trip that is nowhere broken has one record, from its first stop to its last, with its
-- duration, check-out less check-in. One that is broken at a change has two, the second behind the first: from the first stop to the change,
-- with the whole duration; and from the change to the last stop, with 0 minutes, charged on the book that the first part left
pub data StatementSays (tariff : List ℕ) (counts : Counts) (window : Window) (book bytes statement : List ℕ) : Type 0 where
  as_one :
      ((c : ℕ) → BrokenAt tariff counts bytes (count_at bytes 0) c → ⊥) → length statement ≡ record_size (party_at bytes 0)
      → RecordSays tariff bytes (words_before window book) counts window.opening.0 0 (count_at bytes 0 - 1) (minutes_of bytes)
      statement 0
      → StatementSays tariff counts window book bytes statement
  as_two :
      (c : ℕ) → BrokenAt tariff counts bytes (count_at bytes 0) c → length statement ≡ record_size (party_at bytes 0) + record_size (party_at bytes 0)
      → RecordSays tariff bytes (words_before window book) counts window.opening.0 0 c (minutes_of bytes) statement 0
      → RecordSays tariff bytes (words_between tariff counts window book bytes c) counts window.opening.0 c (count_at bytes 0 - 1) 0
      statement (record_size (party_at bytes 0))
      → StatementSays tariff counts window book bytes statement
