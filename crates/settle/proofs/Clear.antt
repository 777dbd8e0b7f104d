-- Where all conditions are clear: a trip's rides fit book, window and statement, their records can be read, and posting them is possible.
-- Assumes nothing.
use Prim.Native.Nat.{ℕ, ◌+◌, ◌≤◌}
use native.Mathlib.Omega.{arith}
use mathlib.Core.Path.{◌≡◌, refl, sym, ◌∙◌}
use mathlib.Core.Bool.{true}
use mathlib.Core.List.{List, [], ◌∷◌}
use lib.ListN.{length, length-append}
use Rattle.units.specs.declared.Minutes.{Minutes}
use Rattle.layout.specs.declared.Counts.{Counts}
use Rattle.trip.specs.declared.Trip.{Trip}
use Rattle.trip.proofs.Clear.{GoodFields, good_fields}
use Rattle.trip.specs.declared.Ride.{Ride}
use Rattle.fare.specs.declared.Breaking.{Breaking}
use Rattle.trip.specs.declared.Earlier.TheVariants.{Nothing}
use Rattle.fare.specs.Parts.{rides_of}
use Rattle.fare.specs.Clauses.{EachRide, none, more, OfTrip}
use Rattle.fare.proofs.PartLaws.{few_rides, rides_of_trip}
use Rattle.statement.specs.Record.{largest_statement, record_size, record_of, statement_of, statement_size, Complete, Recordable}
use Rattle.statement.specs.Clauses.{Recordables, StandsAt, StandFrom}
use Rattle.statement.specs.Clauses as statements
use Rattle.statement.proofs.Charges.{length_record}
use Rattle.ledger.specs.declared.Window.{Window}
use Rattle.ledger.specs.Words.{edition_of}
use Rattle.ledger.specs.Sound.{sound}
use Rattle.ledger.specs.Clauses.{WindowRight}
use Rattle.ledger.proofs.SoundLaws.{alone_has}
use Rattle.ledger.proofs.WindowLaws.{window_right, window_room}
use Rattle.charging.proofs.PostedLaws.{posted_edition}
use Rattle.charging.specs.After.{posted}
use Rattle.charging.specs.Clauses.{Rideable}
use Rattle.charging.proofs.Stating as charging
use Rattle.charging.proofs.GoodRides.{good_rides}
use Rattle.posting.specs.Clauses.{Postable}
use Rattle.posting.proofs.SoundAgain.{posted_sound}
use Rattle.posting.proofs.NextPart.{next_rideable, next_right}
use Rattle.deciding.specs.Clauses.{AllClear}
use Rattle.deciding.proofs.Rides.{rides_most}
use Rattle.settle.specs.Outcome.{part_of, one_more, parts_of, posted_all, trip_parts, trip_posted}
use Rattle.settle.specs.Clauses.{RidesPostable, over, then}

-- ---- Rides charged one after another.

-- a book and a window that have room for all of them, and room for their records
pub record RidesFit (tariff : List ℕ) (counts : Counts) (book : List ℕ) (window : Window) (checkout : ℕ) (rides : List Ride) (room : ℕ) : Type 0 where
  pub rideable : EachRide (Rideable tariff counts book window.current) rides
  pub right : WindowRight book window checkout
  pub few : window.trips + length rides ≤ 256
  pub fits : statement_size rides ≤ room

pub first_of : {P : Ride → Type 0} {ride : Ride} {rest : List Ride} → EachRide P (ride ∷ rest) → P ride
first_of (more is others) = is

pub others_of : {P : Ride → Type 0} {ride : Ride} {rest : List Ride} → EachRide P (ride ∷ rest) → EachRide P rest
others_of (more is others) = others

-- A ride's part has a charge for each of the party, and a cut for each person.
pub part_complete :
    (tariff : List ℕ) (counts : Counts) (book : List ℕ) (window : Window) (ride : Ride) → Complete (part_of tariff counts book window ride)
unfolding part_of
part_complete tariff counts book window ride = charging.part_complete tariff counts book window Nothing ride

-- The fields of a ride's record hold what it says.
pub can_record :
    {tariff : List ℕ} {counts : Counts} {book : List ℕ} {window : Window} {checkout : ℕ} {ride : Ride} → Rideable tariff counts book window.current ride
    → WindowRight book window checkout → Recordable (part_of tariff counts book window ride)
unfolding part_of
can_record {window = window} ok right = charging.can_record window ok (omega (arith, right.head.order, right.head.last))

module _ (tariff : List ℕ) (counts : Counts) (checkout : ℕ) where
  -- the rides are so on the book that one of them left, too
  carried :
      {book : List ℕ} {window : Window} {ride : Ride} → Rideable tariff counts book window.current ride → WindowRight book window checkout → (rest : List Ride)
      → EachRide (Rideable tariff counts book window.current) rest → EachRide (Rideable tariff counts (posted tariff counts book window checkout ride) true) rest
  carried ok right [] none = none
  carried ok right (next ∷ rest) (more ok' others) = more (next_rideable ok right ok') (carried ok right rest others)

  -- Each can be recorded, and the book that they leave is sound.
  pub all_right :
      (book : List ℕ) (window : Window) (ride : Ride) (rest : List Ride) → EachRide (Rideable tariff counts book window.current) (ride ∷ rest)
      → WindowRight book window checkout → window.trips + length (ride ∷ rest) ≤ 256
      → Recordables (parts_of tariff counts book window checkout (ride ∷ rest))
      × (sound (posted_all tariff counts book window checkout (ride ∷ rest)) counts.areas ≡ true)
  unfolding parts_of posted_all one_more
  all_right book window ride [] (more ok none) right few = (statements.more (can_record ok right) statements.none, posted_sound ok right)
  all_right book window ride (next ∷ rest) (more ok (more ok' others)) right few =
      let (parts, left) =
      all_right (posted tariff counts book window checkout ride) (one_more window) next rest
      (more (next_rideable ok right ok') (carried ok right rest others)) (next_right ok right (omega arith)) (omega arith)
      in
      (statements.more (can_record ok right) parts, left)

  -- The book names the window's edition.
  pub all_edition :
      (book : List ℕ) (window : Window) (ride : Ride) (rest : List Ride) → EachRide (Rideable tariff counts book window.current) (ride ∷ rest)
      → WindowRight book window checkout → window.trips + length (ride ∷ rest) ≤ 256
      → edition_of (posted_all tariff counts book window checkout (ride ∷ rest)) ≡ window.edition
  unfolding posted_all one_more
  all_edition book window ride [] (more ok none) right few = posted_edition window ok checkout (window_room right) (omega (arith, right.small))
  all_edition book window ride (next ∷ rest) (more ok (more ok' others)) right few =
      all_edition (posted tariff counts book window checkout ride) (one_more window) next rest
      (more (next_rideable ok right ok') (carried ok right rest others)) (next_right ok right (omega arith)) (omega arith)

  -- Their records take what the rides say.
  pub parts_size :
      (book : List ℕ) (window : Window) (rides : List Ride)
      → length (statement_of (parts_of tariff counts book window checkout rides)) ≡ statement_size rides
  unfolding parts_of statement_of statement_size part_of
  parts_size book window [] = refl
  parts_size book window (ride ∷ rest) =
      length-append (record_of (part_of tariff counts book window ride)) _
      ∙ omega (
        arith,
        length_record (part_of tariff counts book window ride) (part_complete tariff counts book window ride),
        parts_size (posted tariff counts book window checkout ride) (one_more window) rest,
      )

module _ (tariff : List ℕ) (counts : Counts) (checkout : Minutes) where
  -- Where the record of the first stands, it can be posted.
  ride_postable :
      {class : ℕ} {statement : List ℕ} {book : List ℕ} {window : Window} {place : ℕ} {ride : Ride} → Rideable tariff counts book window.current ride
      → ride.class ≡ class → WindowRight book window checkout.0 → StandsAt (part_of tariff counts book window ride) statement place
      → Postable tariff counts book window class (part_of tariff counts book window ride) statement place
  unfolding part_of
  ride_postable ok same right stands =
      record {
        rideable = ok;
        class_is = same;
        trips = right.trips;
        few = omega (arith, right.head.few);
        charged = refl;
        recordable = can_record ok right;
        stands = stands;
      }

  -- Where their records stand one behind the other, they can be posted one after another.
  pub rides_postable :
      (class : ℕ) (statement : List ℕ) {end : ℕ} (book : List ℕ) (window : Window) (place : ℕ) (ride : Ride) (rest : List Ride)
      → EachRide (Rideable tariff counts book window.current) (ride ∷ rest) → EachRide (λ r. r.class ≡ class) (ride ∷ rest)
      → WindowRight book window checkout.0 → window.trips + length (ride ∷ rest) ≤ 256
      → StandFrom statement (parts_of tariff counts book window checkout.0 (ride ∷ rest)) place → place + statement_size (ride ∷ rest) ≡ end
      → RidesPostable tariff counts checkout class statement end book window place (ride ∷ rest)
  unfolding parts_of part_of one_more statement_size
  rides_postable class statement {end} book window place ride [] (more ok none) (more same none) right few (statements.then stands end-there) ends =
      let at_end : place + record_size ride.party ≡ end = omega (arith, ends) in
      then (ride_postable ok same right stands) (over at_end)
  rides_postable class statement book window place ride (next ∷ rest) (more ok (more ok' others)) (more same sames) right few (statements.then stands behind) ends =
      then (ride_postable ok same right stands)
      (rides_postable class statement (posted tariff counts book window checkout.0 ride) (one_more window) (place + record_size ride.party) next rest
      (more (next_rideable ok right ok') (carried tariff counts checkout.0 ok right rest others)) sames (next_right ok right (omega arith)) (omega arith)
      (rw (length_record (part_of tariff counts book window ride) (part_complete tariff counts book window ride)) at behind) (omega (arith, ends)))

-- ---- A trip.

module _ (tariff : List ℕ) (counts : Counts) (book bytes : List ℕ) (trip : Trip) (window : Window) (room : ℕ) where
  module _ {breaking : Breaking} (clear : AllClear tariff counts book bytes trip window breaking room) where
    fields : GoodFields bytes
    fields = good_fields clear.good

    pub rides_fit : {rides : List Ride} → rides ≡ rides_of tariff counts bytes trip → RidesFit tariff counts book window trip.checkout.0 rides room
    rides_fit is =
        rw is
        (record {
          rideable =
              rw clear.trip_is
              (good_rides tariff counts book window.current bytes clear.read clear.alone clear.covers clear.good);
          right =
              window_right (alone_has book clear.alone) clear.next (rw clear.trip_is fields.forward)
              (rw clear.trip_is fields.short) (rw clear.trip_is fields.range) clear.on_time window clear.window_is
              (omega (arith, clear.few, (few_rides tariff counts bytes trip).0)) clear.some_edition clear.small;
          few = clear.few;
          fits = clear.fits;
        })

    -- The records of its parts can be read, and the book with them is sound.
    pub parts_right :
        Recordables (trip_parts tariff counts book bytes trip window)
        × (sound (trip_posted tariff counts book bytes trip window) counts.areas ≡ true)
    parts_right = go (rides_of tariff counts bytes trip) (rides_fit refl) (few_rides tariff counts bytes trip).0
      where
        go :
            (rides : List Ride) → RidesFit tariff counts book window trip.checkout.0 rides room → 1 ≤ length rides
            → Recordables (parts_of tariff counts book window trip.checkout.0 rides)
            × (sound (posted_all tariff counts book window trip.checkout.0 rides) counts.areas ≡ true)
        go [] ok some = absurd (omega arith)
        go (ride ∷ rest) ok some = all_right tariff counts trip.checkout.0 book window ride rest ok.rideable ok.right ok.few

    pub edition_posted : edition_of (trip_posted tariff counts book bytes trip window) ≡ window.edition
    edition_posted = go (rides_of tariff counts bytes trip) (rides_fit refl) (few_rides tariff counts bytes trip).0
      where
        go :
            (rides : List Ride) → RidesFit tariff counts book window trip.checkout.0 rides room → 1 ≤ length rides
            → edition_of (posted_all tariff counts book window trip.checkout.0 rides) ≡ window.edition
        go [] ok some = absurd (omega arith)
        go (ride ∷ rest) ok some = all_edition tariff counts trip.checkout.0 book window ride rest ok.rideable ok.right ok.few

    -- They take at most the bytes of the largest statement, and there is room for them.
    pub size_most :
        (length (statement_of (trip_parts tariff counts book bytes trip window)) ≤ largest_statement)
        × (length (statement_of (trip_parts tariff counts book bytes trip window)) ≤ room)
    size_most =
        let size = parts_size tariff counts trip.checkout.0 book window (rides_of tariff counts bytes trip) in
        let ranges = fields.ranges in
        let most =
        rides_most tariff counts bytes trip (rw clear.trip_is ranges.adults) (rw clear.trip_is ranges.children)
        (rw clear.trip_is ranges.bicycles)
        in
        let fits = clear.fits in
        (omega arith, omega arith)

    -- Their records standing from the start of a statement on, they can be posted.
    pub trip_postable :
        {statement : List ℕ} {class : ℕ} → class ≡ trip.class → StandFrom statement (trip_parts tariff counts book bytes trip window) 0
        → RidesPostable tariff counts trip.checkout class statement (length (statement_of (trip_parts tariff counts book bytes trip window))) book
        window 0 (rides_of tariff counts bytes trip)
    trip_postable {statement} {class} class_is stands =
        go (rides_of tariff counts bytes trip) (rides_fit refl) (few_rides tariff counts bytes trip).0 (same_class _ (rides_of_trip tariff counts bytes trip)) stands
        (sym (parts_size tariff counts trip.checkout.0 book window (rides_of tariff counts bytes trip)))
      where
        same_class : (rides : List Ride) → EachRide (OfTrip trip) rides → EachRide (λ r. r.class ≡ class) rides
        same_class [] none = none
        same_class (ride ∷ rest) (more of others) = more (of.class ∙ sym class_is) (same_class rest others)

        go :
            {end : ℕ} (rides : List Ride) → RidesFit tariff counts book window trip.checkout.0 rides room → 1 ≤ length rides
            → EachRide (λ r. r.class ≡ class) rides → StandFrom statement (parts_of tariff counts book window trip.checkout.0 rides) 0
            → statement_size rides ≡ end → RidesPostable tariff counts trip.checkout class statement end book window 0 rides
        go [] ok some same stands' ends = absurd (omega arith)
        go (ride ∷ rest) ok some same stands' ends =
            rides_postable tariff counts trip.checkout class statement book window 0 ride rest ok.rideable same ok.right ok.few stands'
            (omega (arith, ends))
