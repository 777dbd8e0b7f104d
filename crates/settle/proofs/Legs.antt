-- Stating a trip's rides in turn: what is left to state at each turn, what stating a ride asks then, and that in the end all records are written.
-- Assumes nothing.
use Prim.Native.Nat.{ℕ, ◌+◌, ◌-◌, ◌≤◌, ◌<◌}
use native.Mathlib.Nat.{zero-add}
use native.Mathlib.Omega.{arith}
use mathlib.Core.Path.{◌≡◌, refl, sym, ap, ◌∙◌}
use mathlib.Core.List.{List, [], ◌∷◌, append-nil}
use lib.ListN.{length}
use Rattle.units.specs.Day.{day_minutes}
use Rattle.layout.specs.declared.Counts.{Counts}
use Rattle.trip.specs.declared.Trip.{Trip}
use Rattle.trip.specs.declared.Ride.{Ride}
use Rattle.fare.specs.declared.Breaking.{Breaking}
use Rattle.fare.specs.declared.Breaking.TheVariants.{Unbroken, At}
use Rattle.trip.specs.declared.Earlier.{Earlier}
use Rattle.trip.specs.declared.Earlier.TheVariants.{Nothing, Part}
use Rattle.fare.specs.Rides.{ride_between, duration_of, last_of, ride_of}
use Rattle.fare.specs.Parts.{break_of, first_part, second_part, rides_of}
use Rattle.fare.specs.Clauses.{Riding, InOrder}
use Rattle.fare.proofs.GoodTrips.{riding, in-order}
use Rattle.fare.proofs.Stops.{times}
use Rattle.fare.proofs.Breaks.{broken_between}
use Rattle.fare.proofs.PartLaws.{one_ride, two_rides}
use Rattle.statement.specs.Record.{record_size, record_of, statement_of, statement_size}
use Rattle.statement.specs.Clauses.{Wrote}
use Rattle.statement.proofs.Charges.{length_record}
use Rattle.statement.proofs.Wrote.{behind_wrote, length_wrote, record_stands}
use Rattle.ledger.specs.declared.Window.{Window}
use Rattle.charging.specs.After.{posted}
use Rattle.charging.specs.Clauses.{part_after, Stateable}
use Rattle.charging.proofs.EarlierLaws.{charged_behind, cut_behind}
use Rattle.posting.proofs.NextPart.{next_ridden}
use Rattle.deciding.specs.Clauses.{AllClear}
use Rattle.settle.specs.Outcome.{part_of, one_more, parts_of, trip_parts}
use Rattle.settle.specs.Clauses.{first_end}
use Rattle.settle.proofs.Clear.{RidesFit, first_of, others_of, part_complete, rides_fit}

module _ (tariff : List ℕ) (counts : Counts) (book bytes : List ℕ) (trip : Trip) where
  abbrev between : ℕ → ℕ → ℕ → Ride
  between from to minutes = ride_between tariff counts bytes trip from to minutes

  -- the first of two parts
  abbrev first : ℕ → Ride
  first c = between 0 c (duration_of trip)

  -- where the trip is broken
  abbrev broken : Breaking
  broken = break_of tariff counts bytes trip.stops

  module _ (window : Window) (statement : List ℕ) where
    -- what is left to state: the whole trip, both parts, the second, or nothing more
    pub data Leg (from to minutes : ℕ) (earlier : Earlier) (next : ℕ) (s : List ℕ) : Type 0 where
      whole : broken ≡ Unbroken → from ≡ 0 → to ≡ last_of trip → minutes ≡ duration_of trip → earlier ≡ Nothing → next ≡ 0 → s ≡ statement
          → Leg from to minutes earlier next s
      both : (c : ℕ) → broken ≡ At c → from ≡ 0 → to ≡ c → minutes ≡ duration_of trip → earlier ≡ Nothing → next ≡ 0 → s ≡ statement
          → Leg from to minutes earlier next s
      second : (c : ℕ) → broken ≡ At c → from ≡ c → to ≡ last_of trip → minutes ≡ 0 → earlier ≡ Part (first c)
          → Wrote (record_of (part_after tariff counts book window Nothing (first c))) statement 0 s next → Leg from to minutes earlier next s
      done : from ≡ last_of trip → Wrote (statement_of (trip_parts tariff counts book bytes trip window)) statement 0 s next
          → Leg from to minutes earlier next s

-- the tariff has the stops, and the trip goes from its first to its last in at most a day
module _ {tariff : List ℕ} {counts : Counts} {book bytes : List ℕ} {trip : Trip} {window : Window} {breaking : Breaking} {room : ℕ}
    (clear : AllClear tariff counts book bytes trip window breaking room) where
  pub there : Riding tariff counts bytes trip.stops
  there = rw clear.trip_is (riding clear.read clear.good)

  pub order : InOrder trip
  order = rw clear.trip_is (in-order clear.good)

module _ (tariff : List ℕ) (counts : Counts) (book bytes : List ℕ) (trip : Trip) (window : Window) {breaking : Breaking} (statement : List ℕ)
    (clear : AllClear tariff counts book bytes trip window breaking (length statement)) where
  abbrev last : ℕ
  last = last_of trip

  abbrev ride-between : ℕ → ℕ → ℕ → Ride
  ride-between = between tariff counts book bytes trip

  abbrev first-part : ℕ → Ride
  first-part = first tariff counts book bytes trip

  abbrev broken_at : Breaking
  broken_at = broken tariff counts book bytes trip

  abbrev FirstWrote : ℕ → List ℕ → ℕ → Type 0
  FirstWrote c s next = Wrote (record_of (part_after tariff counts book window Nothing (first-part c))) statement 0 s next

  abbrev LegOn : ℕ → ℕ → ℕ → Earlier → ℕ → List ℕ → Type 0
  LegOn = Leg tariff counts book bytes trip window statement

  -- ---- The trip.

  inside : (c : ℕ) → broken_at ≡ At c → (1 ≤ c) × (c + 1 < trip.stops)
  inside c is = broken_between (there clear) c is

  whole-trip : broken_at ≡ Unbroken → ride-between 0 last (duration_of trip) ∷ [] ≡ rides_of tariff counts bytes trip
  unfolding ride_of
  whole-trip unbroken = sym (one_ride tariff counts bytes trip unbroken)

  two_parts : (c : ℕ) → broken_at ≡ At c → first-part c ∷ ride-between c last 0 ∷ [] ≡ rides_of tariff counts bytes trip
  unfolding first_part second_part
  two_parts c is = sym (two_rides tariff counts bytes trip c is)

  fit : {rides : List Ride} → rides ≡ rides_of tariff counts bytes trip → RidesFit tariff counts book window trip.checkout.0 rides (length statement)
  fit is = rides_fit tariff counts book bytes trip window (length statement) clear is

  -- the bytes of a ride's record
  size_of : (ride : Ride) → length (record_of (part_after tariff counts book window Nothing ride)) ≡ record_size ride.party
  unfolding part_of
  size_of ride = length_record (part_of tariff counts book window ride) (part_complete tariff counts book window ride)

  -- The first of some rides can be stated at the start of the statement.
  leading_stateable :
      {ride : Ride} {rest : List Ride} → RidesFit tariff counts book window trip.checkout.0 (ride ∷ rest) (length statement)
      → Stateable tariff counts book window ride Nothing statement 0
  unfolding statement_size
  leading_stateable ok =
      record { ridden = record { rideable = first_of ok.rideable; before = tt }; room = omega (arith, ok.fits); stands = tt }

  -- The second part can be stated behind the first one's record.
  second_stateable :
      (c : ℕ) {next : ℕ} {s : List ℕ}
      → RidesFit tariff counts book window trip.checkout.0 (first-part c ∷ ride-between c last 0 ∷ []) (length statement) → FirstWrote c s next
      → Stateable tariff counts book window (ride-between c last 0) (Part (first-part c)) s next
  unfolding statement_size ride_between
  second_stateable c {next} {s} ok wrote =
      let long = length_wrote wrote in
      let at : next ≡ record_size trip.party = wrote.next ∙ zero-add _ ∙ size_of (first-part c) in
      let start : next - record_size trip.party ≡ 0 = omega (arith, at) in
      record {
        ridden = next_ridden (first_of ok.rideable) ok.right (first_of (others_of ok.rideable)) refl refl;
        room = omega (arith, at, long, ok.fits);
        stands = (omega (arith, at), rw start (record_stands wrote (omega (arith, at, ok.fits))));
      }

  -- The second part beside the book is the second part on the book that has the first.
  part_behind :
      {one other : Ride} → RidesFit tariff counts book window trip.checkout.0 (one ∷ other ∷ []) (length statement)
      → part_after tariff counts book window (Part one) other
      ≡ part_of tariff counts (posted tariff counts book window trip.checkout.0 one) (one_more window) other
  unfolding part_of one_more
  part_behind ok =
      let next = first_of (others_of ok.rideable) in
      rw (charged_behind (first_of ok.rideable) next window trip.checkout.0, cut_behind (first_of ok.rideable) next window trip.checkout.0)

  -- The records of one ride, or of two, are the trip's.
  one_wrote :
      (ride : Ride) {s : List ℕ} {r : ℕ} → ride ∷ [] ≡ rides_of tariff counts bytes trip
      → Wrote (record_of (part_after tariff counts book window Nothing ride)) statement 0 s r
      → Wrote (statement_of (trip_parts tariff counts book bytes trip window)) statement 0 s r
  unfolding parts_of part_of statement_of
  one_wrote ride is wrote = rw (← is, append-nil (record_of (part_of tariff counts book window ride))) wrote

  two_wrote :
      (one other : Ride) {s first_there : List ℕ} {next r : ℕ}
      → RidesFit tariff counts book window trip.checkout.0 (one ∷ other ∷ []) (length statement) → one ∷ other ∷ [] ≡ rides_of tariff counts bytes trip
      → Wrote (record_of (part_after tariff counts book window Nothing one)) statement 0 first_there next
      → Wrote (record_of (part_after tariff counts book window (Part one) other)) first_there next s r
      → Wrote (statement_of (trip_parts tariff counts book bytes trip window)) statement 0 s r
  unfolding parts_of part_of statement_of
  two_wrote one other ok is first-wrote wrote =
      rw (
        ← is,
        append-nil (record_of (part_of tariff counts (posted tariff counts book window trip.checkout.0 one) (one_more window) other)),
        ← part_behind ok,
      )
      (behind_wrote first-wrote wrote)

  -- ---- Before the first turn.

  pub legs_begin : {to minutes : ℕ} → to ≡ first_end breaking last → minutes ≡ duration_of trip → LegOn 0 to minutes Nothing 0 statement
  legs_begin {to} {minutes} to_is minutes-are = go broken_at refl (to_is ∙ ap (λ (b : Breaking). first_end b last) clear.breaking_is)
    where
      go : (b : Breaking) → broken_at ≡ b → to ≡ first_end b last → LegOn 0 to minutes Nothing 0 statement
      go (Unbroken) e is = whole e refl is minutes-are refl refl refl
      go (At c) e is = both c e refl is minutes-are refl refl refl

  -- ---- A turn.

  module _ {from to minutes : ℕ} {earlier : Earlier} {next : ℕ} {s : List ℕ} (on : from < last) where
    pub leg_goes :
        LegOn from to minutes earlier next s → (from < to) × ((to ≤ last) × (minutes ≤ day_minutes))
    leg_goes (whole unbroken from_is to_is minutes-are none next_is s-is) = (omega arith, (omega arith, omega (arith, (times trip (order clear)).1)))
    leg_goes (both c broken from_is to_is minutes-are none next_is s-is) =
        (omega (arith, (inside c broken).0), (omega (arith, (inside c broken).1), omega (arith, (times trip (order clear)).1)))
    leg_goes (second c broken from_is to_is minutes-are part wrote) = (omega arith, (omega arith, omega arith))
    leg_goes (done from_is wrote) = absurd (omega arith)

    module _ {ride : Ride} (is : ride ≡ ride-between from to minutes) where
      pub leg_stateable : LegOn from to minutes earlier next s → Stateable tariff counts book window ride earlier s next
      leg_stateable (whole unbroken from_is to_is minutes-are none next_is s-is) =
          rw (is, from_is, to_is, minutes-are, none, next_is, s-is) (leading_stateable (fit (whole-trip unbroken)))
      leg_stateable (both c broken from_is to_is minutes-are none next_is s-is) =
          rw (is, from_is, to_is, minutes-are, none, next_is, s-is) (leading_stateable (fit (two_parts c broken)))
      leg_stateable (second c broken from_is to_is minutes-are part wrote) =
          rw (is, from_is, to_is, minutes-are, part) (second_stateable c (fit (two_parts c broken)) wrote)
      leg_stateable (done from_is wrote) = absurd (omega arith)

      pub leg_next :
          {s' : List ℕ} {r : ℕ} → LegOn from to minutes earlier next s → Wrote (record_of (part_after tariff counts book window earlier ride)) s next s' r
          → LegOn to last 0 (Part ride) r s'
      leg_next (whole unbroken from_is to_is minutes-are none next_is s-is) wrote =
          done to_is (one_wrote _ (whole-trip unbroken) (rw (is, from_is, to_is, minutes-are, none, next_is, s-is) at wrote))
      leg_next (both c broken from_is to_is minutes-are none next_is s-is) wrote =
          second c broken to_is refl refl (ap Part (is ∙ rw (from_is, to_is, minutes-are)))
          (rw (is, from_is, to_is, minutes-are, none, next_is, s-is) at wrote)
      leg_next (second c broken from_is to_is minutes-are part first-wrote) wrote =
          done to_is (two_wrote _ _ (fit (two_parts c broken)) (two_parts c broken) first-wrote (rw (is, from_is, to_is, minutes-are, part) at wrote))
      leg_next (done from_is all-wrote) wrote = absurd (omega arith)

  -- ---- Behind the last turn.

  pub legs_end :
      {from to minutes : ℕ} {earlier : Earlier} {next : ℕ} {s : List ℕ} → last ≤ from → LegOn from to minutes earlier next s
      → Wrote (statement_of (trip_parts tariff counts book bytes trip window)) statement 0 s next
  legs_end past (whole unbroken from_is to_is minutes-are none next_is s-is) = absurd (omega (arith, (order clear).two))
  legs_end past (both c broken from_is to_is minutes-are none next_is s-is) = absurd (omega (arith, (order clear).two))
  legs_end past (second c broken from_is to_is minutes-are part wrote) = absurd (omega (arith, (inside c broken).1))
  legs_end past (done from_is wrote) = wrote
