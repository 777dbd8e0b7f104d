-- What an accepted trip comes to: one part, or the two that it is broken into; and the records of these parts can be read where they were
-- written, one behind the other.
-- Assumes nothing.
use Prim.Native.Nat.{ℕ}
use native.Mathlib.Omega.{arith}
use mathlib.Core.Path.{◌≡◌, refl, sym, subst, ◌∙◌}
use mathlib.Core.List.{List, [], ◌∷◌}
use lib.ListN.{length, drop}
use Rattle.layout.specs.declared.Counts.{Counts}
use Rattle.editions.specs.declared.Editions.{Editions}
use Rattle.editions.specs.declared.FileReading.{FileReading}
use Rattle.editions.specs.declared.FileReading.TheVariants.{Fault, Faultless}
use Rattle.editions.specs.Reading.{read_file}
use Rattle.editions.specs.Editions.{tariff_in, counts_in}
use Rattle.trip.specs.declared.Trip.{Trip}
use Rattle.trip.specs.declared.Ride.{Ride}
use Rattle.fare.specs.declared.Breaking.{Breaking}
use Rattle.fare.specs.declared.Breaking.TheVariants.{Unbroken, At}
use Rattle.fare.specs.Rides.{ride_of}
use Rattle.fare.specs.Parts.{break_of, first_part, second_part, rides_of}
use Rattle.fare.proofs.PartLaws.{one_ride, two_rides}
use Rattle.ledger.specs.declared.Window.{Window}
use Rattle.charging.specs.After.{posted}
use Rattle.statement.specs.Record.{Part, statement_of}
use Rattle.statement.specs.Clauses.{StandFrom, Recordables}
use Rattle.statement.proofs.Records.{stand_from}
use Rattle.settle.specs.declared.Answer.TheVariants as answer
use Rattle.deciding.specs.declared.decide.Decision.{Decision}
use Rattle.deciding.specs.declared.decide.Decision.TheVariants.{Refused, Clear}
use Rattle.deciding.specs.Deciding.{decided_under}
use Rattle.settle.specs.Outcome.{Outcome, refused, accepted, part_of, one_more, parts_of, posted_all, parts_under, accepted_trip, settled_under, settled}
use Rattle.settle.specs.Clauses.{Told}
use Rattle.settle.proofs.Ways.{refused_under, accepted-under, fault_way, faultless_way}

module _ (tariff : List ℕ) (counts : Counts) (book bytes : List ℕ) (trip : Trip) (window : Window) where
  abbrev checkout : ℕ
  checkout = trip.checkout.0

  abbrev rides : List Ride
  rides = rides_of tariff counts bytes trip

  -- Unbroken it comes to the whole ride's part and the book with it.
  module _ (unbroken : break_of tariff counts bytes trip.stops ≡ Unbroken) where
    pub one_part : parts_of tariff counts book window checkout rides ≡ part_of tariff counts book window (ride_of tariff counts bytes trip) ∷ []
    unfolding parts_of
    one_part = rw (one_ride tariff counts bytes trip unbroken)

    pub one_posted : posted_all tariff counts book window checkout rides ≡ posted tariff counts book window checkout (ride_of tariff counts bytes trip)
    unfolding posted_all
    one_posted = rw (one_ride tariff counts bytes trip unbroken)

  -- Broken it comes to two: the second is charged on the book that the first left, in the same window with one trip more.
  module _ (c : ℕ) (broken : break_of tariff counts bytes trip.stops ≡ At c) where
    -- the book that the first part left
    abbrev between : List ℕ
    between = posted tariff counts book window checkout (first_part tariff counts bytes trip c)

    pub two_parts :
        parts_of tariff counts book window checkout rides
        ≡ part_of tariff counts book window (first_part tariff counts bytes trip c)
        ∷ part_of tariff counts between (one_more window) (second_part tariff counts bytes trip c) ∷ []
    unfolding parts_of
    two_parts = rw (two_rides tariff counts bytes trip c broken)

    pub two_posted :
        posted_all tariff counts book window checkout rides ≡ posted tariff counts between (one_more window) checkout (second_part tariff counts bytes trip c)
    unfolding posted_all
    two_posted = rw (two_rides tariff counts bytes trip c broken)

-- ---- An accepted trip has one part or two.

pub data OneOrTwo : List Part → Type 0 where
  alone : (part : Part) → OneOrTwo (part ∷ [])
  both : (one other : Part) → OneOrTwo (one ∷ other ∷ [])

trip_few :
    (tariff : List ℕ) (counts : Counts) (book bytes : List ℕ) (trip : Trip) (window : Window)
    → OneOrTwo (parts_of tariff counts book window trip.checkout.0 (rides_of tariff counts bytes trip))
trip_few tariff counts book bytes trip window = go (break_of tariff counts bytes trip.stops) refl
  where
    go :
        (b : Breaking) → break_of tariff counts bytes trip.stops ≡ b
        → OneOrTwo (parts_of tariff counts book window trip.checkout.0 (rides_of tariff counts bytes trip))
    go (Unbroken) e = rw (one_part tariff counts book bytes trip window e) (alone _)
    go (At c) e = rw (two_parts tariff counts book bytes trip window c e) (both _ _)

-- an outcome that is accepted in one part or two, or refused
abbrev FewParts : Outcome → Type 0
FewParts o = (new : List ℕ) (parts : List Part) → o ≡ accepted new parts → OneOrTwo parts

none_refused : {A : Type 0} {number place : ℕ} {new : List ℕ} {parts : List Part} → refused number place ≡ accepted new parts → A
none_refused e = absurd (let z : ◌≡◌ {A = ℕ} 0 1 = cc in omega arith)

pub under_few : (file : List ℕ) (editions : Editions) (book bytes : List ℕ) (room : ℕ) → FewParts (settled_under file editions book bytes room)
unfolding accepted_trip
under_few file editions book bytes room new parts e = go (decided_under file editions book bytes room) refl
  where
    go : (d : Decision) → decided_under file editions book bytes room ≡ d → OneOrTwo parts
    go (Refused why) is = none_refused (sym (refused_under file editions book bytes room is) ∙ e)
    go (Clear trip window breaking) is =
        let same = sym (accepted-under file editions book bytes room trip window is) ∙ e in
        let these : parts_under file editions book bytes trip window ≡ parts = cc in
        subst OneOrTwo these (trip_few (tariff_in file editions window.edition) (counts_in editions window.edition) book bytes trip window)

pub settled_few : (file book bytes : List ℕ) (room : ℕ) → FewParts (settled file book bytes room)
settled_few file book bytes room new parts e = go (read_file file) refl
  where
    go : (r : FileReading) → read_file file ≡ r → OneOrTwo parts
    go (Fault number at) is = none_refused (sym (fault_way file book bytes room number at is) ∙ e)
    go (Faultless editions) is =
        under_few file editions book bytes room new parts (sym (faultless_way file book bytes room editions is) ∙ e)

-- ---- What a size tells: the outcome's parts, one or two, whose records the statement starts with, and their bytes.

pub record Accepted (o : Outcome) (statement : List ℕ) (size : ℕ) : Type 0 where
  pub new : List ℕ
  pub parts : List Part
  pub is : o ≡ accepted new parts
  pub few : OneOrTwo parts
  pub size_is : size ≡ length (statement_of parts)
  pub stand : StandFrom statement parts 0
  pub recordable : Recordables parts

pub no_size : {A : Type 0} {number place size : ℕ} → answer.Written size ≡ answer.Refused number place → A
no_size e = absurd (let z : ◌≡◌ {A = ℕ} 0 1 = cc in omega arith)

told_size :
    (o : Outcome) → FewParts o → {book book' statement statement' : List ℕ} {size : ℕ} → Told o book book' statement statement' (answer.Written size)
    → Accepted o statement' size
told_size (refused number place) few told = no_size told.answer
told_size (accepted new parts) few {statement = statement} {statement'} {size} told =
    let answered = told.answer in
    let all : size ≡ length (statement_of parts) = cc in
    record {
      new = new;
      parts = parts;
      is = refl;
      few = few new parts refl;
      size_is = all;
      stand = stand_from parts statement' (drop (length (statement_of parts)) statement) 0 told.statement_is;
      recordable = told.recordable;
    }

module _ {book' statement statement' : List ℕ} {size : ℕ} where
  pub under_accepted :
      (file : List ℕ) (editions : Editions) (book bytes : List ℕ) (room : ℕ)
      → Told (settled_under file editions book bytes room) book book' statement statement' (answer.Written size)
      → Accepted (settled_under file editions book bytes room) statement' size
  under_accepted file editions book bytes room told = told_size _ (under_few file editions book bytes room) told

  pub settled_accepted :
      (file book bytes : List ℕ) (room : ℕ) → Told (settled file book bytes room) book book' statement statement' (answer.Written size)
      → Accepted (settled file book bytes room) statement' size
  settled_accepted file book bytes room told = told_size _ (settled_few file book bytes room) told
