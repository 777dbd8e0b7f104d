-- Refusals and acceptance: what each says, and that each is given exactly then; and that what comes back is determined.
-- Assumes nothing.
use Prim.Native.Nat.{ℕ, suc, ◌+◌, ◌-◌, ◌/◌, ◌%◌, ◌^◌, ◌≤◌, ◌<◌}
use native.Mathlib.Nat.{eq-zero-or-pos}
use native.Mathlib.Omega.{arith}
use mathlib.Core.Path.{◌≡◌, refl, sym, ap, subst, ◌∙◌}
use mathlib.Core.Logic.{◌↔◌, ◌⊎◌, inl, ⊎_elim}
use mathlib.Core.Bool.{true}
use mathlib.Core.List.{List, [], ◌∷◌, append-nil}
use lib.ListN.{length, get_or}
use Rattle.caps.specs.Named.{CapHere, all_classes, second_class}
use Rattle.caps.proofs.Climb.{within_there}
use Rattle.layout.specs.declared.Counts.{Counts}
use Rattle.layout.specs.Scan.{Read}
use Rattle.editions.specs.declared.Editions.{Editions}
use Rattle.editions.specs.declared.FileReading.TheVariants.{Fault}
use Rattle.editions.specs.Editions.{in_force}
use Rattle.editions.specs.Reading.{longest_file}
use Rattle.editions.proofs.FileLaws.{file_exactly}
use Rattle.editions.proofs.Parts.{edition_read}
use Rattle.editions.proofs.Places.{many_most}
use Rattle.editions.proofs.Cases.{file_fault_most}
use Rattle.areas.specs.Areas.{FaultlessTariff}
use Rattle.areas.proofs.Faultless.{faultless}
use Rattle.trip.specs.Record.{class_at, level_at, party_at, count_at}
use Rattle.trip.specs.Moments.{checkin_of, checkout_of}
use Rattle.trip.specs.Trips.{trip_of}
use Rattle.trip.proofs.Ranges.{PartyRanges}
use Rattle.trip.proofs.Clear.{good_fields}
use Rattle.trip.specs.declared.Ride.{Ride}
use Rattle.fare.specs.declared.Breaking.{Breaking}
use Rattle.fare.specs.declared.Breaking.TheVariants.{Unbroken, At}
use Rattle.fare.specs.Rides.{area_of_stops, AreaOfStops, ride_between, ride_of}
use Rattle.fare.specs.Parts.{break_of, first_part, second_part}
use Rattle.fare.specs.Clauses.{Riding, EachRide}
use Rattle.fare.proofs.Stops.{area-of-stops, least_between}
use Rattle.fare.proofs.Breaks.{broken_says, unbroken_says, broken_between}
use Rattle.fare.proofs.PartLaws.{one_ride, two_rides, few_rides}
use Rattle.fare.proofs.GoodTrips.{riding}
use Rattle.ledger.specs.declared.Window.{Window}
use Rattle.caps.specs.declared.Cut.{Cut}
use Rattle.ledger.specs.Windows.{in_window}
use Rattle.ledger.specs.Words.{second_sum, all_sum, cover_word, paid_word}
use Rattle.ledger.specs.Sound.{sound_alone, covers_sound}
use Rattle.charging.specs.Caps.{tree_of}
use Rattle.charging.specs.Charging.{is_child, carries, place_of, charges_of}
use Rattle.charging.specs.Cuts.{cuts_of}
use Rattle.charging.specs.InWords.{ChargeSays, CutSays}
use Rattle.cycles.specs.InWords.{BicycleSays}
use Rattle.charging.specs.Clauses.{Rideable}
use Rattle.charging.specs.After.{posted}
use Rattle.ledger.proofs.SoundLaws.{sound-alone, sound_covers, alone_has}
use Rattle.ledger.specs.Clauses.{WindowRight}
use Rattle.ledger.proofs.WindowLaws.{window_right}
use Rattle.posting.proofs.NextPart.{next_right}
use Rattle.posting.proofs.SoundAgain.{posted_sound}
use Rattle.charging.proofs.Trees.{is_tree}
use Rattle.charging.proofs.ChargeLaws.{
  place_there,
  ride_words,
  charges_length,
  cuts_length,
  adult_stands,
  child_stands,
  rider_stands,
  bicycle_stands,
  adult_cut_stands,
  child_cut_stands,
  rider_cut_stands,
}
use Rattle.charging.proofs.CutLaws.{cut_says, cut_one, cut_full}
use Rattle.charging.proofs.InWords.{charge_says}
use Rattle.cycles.proofs.InWords.{bicycle_says}
use Rattle.charging.proofs.GoodRides.{good_ride, good_first, good_second, good_rides}
use Rattle.statement.specs.Record.{Part, record_size, record_of, statement_of, uncut, Recordable}
use Rattle.statement.specs.Reading.{charge_in}
use Rattle.statement.specs.Clauses.{StandsAt}
use Rattle.statement.proofs.Charges.{length_record, one_part, length_two}
use Rattle.statement.proofs.Records.{
  long_is,
  kind_is,
  opening_is,
  area_is,
  km_is,
  minutes_is,
  adults_is,
  children_is,
  bicycles_is,
  charge_is,
  reduction_is,
  cap_area_is,
  cap_class_is,
  second_stands,
}
use Rattle.deciding.specs.Refusals.{last_refusal, Numbered, window_in, tariff_for, counts_for, rows}
use Rattle.settle.specs.Outcome.{Outcome, refused, accepted, part_of, one_more, parts_of, accepted_trip, settled, answer_of, Settled}
use Rattle.deciding.proofs.Rows.{first_holds, first_range, rows_range}
use Rattle.settle.proofs.Clear.{part_complete, can_record}
use Rattle.deciding.proofs.Decisions.{refused_first, clear_first, in-alone, covers_there, edition_known, NoneHolds, no_row}
use Rattle.settle.proofs.Ways.{fault_way, refused_way, accepted_way}
use Rattle.promises.specs.Conditions.{
  trip_rides,
  condition,
  NoCondition,
  RefusedBy,
  by_file,
  by_others,
  AcceptedBy,
  rides_in,
  minutes_of,
  ride_on,
  cut_in,
  CutTold,
  RecordSays,
  StatementSays,
  as_one,
  as_two,
}
use Rattle.promises.proofs.Refusing.{first_exactly, none_exactly, fault_some, editions_one, no_fault, Answered, refusing, accepting, answered}

-- ---- What an acceptance has.

module _ {file book bytes : List ℕ} {room : ℕ} {new : List ℕ} {parts : List Part} (a : AcceptedBy file book bytes room new parts) where
  -- the window that the trip belongs to or opens, and the tariff of its edition
  abbrev pub windowBy : Window
  windowBy = window_in a.editions book bytes

  abbrev pub tariffBy : List ℕ
  tariffBy = tariff_for file a.editions book bytes

  abbrev pub countsBy : Counts
  countsBy = counts_for a.editions book bytes

  -- which is faultless
  pub read_by : Read tariffBy countsBy
  read_by = edition_read file a.editions a.read windowBy.edition

  -- where no row holds: the book is sound, the trip good and on time, its window not full, and there is room for its records
  pub clear : NoneHolds file a.editions book bytes room
  clear =
      no_row file a.editions book bytes room ((none_exactly file a.editions a.read book bytes room).1 a.none)

  pub alone-by : sound_alone book ≡ true
  alone-by = in-alone a.editions book clear.sound_book

  -- in the open window the book's bicycles are within the areas of the edition
  pub covers-by : windowBy.current ≡ true → covers_sound book countsBy.areas ≡ true
  covers-by = covers_there a.editions book bytes clear.sound_book

  -- each of its rides can be charged, there is one at least, and its window is right for the first
  pub charged-rides : EachRide (Rideable tariffBy countsBy book windowBy.current) (trip_rides tariffBy countsBy bytes)
  charged-rides = good_rides tariffBy countsBy book windowBy.current bytes read_by alone-by covers-by clear.good

  pub some-rides : 1 ≤ length (trip_rides tariffBy countsBy bytes)
  some-rides = (few_rides tariffBy countsBy bytes (trip_of bytes)).0

  pub right-window : WindowRight book windowBy (checkout_of bytes)
  right-window =
      let fields = good_fields clear.good in
      window_right (alone_has book alone-by) (in_force a.editions (checkin_of bytes)) fields.forward fields.short fields.range
      clear.on_time windowBy refl (omega (arith, clear.few, some-rides)) clear.some_edition
      (omega (arith, edition_known a.editions book bytes clear.sound_book, many_most a.editions))

-- ---- What a record says.

-- a part for each ride
parts-rides :
    (tariff : List ℕ) (counts : Counts) (checkout : ℕ) (rides : List Ride) (book : List ℕ) (window : Window)
    → rides_in (parts_of tariff counts book window checkout rides) ≡ rides
unfolding parts_of part_of
parts-rides tariff counts checkout [] book window = refl
parts-rides tariff counts checkout (ride ∷ rides) book window =
    ap (λ (more : List Ride). ride ∷ more)
    (parts-rides tariff counts checkout rides (posted tariff counts book window checkout ride) (one_more window))

pub rides_are :
    {file book bytes : List ℕ} {room : ℕ} {new : List ℕ} {parts : List Part} (a : AcceptedBy file book bytes room new parts)
    → rides_in parts ≡ trip_rides (tariffBy a) (countsBy a) bytes
rides_are {file} {book} {bytes} a =
    ap rides_in a.parts_is
    ∙ parts-rides (tariffBy a) (countsBy a) (checkout_of bytes) (trip_rides (tariffBy a) (countsBy a) bytes) book (windowBy a)

pub rides-length : (parts : List Part) → length (rides_in parts) ≡ length parts
rides-length [] = refl
rides-length (part ∷ parts) = ap suc (rides-length parts)

pub some-parts :
    {file book bytes : List ℕ} {room : ℕ} {new : List ℕ} {parts : List Part} → AcceptedBy file book bytes room new parts → 1 ≤ length parts
some-parts {parts = parts} a = omega (arith, rides-length parts, ap length (rides_are a), some-rides a)

-- a cut that is what the words say names a cap only where something is taken off: a cap's area is the tariff's, and its class 1 or 2
names-none :
    {tariff : List ℕ} {counts : Counts} → FaultlessTariff tariff counts → {w : List ℕ} {ride : Ride} → ride.area < counts.areas
    → {rider charge : ℕ} {cut : Cut} → CutSays tariff counts w ride rider charge cut → (cut.area ≡ 255) ⊎ (cut.class ≡ 0) → cut.reduction.0 ≡ 0
names-none {tariff} {counts} t {w} {ride} here {rider} {charge} {cut} says none =
    ⊎_elim (λ nothing. nothing)
    (λ (some : 0 < cut.reduction.0).
    let cap = (says.named some).one_of_them in
    let there : cut.area < counts.areas = within_there (is_tree t (is_child rider)) ride.area here cut.area cap.inside in
    absurd (⊎_elim (λ (far : cut.area ≡ 255). omega (arith, there, far, t.few_areas)) (λ (zero : cut.class ≡ 0). known zero cap.its) none))
    (eq-zero-or-pos cut.reduction.0)
  where
    known :
        cut.class ≡ 0
        → CapHere ((tree_of tariff counts (is_child rider)).caps cut.area) ride.class (second_sum w rider cut.area) (all_sum w rider cut.area)
        cut.class charge
        → ⊥
    known zero (all_classes most one is value) = omega (arith, zero, one)
    known zero (second_class most two of is value) = omega (arith, zero, two)

-- such a cut in all words
told :
    {tariff : List ℕ} {counts : Counts} → FaultlessTariff tariff counts → {w : List ℕ} {ride : Ride} → ride.area < counts.areas
    → {rider charge : ℕ} {cut : Cut} → CutSays tariff counts w ride rider charge cut → CutTold tariff counts w ride rider charge cut
told t here says =
    record { says = says; only_then = names-none t here says; full_or_passed = cut_full says; alone = λ other also. cut_one t here also says }

-- a cut is its three fields
same-cut : {k k' : Cut} → k.reduction.0 ≡ k'.reduction.0 → k.area ≡ k'.area → k.class ≡ k'.class → k ≡ k'
same-cut e e' e'' = rw (e, e', e'')

-- a ride's part, and its record where it stands in a statement
module _ {tariff : List ℕ} {counts : Counts} {book : List ℕ} {ride : Ride} {window : Window} (ok : Rideable tariff counts book window.current ride)
    {checkout : ℕ} (right : WindowRight book window checkout) where
  abbrev w : List ℕ
  w = in_window window.current book

  abbrev part : Part
  part = part_of tariff counts book window ride

  record-size : length (record_of part) ≡ record_size ride.party
  unfolding part_of
  record-size = length_record part (part_complete tariff counts book window ride)

  recordable : Recordable part
  recordable = can_record ok right

  module _ {statement : List ℕ} {place : ℕ} (stands : StandsAt part statement place) where
    -- charge i stands at its place
    charge-stands : (i : ℕ) → i < length (charges_of tariff counts w ride) → charge_in statement place i ≡ get_or (charges_of tariff counts w ride) i 0
    unfolding part_of
    charge-stands i h = charge_is part statement place stands recordable i h

    -- and person i's cut
    cut_stands : (i : ℕ) → i < length (cuts_of tariff counts w ride) → cut_in statement place i ≡ get_or (cuts_of tariff counts w ride) i uncut
    unfolding part_of
    cut_stands i h =
        same-cut (reduction_is part statement place stands recordable i h) (cap_area_is part statement place stands recordable i h)
        (cap_class_is part statement place stands recordable i h)

    -- each rider's and each bicycle's charge there is the one of the rules' words
    rider-pays :
        (rider : ℕ) → carries ride.party rider ≡ true
        → ChargeSays tariff counts w ride rider (charge_in statement place (place_of ride.party rider))
    rider-pays rider on =
        let there : place_of ride.party rider < length (charges_of tariff counts w ride) =
        omega (arith, charges_length tariff counts w ride, place_there ride rider on)
        in
        subst (ChargeSays tariff counts w ride rider)
        (sym (charge-stands (place_of ride.party rider) there ∙ rider_stands tariff counts w ride rider on))
        (charge_says (faultless tariff counts ok.read) w ride ok.area rider)

    -- and so is each rider's cut
    rider-told :
        (rider : ℕ) → carries ride.party rider ≡ true
        → CutTold tariff counts w ride rider (charge_in statement place (place_of ride.party rider)) (cut_in statement place (place_of ride.party rider))
    rider-told rider on =
        let at = place_of ride.party rider in
        let inside = place_there ride rider on in
        let charge = charge-stands at (omega (arith, charges_length tariff counts w ride, inside)) ∙ rider_stands tariff counts w ride rider on in
        let cut = cut_stands at (omega (arith, cuts_length tariff counts w ride, inside)) ∙ rider_cut_stands tariff counts w ride uncut rider on in
        told (faultless tariff counts ok.read) ok.area
        (subst (λ (c : ℕ). CutSays tariff counts w ride rider c (cut_in statement place at)) (sym charge)
        (subst (CutSays tariff counts w ride rider _) (sym cut) (cut_says (faultless tariff counts ok.read) w ride ok.area rider)))

    bicycle_pays :
        (i : ℕ) → i < ride.party.bicycles
        → BicycleSays tariff counts ride.area (cover_word w i) (paid_word w i)
        (charge_in statement place (1 + ride.party.adults + ride.party.children + i))
    bicycle_pays i h =
        let behind = 1 + ride.party.adults + ride.party.children + i in
        let there : behind < length (charges_of tariff counts w ride) = omega (arith, charges_length tariff counts w ride) in
        subst (BicycleSays tariff counts ride.area (cover_word w i) (paid_word w i))
        (sym (charge-stands behind there ∙ bicycle_stands tariff counts w ride i h))
        (bicycle_says (faultless tariff counts ok.read) ride.area (cover_word w i) (paid_word w i) ok.area
        ((ride_words ok).covers i (omega (arith, ok.bicycles))))

-- the smallest area containing the stops of a trip from one to another
smallest :
    {tariff : List ℕ} {counts : Counts} {bytes : List ℕ} → Riding tariff counts bytes (count_at bytes 0) → (from to : ℕ) → from ≤ to
    → to < count_at bytes 0 → AreaOfStops tariff counts bytes from to (area_of_stops tariff counts bytes from (to - from))
smallest stops from to order inside =
    let place : from + (to - from) ≡ to = omega arith in
    rw place at (area-of-stops stops from (to - from) (omega arith))

-- the record of a ride from the one to the other
module _ {tariff : List ℕ} {counts : Counts} {book bytes : List ℕ} (stops : Riding tariff counts bytes (count_at bytes 0)) {from to minutes : ℕ}
    (order : from ≤ to) (inside : to < count_at bytes 0) {window : Window}
    (ok : Rideable tariff counts book window.current (ride_on tariff counts bytes from to minutes)) {checkout : ℕ} (right : WindowRight book window checkout) {statement : List ℕ} {place : ℕ}
    (stands : StandsAt (part_of tariff counts book window (ride_on tariff counts bytes from to minutes)) statement place) where
  said : RecordSays tariff bytes (in_window window.current book) counts window.opening.0 from to minutes statement place
  unfolding ride_between part_of
  said =
      let ride = ride_on tariff counts bytes from to minutes in
      let w = in_window window.current book in
      let part = part_of tariff counts book window ride in
      let can = recordable ok right in
      let count = charges_length tariff counts w ride in
      let persons = cuts_length tariff counts w ride in
      let party = party_at bytes 0 in
      let area = area_is part statement place stands can in
      record {
        long = rw (long_is part statement place stands can) (omega arith);
        kind = kind_is part statement place stands can;
        opening = opening_is part statement place stands can;
        area = rw area (smallest stops from to order inside);
        km = rw (km_is part statement place stands can) (least_between stops from to (omega arith) inside);
        in-minutes = minutes_is part statement place stands can;
        many_adults = adults_is part statement place stands can;
        many_children = children_is part statement place stands can;
        many_bicycles = bicycles_is part statement place stands can;
        holder = charge-stands ok right stands 0 (omega arith) ∙ adult_stands tariff counts w ride 0 (omega arith);
        adults = λ i h. charge-stands ok right stands (1 + i) (omega arith) ∙ adult_stands tariff counts w ride (1 + i) (omega arith);
        children = λ i h. charge-stands ok right stands (1 + party.adults + i) (omega arith) ∙ child_stands tariff counts w ride i h;
        bicycles = λ i h.
            rw area (charge-stands ok right stands (1 + party.adults + party.children + i) (omega arith) ∙ bicycle_stands tariff counts w ride i h);
        holder_cut = cut_stands ok right stands 0 (omega arith) ∙ adult_cut_stands tariff counts w ride uncut 0 (omega arith);
        adult_cuts = λ i h. cut_stands ok right stands (1 + i) (omega arith) ∙ adult_cut_stands tariff counts w ride uncut (1 + i) (omega arith);
        child_cuts = λ i h. cut_stands ok right stands (1 + party.adults + i) (omega arith) ∙ child_cut_stands tariff counts w ride uncut i h;
        riders_pay = rider-pays ok right stands;
        riders_cut = rider-told ok right stands;
        bicycles_pay = λ i h. rw area (bicycle_pays ok right stands i h);
      }

-- ---- What the statement says.

module _ {file book bytes : List ℕ} {room : ℕ} {new : List ℕ} {parts : List Part} (a : AcceptedBy file book bytes room new parts) where
  abbrev tariff : List ℕ
  tariff = tariffBy a

  abbrev counts : Counts
  counts = countsBy a

  abbrev window : Window
  window = windowBy a

  stops-there : Riding tariff counts bytes (count_at bytes 0)
  stops-there = riding (read_by a) (clear a).good

  two-stops : 2 ≤ count_at bytes 0
  two-stops = (good_fields (clear a).good).ranges.least

  parts-with : (rides : List Ride) → trip_rides tariff counts bytes ≡ rides → parts ≡ parts_of tariff counts book window (checkout_of bytes) rides
  parts-with rides e = a.parts_is ∙ ap (parts_of tariff counts book window (checkout_of bytes)) e

  -- one record
  says-one : break_of tariff counts bytes (count_at bytes 0) ≡ Unbroken → StatementSays tariff counts window book bytes (statement_of parts)
  unfolding ride_of parts_of ride_between
  says-one e =
      let ride = ride_on tariff counts bytes 0 (count_at bytes 0 - 1) (minutes_of bytes) in
      let part = part_of tariff counts book window ride in
      let ok : Rideable tariff counts book window.current ride =
      good_ride tariff counts book window.current bytes (read_by a) (alone-by a) (covers-by a) (clear a).good
      in
      let bytes-are : statement_of parts ≡ record_of part =
      ap statement_of (parts-with (ride ∷ []) (one_ride tariff counts bytes (trip_of bytes) e)) ∙ one_part part
      in
      let stands : StandsAt part (statement_of parts) 0 = record { rest = []; is = bytes-are ∙ sym (append-nil (record_of part)) } in
      as_one (unbroken_says stops-there e) (ap length bytes-are ∙ record-size ok (right-window a))
      (said stops-there (omega arith) (omega (arith, two-stops)) ok (right-window a) stands)

  -- two records
  says_two : (c : ℕ) → break_of tariff counts bytes (count_at bytes 0) ≡ At c → StatementSays tariff counts window book bytes (statement_of parts)
  unfolding first_part second_part parts_of one_more statement_of ride_between
  says_two c e =
      let first = ride_on tariff counts bytes 0 c (minutes_of bytes) in
      let second = ride_on tariff counts bytes c (count_at bytes 0 - 1) 0 in
      let between = posted tariff counts book window (checkout_of bytes) first in
      let part = part_of tariff counts book window first in
      let next = part_of tariff counts between (one_more window) second in
      let right = right-window a in
      let inside = broken_between stops-there c e in
      let few = rw (two_rides tariff counts bytes (trip_of bytes) c e) at (clear a).few in
      let ok : Rideable tariff counts book window.current first =
      good_first tariff counts book window.current bytes (read_by a) (alone-by a) (covers-by a) (clear a).good c e
      in
      let again = next_right ok right (omega arith) in
      let left = posted_sound ok right in
      let ok' : Rideable tariff counts between true second =
      good_second tariff counts between true bytes (read_by a) (sound-alone between counts.areas left) (λ _. sound_covers between counts.areas left)
      (clear a).good c e
      in
      let bytes-are : statement_of parts ≡ statement_of (part ∷ next ∷ []) =
      ap statement_of (parts-with (first ∷ second ∷ []) (two_rides tariff counts bytes (trip_of bytes) c e))
      in
      let stands : StandsAt part (statement_of parts) 0 = record { rest = statement_of (next ∷ []); is = bytes-are } in
      let size = record-size ok right in
      let behind : StandsAt next (statement_of parts) (record_size (party_at bytes 0)) =
      rw (bytes-are, ← size)
      (subst (λ (s : List ℕ). StandsAt next s (length (record_of part))) (append-nil (statement_of (part ∷ next ∷ []))) (second_stands part next [] []))
      in
      as_two c (broken_says stops-there c e) (ap length bytes-are ∙ length_two part next ∙ rw (size, record-size ok' again))
      (said stops-there (omega arith) (omega arith) ok right stands) (said stops-there (omega arith) (omega (arith, two-stops)) ok' again behind)

  statement-said : StatementSays tariff counts window book bytes (statement_of parts)
  statement-said = go (break_of tariff counts bytes (count_at bytes 0)) refl
    where
      go : (b : Breaking) → break_of tariff counts bytes (count_at bytes 0) ≡ b → StatementSays tariff counts window book bytes (statement_of parts)
      go (Unbroken) e = says-one e
      go (At c) e = says_two c e

-- ---- The answers.

module _ (file book bytes : List ℕ) (room : ℕ) where
  -- What an acceptance says: the file is faultless, the book is sound, the trip is good and on time, its window has at most 256 with
  -- its rides, there is room for their records; the new book and the parts are those of its rides.
  pub accepted-is : {new : List ℕ} {parts : List Part} → settled file book bytes room ≡ accepted new parts → AcceptedBy file book bytes room new parts
  accepted-is {new} {parts} e = met (rw e at (answered file book bytes room))
    where
      met : Answered file book bytes room (accepted new parts) → AcceptedBy file book bytes room new parts
      met (accepting says) = says

  -- What a refusal says. 1 to 3: every record before its place is faultless, and the one there is faulty in the way of the number, where 1
  -- goes before 2 and 2 before 3. 4 to 12: the file is faultless, the condition of the number holds, and no condition before it does.
  pub refused-is : {n place : ℕ} → settled file book bytes room ≡ refused n place → RefusedBy file book bytes room n place
  refused-is {n} {place} e = met (rw e at (answered file book bytes room))
    where
      met : Answered file book bytes room (refused n place) → RefusedBy file book bytes room n place
      met (refusing says) = says

  -- Where no condition holds, the trip is accepted.
  pub accepts :
      NoCondition file book bytes room → (new : List ℕ) × (parts : List Part) × (settled file book bytes room ≡ accepted new parts)
  accepts none = go (settled file book bytes room) refl
    where
      met : {n place : ℕ} → RefusedBy file book bytes room n place → ⊥
      met {n} {place} (by_file says) = none.no_fault n place says
      met (by_others editions read why is at first) =
          none.none_of_table editions read why (first_holds (condition file editions book bytes room) (rows file editions book bytes room) first)

      go : (o : Outcome) → settled file book bytes room ≡ o
          → (new : List ℕ) × (parts : List Part) × (settled file book bytes room ≡ accepted new parts)
      go (refused n place) e = absurd (met (refused-is e))
      go (accepted new parts) e = (new, parts, e)

  -- And an accepted trip meets none.
  pub accepted-meets-none : {new : List ℕ} {parts : List Part} → AcceptedBy file book bytes room new parts → NoCondition file book bytes room
  accepted-meets-none a =
      record {
        no_fault = no_fault file a.editions a.read;
        none_of_table = λ editions read why.
            subst (λ (e : Editions). condition file e book bytes room why → ⊥) (editions_one file a.editions a.read editions read) (a.none why);
      }

  -- The statement of an accepted trip has one record, or two where it is broken at a change, one behind the other. Each says the window's
  -- opening, the smallest area containing all its stops, the least kilometres between its first and its last, the party's numbers, and the
  -- charges in the order holder, adults, children, bicycles, with each person's what caps took off and the cap that is named for it. The
  -- first has check-out less check-in as its minutes; the second 0, and is charged on what the first left.
  pub record-says :
      {new : List ℕ} {parts : List Part} (a : AcceptedBy file book bytes room new parts)
      → StatementSays (tariffBy a) (countsBy a) (windowBy a) book bytes (statement_of parts)
  record-says a = statement-said a

  -- An acceptance is given exactly when what it says holds.
  pub accepted_exactly : (new : List ℕ) (parts : List Part) → settled file book bytes room ≡ accepted new parts ↔ AcceptedBy file book bytes room new parts
  unfolding accepted_trip
  accepted_exactly new parts = (accepted-is, back)
    where
      back : AcceptedBy file book bytes room new parts → settled file book bytes room ≡ accepted new parts
      back a =
          accepted_way file book bytes room a.editions a.read _ _
          (clear_first file a.editions book bytes room ((none_exactly file a.editions a.read book bytes room).1 a.none))
          ∙ rw (a.new_is, a.parts_is)

  -- A trip is accepted exactly when no condition holds.
  pub accepts-exactly :
      ((new : List ℕ) × (parts : List Part) × (settled file book bytes room ≡ accepted new parts))
      ↔ NoCondition file book bytes room
  accepts-exactly = (λ w. accepted-meets-none (accepted-is w.2), accepts)

  -- A refusal is given exactly when what it says holds.
  pub refused-exactly : (n place : ℕ) → settled file book bytes room ≡ refused n place ↔ RefusedBy file book bytes room n place
  refused-exactly n place = (refused-is, back)
    where
      back : RefusedBy file book bytes room n place → settled file book bytes room ≡ refused n place
      back (by_file says) = fault_way file book bytes room n place ((file_exactly file (Fault n place)).1 says)
      back (by_others editions read why is at first) =
          rw (is, at)
          (refused_way file book bytes room editions read
          (refused_first file editions book bytes room ((first_exactly file editions read book bytes room why).1 first)))

  -- A refusal's number is 1 to 12, 17 or 22; its place is at most 29,062, the length of the longest file, and 0 from 4 on.
  pub refused-number :
      {n place : ℕ} → settled file book bytes room ≡ refused n place → (1 ≤ n) × Numbered last_refusal n × (place ≤ longest_file) × (4 ≤ n → place ≡ 0)
  refused-number {n} {place} e = met (refused-is e)
    where
      met : RefusedBy file book bytes room n place → (1 ≤ n) × Numbered last_refusal n × (place ≤ longest_file) × (4 ≤ n → place ≡ 0)
      met (by_others editions read why is at first) =
          let (low, high) =
          first_range last_refusal (rows file editions book bytes room) (rows_range file editions book bytes room)
          ((first_exactly file editions read book bytes room why).1 first)
          in
          rw is (omega arith, high, omega (arith, at), λ _. at)
      met (by_file says) =
          let (high, near) = file_fault_most file n place ((file_exactly file (Fault n place)).1 says) in
          (fault_some says, inl (omega arith), near, λ h. absurd (omega arith))

  -- ---- What comes back.

  -- A refusal leaves the book and every statement byte as they were.
  pub refusal_leaves :
      {n place : ℕ} {book' statement statement' : List ℕ} {r : ℕ} → settled file book bytes room ≡ refused n place
      → Settled (settled file book bytes room) book book' statement statement' r → (book' ≡ book) × (statement' ≡ statement)
  refusal_leaves {n} {place} {book'} {statement} {statement'} {r} e s =
      let s' : Settled (refused n place) book book' statement statement' r = rw e at s in (s'.book_is, s'.statement_is)

  -- A refusal answers 2 ^ 32 or more: its number in the upper 32 bits, its place in the lower.
  pub refused-answer :
      {n place : ℕ} → settled file book bytes room ≡ refused n place
      → (2 ^ 32 ≤ answer_of (settled file book bytes room))
      × (answer_of (settled file book bytes room) / 2 ^ 32 ≡ n)
      × (answer_of (settled file book bytes room) % 2 ^ 32 ≡ place)
  refused-answer {n} {place} e =
      let (low, high, near, none) = refused-number e in
      rw e (omega arith, omega arith, omega arith)

  -- An acceptance answers the bytes written, 26 to 532.
  pub accepted-answer :
      {new : List ℕ} {parts : List Part} → settled file book bytes room ≡ accepted new parts
      → (26 ≤ answer_of (settled file book bytes room)) × (answer_of (settled file book bytes room) ≤ 532)
  accepted-answer {new} {parts} e = rw e (go (record-says (accepted-is e)))
    where
      party : PartyRanges (class_at bytes 0) (level_at bytes 0) (party_at bytes 0) (count_at bytes 0)
      party = (good_fields (clear (accepted-is e)).good).ranges

      go : StatementSays (tariffBy (accepted-is e)) (countsBy (accepted-is e)) (windowBy (accepted-is e)) book bytes (statement_of parts)
          → (26 ≤ length (statement_of parts)) × (length (statement_of parts) ≤ 532)
      go (as_one whole size says) = (omega (arith, size), omega (arith, size, party))
      go (as_two c broken size first second) = (omega (arith, size), omega (arith, size, party))

-- Two results that the exported contract allows for the same input are equal: the answer, the book and every byte of the statement.
pub determined :
    (file book trip statement : List ℕ) {b₁ b₂ s₁ s₂ : List ℕ} {r₁ r₂ : ℕ}
    → Settled (settled file book trip (length statement)) book b₁ statement s₁ r₁
    → Settled (settled file book trip (length statement)) book b₂ statement s₂ r₂ → (r₁ ≡ r₂) × (b₁ ≡ b₂) × (s₁ ≡ s₂)
determined file book trip statement one other = (
  one.answer ∙ sym other.answer,
  one.book_is ∙ sym other.book_is,
  one.statement_is ∙ sym other.statement_is,
)
