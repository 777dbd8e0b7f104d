-- What stating a ride carries on: each rider's charge behind those before it, what a rider paid for an earlier part as far before it as a record
-- is long, and the two groups of a party one behind the other.
-- Assumes nothing.
use Prim.Native.Nat.{ℕ, zero, suc, ◌+◌, ◌-◌, ◌*◌, ◌^◌, ◌≤◌, ◌<◌}
use native.Mathlib.Nat.{zero-add}
use native.Mathlib.Omega.{arith}
use native.Mathlib.Numerals.{add-one}
use mathlib.Core.Path.{◌≡◌, refl, sym, ap, ◌∙◌}
use mathlib.Core.Bool.{Bool, true, false}
use mathlib.Core.List.{List, [], ◌++◌}
use borrow.Author.Tests.{le-leb, le-ltb, lt-ltb}
use lib.ListN.{length, get_or}
use Rattle.caps.specs.declared.Cut.{Cut}
use Rattle.wire.specs.Number.{get_le, bytes_of}
use Rattle.layout.specs.declared.Area.{Area}
use Rattle.layout.specs.declared.Counts.{Counts}
use Rattle.areas.specs.Areas.{area_at}
use Rattle.areas.proofs.Faultless.{faultless}
use Rattle.trip.specs.declared.Ride.{Ride}
use Rattle.trip.specs.declared.Earlier.{Earlier}
use Rattle.trip.specs.declared.Earlier.TheVariants.{Nothing, Part}
use Rattle.prices.specs.Prices.{price_of}
use Rattle.statement.specs.Record.{
  head_size,
  person_size,
  persons_of,
  record_size,
  charge_size,
  head_of,
  person_bytes,
  charge_bytes,
  Complete,
  uncut,
  RideFits,
  Recordable,
}
use Rattle.statement.specs.Clauses.{Wrote}
use Rattle.statement.proofs.Head.{length_head}
use Rattle.statement.proofs.Charges.{length_charges}
use Rattle.statement.proofs.Wrote.{nobody_wrote, behind_wrote, persons_wrote, person_wrote, bicycle_wrote, record_wrote, length_wrote, read_before}
use Rattle.statement.proofs.Records.{person_is}
use Rattle.ledger.specs.declared.Window.{Window}
use Rattle.ledger.specs.Words.{first_child}
use Rattle.ledger.specs.Windows.{in_window}
use Rattle.charging.specs.declared.Riders.{Riders}
use Rattle.charging.specs.declared.Person.{Person}
use Rattle.charging.specs.declared.limits.Chain.{Chain}
use Rattle.charging.specs.Charging.{rider_charge, bicycle_of, in_turn, each_person, charges_of}
use Rattle.charging.specs.Cuts.{rider_cut, cuts_of}
use Rattle.charging.specs.After.{words_after}
use Rattle.charging.specs.Clauses.{
  Rideable,
  EarlierRight,
  chain_of,
  ChainOf,
  FitsAlong,
  person_by,
  part_after,
  EarlierStands,
  Stateable,
  paid_earlier,
  paid_in,
  PaidThere,
  PaidStands,
  RidersOf,
  RidersStateable,
  RidersWritten,
  RideWritten,
  BicyclesWritten,
}
use Rattle.charging.proofs.InTurn.{turn_length, turn_more, turn_same, persons_length}
use Rattle.charging.proofs.ChargeLaws.{charges_length, cuts_length, adult_stands, child_stands, charges_most}
use Rattle.charging.proofs.CutLaws.{cuts_in_range}
use Rattle.charging.proofs.EarlierLaws.{rider_fits, rider_after}

-- ---- A ride's record can tell it.

-- A ride's fields fit their widths.
pub ride_fits :
    {tariff : List ℕ} {counts : Counts} {book : List ℕ} {current : Bool} {ride : Ride} → Rideable tariff counts book current ride → RideFits ride
ride_fits {tariff} {counts} ok =
    let few = (faultless tariff counts ok.read).few_areas in
    record {
      area = omega (arith, ok.area);
      km = omega (arith, ok.km);
      minutes = omega (arith, ok.minutes);
      adults = ok.adults;
      children = ok.children;
      bicycles = ok.bicycles;
    }

-- Its part has a charge for each of the party, and a cut for each person.
pub part_complete :
    (tariff : List ℕ) (counts : Counts) (book : List ℕ) (window : Window) (earlier : Earlier) (ride : Ride)
    → Complete (part_after tariff counts book window earlier ride)
part_complete tariff counts book window earlier ride =
    let words = words_after tariff counts (in_window window.current book) earlier in
    record { charges = charges_length tariff counts words ride; cuts = cuts_length tariff counts words ride }

-- The fields of its record hold what it says.
pub can_record :
    {tariff : List ℕ} {counts : Counts} {book : List ℕ} {ride : Ride} (window : Window) → Rideable tariff counts book window.current ride
    → window.opening.0 < 2 ^ 32 → Recordable (part_after tariff counts book window Nothing ride)
can_record {tariff} {counts} {book} {ride} window ok fits =
    record {
      opening = fits;
      ride = ride_fits ok;
      complete = part_complete tariff counts book window Nothing ride;
      charges = λ i. omega (arith, charges_most ok i);
      cuts =
          λ i h.
          let range = cuts_in_range ok (in_window window.current book) uncut i h in
          record { reduction = omega (arith, range.reduction); area = omega (arith, range.area); class = omega (arith, range.class) };
    }

-- ---- One rider behind another.

-- the first i riders are written, from a place on
pub record TurnsWrote (charge : ℕ → ℕ) (cut : ℕ → Cut) (i : ℕ) (s : List ℕ) (place : ℕ) (s' : List ℕ) (next : ℕ) : Type 0 where
  pub wrote : Wrote (charge_bytes (in_turn charge 0 i) (in_turn cut 0 i)) s place s' next

pub turns_none : (charge : ℕ → ℕ) (cut : ℕ → Cut) (s : List ℕ) (place : ℕ) → TurnsWrote charge cut 0 s place s place
unfolding in_turn
turns_none charge cut s place = record { wrote = nobody_wrote s place }

module _ {charge : ℕ → ℕ} {cut : ℕ → Cut} {i : ℕ} {s : List ℕ} {place : ℕ} {s' : List ℕ} {next : ℕ} (turns : TurnsWrote charge cut i s place s' next) where
  -- One rider more.
  pub turns_more :
      {amount : ℕ} {taken : Cut} {s'' : List ℕ} {r : ℕ} → amount ≡ charge i → taken ≡ cut i → Wrote (person_bytes amount taken) s' next s'' r
      → TurnsWrote charge cut (i + 1) s place s'' r
  turns_more e e' here =
      record {
        wrote =
            rw (turn_more charge 0 i, turn_more cut 0 i, zero-add i)
            (person_wrote (in_turn charge 0 i) (in_turn cut 0 i) _ _ (turn_length cut 0 i ∙ sym (turn_length charge 0 i)) turns.wrote (rw (e, e') at here));
      }

  -- Each takes ten bytes.
  next_is : next ≡ place + person_size * i
  next_is =
      let charges = turn_length charge 0 i in
      let cuts = turn_length cut 0 i in
      omega (arith, turns.wrote.next, length_charges (in_turn charge 0 i) (in_turn cut 0 i) (omega arith))

-- ---- What riders paid for an earlier part.

-- where it stands it can be read, and it is that
paid_stands :
    (tariff : List ℕ) (counts : Counts) (w : List ℕ) (ride : Ride) (riders : Riders) (earlier : Earlier) (s : List ℕ) (place : ℕ)
    → PaidStands tariff counts w ride riders earlier s place → (i : ℕ) → i < riders.count
    → paid_in earlier s (place + person_size * i) (record_size ride.party) ≡ paid_earlier tariff counts w earlier riders.child (riders.first + i)
unfolding paid_earlier
paid_stands tariff counts w ride riders Nothing s place stands i h = refl
paid_stands tariff counts w ride riders (Part before) s place stands i h = stands.1 i h

-- it stands before the place of the first rider, so what is written from there on leaves it
paid_stays :
    (tariff : List ℕ) (counts : Counts) (w : List ℕ) (ride : Ride) (riders : Riders) (earlier : Earlier) {bytes s s' : List ℕ} {place next i : ℕ}
    → RidersOf ride.party riders → i < riders.count → PaidStands tariff counts w ride riders earlier s place → Wrote bytes s place s' next
    → next ≡ place + person_size * i → next ≤ length s'
    → PaidThere earlier s' next (record_size ride.party)
    × (paid_in earlier s' next (record_size ride.party) ≡ paid_in earlier s (place + person_size * i) (record_size ride.party))
paid_stays tariff counts w ride riders Nothing of_party h stands wrote is inside = (tt, refl)
paid_stays tariff counts w ride riders (Part before) {s = s} {s'} {place} {next} {i} of_party h stands wrote is inside =
    let few = of_party.few in
    let back = stands.0 in
    let size = record_size ride.party in
    let same : next - size ≡ place + person_size * i - size = omega arith in
    ((omega arith, omega arith), read_before wrote 4 (next - size) (omega arith) ∙ ap (get_le 4 s) same)

-- ---- Riders by a chain.

-- what the i-th of some riders is charged by a chain, with what it paid as a statement tells
abbrev pub turn_by : Chain → List ℕ → ℕ → ℕ → Earlier → List ℕ → ℕ → ℕ → ℕ → ℕ → Person
turn_by chain w first class earlier s place size fare i = person_by chain w (first + i) class (paid_in earlier s (place + person_size * i) size) fare

module _ {tariff : List ℕ} {counts : Counts} {book : List ℕ} {current : Bool} {ride : Ride} {riders : Riders} {earlier : Earlier} {s : List ℕ}
    {place : ℕ} (ok : RidersStateable tariff counts book current ride riders earlier s place) {size : ℕ} (long : size ≡ record_size ride.party) where
  module _ {charge : ℕ → ℕ} {cut : ℕ → Cut} {s' : List ℕ} {next i : ℕ} (turns : TurnsWrote charge cut i s place s' next) (h : i < riders.count) where
    -- The next rider has room.
    pub next_room : next + person_size ≤ length s'
    next_room = omega (arith, next_is turns, length_wrote turns.wrote, ok.room)

    both : PaidThere earlier s' next size × (paid_in earlier s' next size ≡ paid_in earlier s (place + person_size * i) size)
    both =
        rw long
        (paid_stays tariff counts (in_window current book) ride riders earlier ok.of_party h ok.paid turns.wrote (next_is turns)
        (omega (arith, next_room)))

    -- What it paid for an earlier part can be read.
    pub paid_there : PaidThere earlier s' next size
    paid_there = both.0

    module _ {paid : ℕ} (is : paid ≡ paid_in earlier s' next size) where
      -- With it each sum fits its word.
      pub turn_fits :
          {chain : Chain} → ChainOf tariff counts ride.area riders.child earlier chain
          → FitsAlong chain (in_window current book) (riders.first + i) paid
      turn_fits chained =
          rw (is, both.1, long, paid_stands tariff counts (in_window current book) ride riders earlier s place ok.paid i h)
          (rider_fits ok.ridden (omega (arith, ok.of_party.known)) (ok.of_party.carried i h) (ok.of_party.alike i h) chained)

      -- It is what stood there at the start.
      pub turn_charged :
          (chain : Chain) (w : List ℕ) (class fare : ℕ) {person : Person} → person ≡ person_by chain w (riders.first + i) class paid fare
          → person ≡ turn_by chain w riders.first class earlier s place size fare i
      turn_charged chain w class fare e = e ∙ ap (λ (n : ℕ). person_by chain w (riders.first + i) class n fare) (is ∙ both.1)

  -- All of them are charged as on what the earlier part leaves.
  module _ {area : Area} {chain : Chain} {fare : ℕ} (e : area ≡ area_at tariff ride.area)
      (e' : chain ≡ chain_of tariff counts ride.area riders.child earlier) (e'' : fare ≡ price_of area ride riders.child) where
    abbrev words : List ℕ
    words = words_after tariff counts (in_window current book) earlier

    abbrev turn : ℕ → Person
    turn = turn_by chain (in_window current book) riders.first ride.class earlier s place size fare

    turn_is :
        (i : ℕ) → i < riders.count
        → ((turn i).amount.0 ≡ rider_charge tariff counts words ride riders.child (riders.first + i))
        × ((turn i).cut ≡ rider_cut tariff counts words ride riders.child (riders.first + i))
    turn_is i h =
        rider_after ok.ridden (omega (arith, ok.of_party.known)) (ok.of_party.carried i h) (ok.of_party.alike i h) e e' e''
        (rw (long, paid_stands tariff counts (in_window current book) ride riders earlier s place ok.paid i h))

    pub turns_all :
        {s' : List ℕ} {next i : ℕ} → TurnsWrote (λ k. (turn k).amount.0) (λ k. (turn k).cut) i s place s' next → i ≡ riders.count
        → RidersWritten tariff counts book current ride riders earlier s place s' next
    turns_all turns all =
        rw (
          all,
          turn_same (λ k. (turn k).amount.0) (rider_charge tariff counts words ride riders.child) 0 riders.first riders.count
              (λ k h. rw (zero-add k) (turn_is k h).0),
          turn_same (λ k. (turn k).cut) (rider_cut tariff counts words ride riders.child) 0 riders.first riders.count
              (λ k h. rw (zero-add k) (turn_is k h).1),
        ) at
        turns.wrote

-- ---- Bicycles.

-- the first i bicycles are written, from a place on
pub record BicyclesWrote (charge : ℕ → ℕ) (i : ℕ) (s : List ℕ) (place : ℕ) (s' : List ℕ) (next : ℕ) : Type 0 where
  pub wrote : Wrote (charge_bytes (in_turn charge 0 i) []) s place s' next

pub bicycles_none : (charge : ℕ → ℕ) (s : List ℕ) (place : ℕ) → BicyclesWrote charge 0 s place s place
unfolding in_turn
bicycles_none charge s place = record { wrote = nobody_wrote s place }

module _ {charge : ℕ → ℕ} {i : ℕ} {s : List ℕ} {place : ℕ} {s' : List ℕ} {next : ℕ} (bicycles : BicyclesWrote charge i s place s' next) where
  pub bicycles_more :
      {amount : ℕ} {s'' : List ℕ} {r : ℕ} → amount ≡ charge i → Wrote (bytes_of 4 amount) s' next s'' r → BicyclesWrote charge (i + 1) s place s'' r
  bicycles_more e here =
      record { wrote = rw (turn_more charge 0 i, zero-add i) (bicycle_wrote (in_turn charge 0 i) _ bicycles.wrote (rw e at here)) }

  -- The next has room.
  pub bicycle_room : (count : ℕ) → i < count → place + charge_size * count ≤ length s → next + charge_size ≤ length s'
  bicycle_room count h room =
      omega (
        arith,
        turn_length charge 0 i,
        bicycles.wrote.next,
        length_charges (in_turn charge 0 i) [] (omega arith),
        length_wrote bicycles.wrote,
      )

-- ---- One group behind the other.

-- the account holder with the adults, and then the children
unfoldable pub group_of : Ride → ℕ → Riders
group_of ride zero = record { child = false; first = 0; count = 1 + ride.party.adults }
group_of ride (suc k) = record { child = true; first = first_child; count = ride.party.children }

pub next_group : (ride : Ride) (k : ℕ) → record { child = true; first = first_child; count = ride.party.children } ≡ group_of ride (k + 1)
unfolding group_of
next_group ride k = rw (add-one k) refl

-- the persons before a group
unfoldable group_from : Ride → ℕ → ℕ
group_from ride zero = 0
group_from ride (suc k) = 1 + ride.party.adults

-- they are riders of their party
group-of : (ride : Ride) → ride.party.adults ≤ 10 → ride.party.children ≤ 10 → (k : ℕ) → RidersOf ride.party (group_of ride k)
unfolding group_of
group-of ride adults children zero =
    record {
      known = omega arith;
      few = omega arith;
      carried = λ i h. rw (zero-add i, le-ltb 10 i (omega arith), le-leb i ride.party.adults (omega arith));
      alike = λ i h. rw (zero-add i) (le-ltb 10 i (omega arith));
    }
group-of ride adults children (suc k) =
    record {
      known = omega arith;
      few = omega arith;
      carried = λ i h. rw (lt-ltb 10 (first_child + i) (omega arith), back i, lt-ltb i ride.party.children h);
      alike = λ i h. lt-ltb 10 (first_child + i) (omega arith);
    }
  where
    back : (i : ℕ) → first_child + i - first_child ≡ i
    back i = omega arith

-- what is of the persons of the first k groups
unfoldable pub persons_before : {A : Type 0} → Ride → (Bool → ℕ → A) → ℕ → List A
persons_before ride of zero = []
persons_before ride of (suc k) = persons_before ride of k ++ in_turn (of (group_of ride k).child) (group_of ride k).first (group_of ride k).count

before_length : {A : Type 0} (ride : Ride) (of : Bool → ℕ → A) (k : ℕ) → k < 2 → length (persons_before ride of k) ≡ group_from ride k
unfolding persons_before group_of group_from
before_length ride of zero few = refl
before_length ride of (suc zero) few = turn_length (of false) 0 (1 + ride.party.adults)
before_length ride of (suc (suc k)) few = absurd (omega arith)

-- the first k groups are written, from a place on
pub record GroupsWrote (ride : Ride) (charge : Bool → ℕ → ℕ) (cut : Bool → ℕ → Cut) (k : ℕ) (s : List ℕ) (place : ℕ) (s' : List ℕ) (next : ℕ) : Type 0 where
  pub wrote : Wrote (charge_bytes (persons_before ride charge k) (persons_before ride cut k)) s place s' next

pub groups_none :
    (ride : Ride) (charge : Bool → ℕ → ℕ) (cut : Bool → ℕ → Cut) (s : List ℕ) (place : ℕ) → GroupsWrote ride charge cut 0 s place s place
unfolding persons_before
groups_none ride charge cut s place = record { wrote = nobody_wrote s place }

-- One group more.
pub groups_more :
    {ride : Ride} {charge : Bool → ℕ → ℕ} {cut : Bool → ℕ → Cut} {k : ℕ} {s : List ℕ} {place : ℕ} {s₁ s₂ : List ℕ} {next r : ℕ} {riders : Riders}
    → GroupsWrote ride charge cut k s place s₁ next → k < 2 → riders ≡ group_of ride k
    → Wrote
    (charge_bytes (in_turn (charge riders.child) riders.first riders.count) (in_turn (cut riders.child) riders.first riders.count)) s₁ next s₂ r
    → GroupsWrote ride charge cut (k + 1) s place s₂ r
unfolding persons_before
groups_more {ride} {charge} {cut} {k} groups few is here =
    record {
      wrote =
          rw (add-one k)
          (persons_wrote (persons_before ride charge k) _ (persons_before ride cut k) _ (before_length ride cut k few ∙ sym (before_length ride charge k few))
          groups.wrote (rw is at here));
    }

-- Both are the party's persons.
pub groups_all :
    {ride : Ride} {charge : Bool → ℕ → ℕ} {cut : Bool → ℕ → Cut} {k : ℕ} {s : List ℕ} {place : ℕ} {s' : List ℕ} {next : ℕ}
    → GroupsWrote ride charge cut k s place s' next → k ≡ 2
    → Wrote (charge_bytes (each_person ride.party charge) (each_person ride.party cut)) s place s' next
unfolding persons_before group_of each_person
groups_all groups both = rw both at groups.wrote

-- Among the charges of a part with the same party a group's stand where the group does among the persons.
group_charges :
    (tariff : List ℕ) (counts : Counts) (w : List ℕ) (ride before : Ride) → before.party ≡ ride.party → (k i : ℕ) → i < (group_of ride k).count
    → get_or (charges_of tariff counts w before) (group_from ride k + i) 0
    ≡ rider_charge tariff counts w before (group_of ride k).child ((group_of ride k).first + i)
unfolding group_of group_from
group_charges tariff counts w ride before party zero i h =
    rw (zero-add i) (adult_stands tariff counts w before i (rw party h))
group_charges tariff counts w ride before party (suc k) i h =
    let same : 1 + ride.party.adults ≡ 1 + before.party.adults = rw party refl in
    rw same (child_stands tariff counts w before i (rw party h))

-- what a rider of a group paid for an earlier part stands in that part's record, as far before the rider's own place as a record is long
group_paid :
    (tariff : List ℕ) (counts : Counts) (book : List ℕ) (window : Window) (ride : Ride) (earlier : Earlier) {bytes s s' : List ℕ} {place next : ℕ}
    → window.opening.0 < 2 ^ 32 → EarlierRight tariff counts book window.current ride earlier
    → EarlierStands tariff counts book window ride earlier s place → Wrote bytes s place s' next → (k : ℕ)
    → next ≡ place + head_size + person_size * group_from ride k → group_from ride k + (group_of ride k).count ≤ persons_of ride.party
    → PaidStands tariff counts (in_window window.current book) ride (group_of ride k) earlier s' next
group_paid tariff counts book window ride Nothing fits right stands wrote k is few = tt
group_paid tariff counts book window ride (Part before) {s = s} {s'} {place} {next} fits right stands wrote k is few =
    let size = record_size ride.party in
    let from = group_from ride k in
    let back = stands.0 in (
      omega arith,
      λ i h.
          let at : next + person_size * i - size ≡ place - size + head_size + person_size * (from + i) = omega arith in
          let there : from + i < persons_of before.party = rw right.party (omega arith) in
          read_before wrote 4 (next + person_size * i - size) (omega arith)
          ∙ ap (get_le 4 s) at
          ∙ person_is _ s (place - size) stands.1 (can_record window right.rideable fits) (from + i) there
          ∙ group_charges tariff counts (in_window window.current book) ride before right.party k i h,
    )

-- a group's place among the persons
group_inside : (ride : Ride) (k : ℕ) → group_from ride k + (group_of ride k).count ≤ persons_of ride.party
unfolding group_of group_from
group_inside ride zero = omega arith
group_inside ride (suc k) = omega arith

module _ {tariff : List ℕ} {counts : Counts} {book : List ℕ} {window : Window} {ride : Ride} {earlier : Earlier} {s : List ℕ} {place : ℕ}
    (ok : Stateable tariff counts book window ride earlier s place) {s₁ : List ℕ} {first : ℕ}
    (head : Wrote (head_of window.opening.0 ride) s place s₁ first) {charge : Bool → ℕ → ℕ} {cut : Bool → ℕ → Cut} {k : ℕ} {s₂ : List ℕ} {next : ℕ}
    (groups : GroupsWrote ride charge cut k s₁ first s₂ next) where
  -- Behind the head and the groups before it, a group can be stated.
  pub group_stateable :
      {riders : Riders} → window.opening.0 < 2 ^ 32 → k < 2 → riders ≡ group_of ride k
      → RidersStateable tariff counts book window.current ride riders earlier s₂ next
  group_stateable fits few is =
      let r = ok.ridden.rideable in
      let charges = before_length ride charge k few in
      let cuts = before_length ride cut k few in
      let inside = group_inside ride k in
      let wrote = behind_wrote head groups.wrote in
      let at : next ≡ place + head_size + person_size * group_from ride k =
      omega (
        arith,
        groups.wrote.next,
        head.next,
        length_head window.opening.0 ride,
        length_charges (persons_before ride charge k) (persons_before ride cut k) (omega arith),
      )
      in
      rw is
      (record {
        ridden = ok.ridden;
        of_party = group-of ride r.adults r.children k;
        room = omega (arith, ok.room, length_wrote wrote);
        paid = group_paid tariff counts book window ride earlier fits ok.ridden.before ok.stands wrote k at inside;
      })

  -- Behind the head and both groups the bicycles have room.
  pub bicycles_room : k ≡ 2 → next + charge_size * ride.party.bicycles ≤ length s₂
  bicycles_room both =
      let persons = groups_all groups both in
      let charges = persons_length ride.party charge in
      let cuts = persons_length ride.party cut in
      omega (
        arith,
        persons.next,
        head.next,
        length_head window.opening.0 ride,
        length_charges (each_person ride.party charge) (each_person ride.party cut) (omega arith),
        length_wrote (behind_wrote head persons),
        ok.room,
      )

-- The head, both groups and the bicycles are the ride's record.
pub ride_wrote :
    (tariff : List ℕ) (counts : Counts) (book : List ℕ) (window : Window) (ride : Ride) (earlier : Earlier) {s s₁ s₂ s₃ : List ℕ} {place first next r : ℕ}
    → let words = words_after tariff counts (in_window window.current book) earlier in
    Wrote (head_of window.opening.0 ride) s place s₁ first
    → Wrote
    (charge_bytes (each_person ride.party (rider_charge tariff counts words ride)) (each_person ride.party (rider_cut tariff counts words ride))) s₁ first
    s₂ next → BicyclesWritten tariff counts book window.current ride earlier s₂ next s₃ r → RideWritten tariff counts book window ride earlier s place s₃ r
unfolding charges_of cuts_of
ride_wrote tariff counts book window ride earlier head persons bicycles =
    let words = words_after tariff counts (in_window window.current book) earlier in
    record_wrote window.opening.0 ride (each_person ride.party (rider_charge tariff counts words ride))
    (in_turn (bicycle_of tariff counts words ride) 0 ride.party.bicycles) (each_person ride.party (rider_cut tariff counts words ride))
    (persons_length ride.party (rider_cut tariff counts words ride) ∙ sym (persons_length ride.party (rider_charge tariff counts words ride))) head
    persons bicycles
