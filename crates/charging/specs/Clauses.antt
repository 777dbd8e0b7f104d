-- What the functions ask of their callers and promise them beside the definitions. A reader of the rules needs none of it.
use Rattle.std.specs.Prelude.{ℕ, ◌+◌, ◌-◌, ◌*◌, ◌^◌, ◌≤◌, ◌<◌, ◌≡◌, List, [], Bool, true, false, cond, length}
use Rattle.units.specs.Day.{day_minutes}
use Rattle.units.specs.Price.{most_price}
use Rattle.caps.specs.declared.Rest.{Rest}
use Rattle.caps.specs.declared.Cut.{Cut}
use Rattle.caps.specs.Clauses.{rest_here, uncapped_at, name_of}
use Rattle.wire.specs.Number.{get_le}
use Rattle.layout.specs.declared.Counts.{Counts}
use Rattle.layout.specs.Scan.{Read}
use Rattle.areas.specs.Areas.{area_at, parent_of, lies_within}
use Rattle.trip.specs.declared.Party.{Party}
use Rattle.trip.specs.declared.Ride.{Ride}
use Rattle.trip.specs.declared.Earlier.{Earlier}
use Rattle.trip.specs.declared.Earlier.TheVariants.{Nothing, Part}
use Rattle.units.specs.Plane.{most_km}
use Rattle.statement.specs.Record as said
use Rattle.statement.specs.Record.{person_size, persons_of, record_size, charge_bytes, record_of}
use Rattle.statement.specs.Clauses.{Wrote, StandsAt}
use Rattle.ledger.specs.declared.Window.{Window}
use Rattle.ledger.specs.Words.{trips_of, second_sum, all_sum}
use Rattle.ledger.specs.Sound.{covers_sound, sound_alone}
use Rattle.ledger.specs.Windows.{in_window}
use Rattle.charging.specs.declared.Riders.{Riders}
use Rattle.charging.specs.declared.Person.{Person}
use Rattle.charging.specs.declared.limits.Link.{Link}
use Rattle.charging.specs.declared.limits.Chain.{Chain}
use Rattle.charging.specs.Caps.{caps_here}
use Rattle.charging.specs.Charging.{is_child, carries, rider_charge, bicycle_of, in_turn, charges_of}
use Rattle.charging.specs.Cuts.{rider_cut, cuts_of}
use Rattle.charging.specs.After.{words_after}

-- a ride of a faultless tariff, with its party in the ranges of 6, and a book that is sound by itself. In the open window its bicycle words are
-- within the tariff's areas; in the next they do not count, and the old window may have been another edition's
pub record Rideable (tariff : List ℕ) (counts : Counts) (book : List ℕ) (current : Bool) (ride : Ride) : Type 0 where
  pub read : Read tariff counts
  pub alone : sound_alone book ≡ true
  pub covers : current ≡ true → covers_sound book counts.areas ≡ true
  pub area : ride.area < counts.areas
  pub km : ride.km.0 ≤ most_km
  pub minutes : ride.minutes.0 ≤ day_minutes
  pub adults : ride.party.adults ≤ 10
  pub children : ride.party.children ≤ 10
  pub bicycles : ride.party.bicycles ≤ 10

-- a part that goes before a ride of the same trip, in its class and for its party; the window has room for it
pub record PartBefore (tariff : List ℕ) (counts : Counts) (book : List ℕ) (current : Bool) (ride before : Ride) : Type 0 where
  pub rideable : Rideable tariff counts book current before
  pub room : current ≡ true → trips_of book ≤ 255
  pub class : before.class ≡ ride.class
  pub party : before.party ≡ ride.party

-- what is asked of what goes before a ride
abbrev pub EarlierRight : List ℕ → Counts → List ℕ → Bool → Ride → Earlier → Type 0
EarlierRight tariff counts book current ride Nothing = Unit
EarlierRight tariff counts book current ride (Part before) = PartBefore tariff counts book current ride before

-- a ride with what goes before it
pub record Ridden (tariff : List ℕ) (counts : Counts) (book : List ℕ) (current : Bool) (ride : Ride) (earlier : Earlier) : Type 0 where
  pub rideable : Rideable tariff counts book current ride
  pub before : EarlierRight tariff counts book current ride earlier

-- an area's sums lack an earlier part's charges where the part's area lies within it
unfoldable pub pending_in : List ℕ → Counts → Earlier → ℕ → Bool
pending_in tariff counts Nothing area = false
pending_in tariff counts (Part before) area = lies_within tariff before.area area

-- an area of a chain, with its caps
abbrev pub link_with : List ℕ → Counts → ℕ → Bool → Bool → Link
link_with tariff counts area child pending = record { area = area; caps = caps_here (area_at tariff area) child; pending = pending }

abbrev pub link_of : List ℕ → Counts → ℕ → Bool → Earlier → Link
link_of tariff counts area child earlier = link_with tariff counts area child (pending_in tariff counts earlier area)

-- an area, the one above it and the one above that; the state is its own parent
abbrev pub chain_of : List ℕ → Counts → ℕ → Bool → Earlier → Chain
chain_of tariff counts area child earlier = record {
  own = link_of tariff counts area child earlier;
  above = link_of tariff counts (parent_of tariff area) child earlier;
  top = link_of tariff counts (parent_of tariff (parent_of tariff area)) child earlier;
}

-- each area of a chain has its words in the book
pub record Places (chain : Chain) : Type 0 where
  pub own : chain.own.area < 32
  pub above : chain.above.area < 32
  pub top : chain.top.area < 32

pub record ChainOf (tariff : List ℕ) (counts : Counts) (area : ℕ) (child : Bool) (earlier : Earlier) (r : Chain) : Type 0 where
  pub value : r ≡ chain_of tariff counts area child earlier
  pub places : Places r

-- what a rider's sums in an area of a chain lack, of what the rider paid for an earlier part
abbrev pub lacking_at : Link → ℕ → ℕ
lacking_at link paid = cond link.pending paid 0

-- a rider's sums with what they lack fit their words, in an area of a chain and in all three
pub record FitsAt (link : Link) (w : List ℕ) (rider paid : ℕ) : Type 0 where
  pub place : link.area < 32
  pub second : second_sum w rider link.area + lacking_at link paid < 2 ^ 32
  pub all : all_sum w rider link.area + lacking_at link paid < 2 ^ 32

pub record FitsAlong (chain : Chain) (w : List ℕ) (rider paid : ℕ) : Type 0 where
  pub own : FitsAt chain.own w rider paid
  pub above : FitsAt chain.above w rider paid
  pub top : FitsAt chain.top w rider paid

-- what the caps of one area of a chain leave a rider of a rest. What the sums lack is added to both: class 1 does not look at second-class
-- sums
abbrev pub rest_at_link : Link → List ℕ → ℕ → ℕ → ℕ → Rest → Rest
rest_at_link link w rider class paid rest =
    rest_here link.caps link.area class (second_sum w rider link.area + lacking_at link paid)
    (all_sum w rider link.area + lacking_at link paid) rest

-- the same of all three. For the chain of an area this is the charge in the tree, and the cap that is named there (ChargeLaws: charge-by,
-- name-by)
unfoldable pub rest_by : Chain → List ℕ → ℕ → ℕ → ℕ → ℕ → Rest
rest_by chain w rider class paid price =
    rest_at_link chain.top w rider class paid
    (rest_at_link chain.above w rider class paid (rest_at_link chain.own w rider class paid (uncapped_at price)))

pub record ChargeBy (chain : Chain) (w : List ℕ) (rider class paid price : ℕ) (r : Rest) : Type 0 where
  pub value : r ≡ rest_by chain w rider class paid price
  pub range : r.amount.0 ≤ price

-- what was taken off a price, and by which cap
abbrev pub cut_by : ℕ → Rest → Cut
cut_by price rest =
    let name = name_of price rest in
    record { reduction = record { 0 = price - rest.amount.0 }; area = name.area; class = name.class }

-- a cut is at most a price; an area's number is a byte, and so is a class
pub record CutRange (cut : Cut) : Type 0 where
  pub reduction : cut.reduction.0 ≤ most_price
  pub area : cut.area ≤ 255
  pub class : cut.class ≤ 2

-- what a rider is charged by a chain, and what was taken off
unfoldable pub person_by : Chain → List ℕ → ℕ → ℕ → ℕ → ℕ → Person
person_by chain w rider class paid price =
    let rest = rest_by chain w rider class paid price in
    record { amount = rest.amount; cut = cut_by price rest }

-- ---- Stating.

-- a ride charged beside the book, with what goes before it in its trip
abbrev pub part_after : List ℕ → Counts → List ℕ → Window → Earlier → Ride → said.Part
part_after tariff counts book window earlier ride =
    let words = words_after tariff counts (in_window window.current book) earlier in
    record {
      opening = window.opening.0;
      ride = ride;
      charges = charges_of tariff counts words ride;
      cuts = cuts_of tariff counts words ride;
    }

-- where a part is earlier, its record stands right before a place. Both have the same party, so their records are of one size
abbrev pub EarlierStands : List ℕ → Counts → List ℕ → Window → Ride → Earlier → List ℕ → ℕ → Type 0
EarlierStands tariff counts book window ride Nothing statement place = Unit
EarlierStands tariff counts book window ride (Part before) statement place =
    (record_size ride.party ≤ place)
    × StandsAt (part_after tariff counts book window Nothing before) statement (place - record_size ride.party)

-- what stating a ride asks: it can be charged, the statement has room for its record at a place, and an earlier part's stands right before it
pub record Stateable (tariff : List ℕ) (counts : Counts) (book : List ℕ) (window : Window) (ride : Ride) (earlier : Earlier)
    (statement : List ℕ) (place : ℕ) : Type 0 where
  pub ridden : Ridden tariff counts book window.current ride earlier
  pub room : place + record_size ride.party ≤ length statement
  pub stands : EarlierStands tariff counts book window ride earlier statement place

-- its record is written there
abbrev pub RideWritten : List ℕ → Counts → List ℕ → Window → Ride → Earlier → List ℕ → ℕ → List ℕ → ℕ → Type 0
RideWritten tariff counts book window ride earlier statement place statement' r =
    Wrote (record_of (part_after tariff counts book window earlier ride)) statement place statement' r

-- the charges of riders, and what was taken off them
abbrev pub riders_charges : List ℕ → Counts → List ℕ → Ride → Riders → List ℕ
riders_charges tariff counts w ride riders = in_turn (rider_charge tariff counts w ride riders.child) riders.first riders.count

abbrev pub riders_cuts : List ℕ → Counts → List ℕ → Ride → Riders → List Cut
riders_cuts tariff counts w ride riders = in_turn (rider_cut tariff counts w ride riders.child) riders.first riders.count

-- what a rider paid for an earlier part
unfoldable pub paid_earlier : List ℕ → Counts → List ℕ → Earlier → Bool → ℕ → ℕ
paid_earlier tariff counts w Nothing child rider = 0
paid_earlier tariff counts w (Part before) child rider = rider_charge tariff counts w before child rider

-- the number that tells it: it stands as far before the rider's own charge as a record is long
abbrev pub paid_in : Earlier → List ℕ → ℕ → ℕ → ℕ
paid_in Nothing statement place size = 0
paid_in (Part before) statement place size = get_le 4 statement (place - size)

-- and that it is there
abbrev pub PaidThere : Earlier → List ℕ → ℕ → ℕ → Type 0
PaidThere Nothing statement place size = Unit
PaidThere (Part before) statement place size = (size ≤ place) × (place - size + 4 ≤ length statement)

-- what riders paid for an earlier part stands before the place of the first of them
abbrev pub PaidStands : List ℕ → Counts → List ℕ → Ride → Riders → Earlier → List ℕ → ℕ → Type 0
PaidStands tariff counts w ride riders Nothing statement place = Unit
PaidStands tariff counts w ride riders (Part before) statement place =
    (record_size ride.party ≤ place)
    × ((i : ℕ) → i < riders.count
    → get_le 4 statement (place + person_size * i - record_size ride.party) ≡ rider_charge tariff counts w before riders.child (riders.first + i))

-- riders of a party, all adults or all children
pub record RidersOf (party : Party) (riders : Riders) : Type 0 where
  pub known : riders.first + riders.count ≤ 21
  pub few : riders.count ≤ persons_of party
  pub carried : (i : ℕ) → i < riders.count → carries party (riders.first + i) ≡ true
  pub alike : (i : ℕ) → i < riders.count → is_child (riders.first + i) ≡ riders.child

-- what stating riders asks
pub record RidersStateable (tariff : List ℕ) (counts : Counts) (book : List ℕ) (current : Bool) (ride : Ride) (riders : Riders) (earlier : Earlier)
    (statement : List ℕ) (place : ℕ) : Type 0 where
  pub ridden : Ridden tariff counts book current ride earlier
  pub of_party : RidersOf ride.party riders
  pub room : place + person_size * riders.count ≤ length statement
  pub paid : PaidStands tariff counts (in_window current book) ride riders earlier statement place

-- their charges are written there, on what the earlier part leaves, each with its cut
abbrev pub RidersWritten : List ℕ → Counts → List ℕ → Bool → Ride → Riders → Earlier → List ℕ → ℕ → List ℕ → ℕ → Type 0
RidersWritten tariff counts book current ride riders earlier statement place statement' r =
    let words = words_after tariff counts (in_window current book) earlier in
    Wrote (charge_bytes (riders_charges tariff counts words ride riders) (riders_cuts tariff counts words ride riders)) statement place statement' r

-- those of the bicycles, without
abbrev pub BicyclesWritten : List ℕ → Counts → List ℕ → Bool → Ride → Earlier → List ℕ → ℕ → List ℕ → ℕ → Type 0
BicyclesWritten tariff counts book current ride earlier statement place statement' r =
    let words = words_after tariff counts (in_window current book) earlier in
    Wrote (charge_bytes (in_turn (bicycle_of tariff counts words ride) 0 ride.party.bicycles) []) statement place statement' r
