-- What the functions ask of their callers and promise them beside the definitions. A reader of the rules needs none of it.
use Rattle.std.specs.Prelude.{ℕ, zero, suc, ◌+◌, ◌*◌, ◌≤◌, ◌<◌, ◌≡◌, List, [], ◌∷◌, cond, length, eqb}
use Rattle.units.specs.declared.Minutes.{Minutes}
use Rattle.units.specs.Price.{most_price}
use Rattle.wire.specs.Number.{get_le}
use Rattle.layout.specs.declared.Counts.{Counts}
use Rattle.layout.specs.Rules.{level_of}
use Rattle.layout.specs.Scan.{Read}
use Rattle.areas.specs.Areas.{parent_of}
use Rattle.statement.specs.Record.{Part, person_size, Recordable}
use Rattle.statement.specs.Reading.{size_in}
use Rattle.statement.specs.Clauses.{StandsAt}
use Rattle.ledger.specs.declared.Window.{Window}
use Rattle.ledger.specs.Words.{book_size, fresh_book, trips_of, second_sum, all_sum, cover_word, paid_word}
use Rattle.ledger.specs.Sound.{most_paid}
use Rattle.ledger.specs.Windows.{in_window}
use Rattle.charging.specs.Charging.{charges_of}
use Rattle.charging.specs.After.{add_here, add_list, posted}
use Rattle.charging.specs.Clauses.{Rideable}
use Rattle.posting.specs.declared.Way.{Way}

-- a book without trips is a fresh one
abbrev pub FreshOrUsed : List ℕ → Type 0
FreshOrUsed book = trips_of book ≡ 0 → book ≡ fresh_book

-- a rider's sums in an area have room for one charge more
abbrev pub RoomHere : List ℕ → ℕ → ℕ → Type 0
RoomHere book rider area = (second_sum book rider area ≤ all_sum book rider area) × (all_sum book rider area ≤ 255 * most_price)

-- and so have those in every area
abbrev pub Room : List ℕ → ℕ → Type 0
Room book rider = (area : ℕ) → area < 32 → RoomHere book rider area

-- what adding a charge in one area asks
pub record AddingHere (book : List ℕ) (rider at amount : ℕ) : Type 0 where
  pub size : length book ≡ book_size
  pub known : rider < 21
  pub area : at < 32
  pub range : amount ≤ most_price
  pub room : RoomHere book rider at

-- a ride's area, the one above it and the state
abbrev pub way_of : List ℕ → Counts → ℕ → Way
way_of tariff counts area = record { own = area; above = parent_of tariff area; top = 0; level = level_of tariff area }

-- each has its words in the book, and as far as the level says they are different ones
pub record Apart (way : Way) : Type 0 where
  pub own : way.own < 32
  pub above : way.above < 32
  pub top : way.top < 32
  pub above_own : 0 < way.level → way.own ≡ way.above → ⊥
  pub top_own : 1 < way.level → way.own ≡ way.top → ⊥
  pub top_above : 1 < way.level → way.above ≡ way.top → ⊥

pub record WayOf (tariff : List ℕ) (counts : Counts) (area : ℕ) (r : Way) : Type 0 where
  pub value : r ≡ way_of tariff counts area
  pub apart : Apart r

-- what adding a charge along a way asks
pub record AddingUp (book : List ℕ) (rider : ℕ) (way : Way) (amount : ℕ) : Type 0 where
  pub size : length book ≡ book_size
  pub known : rider < 21
  pub range : amount ≤ most_price
  pub room : Room book rider
  pub apart : Apart way

-- a charge added in an area, and in as many above it as the level says. For the way of an area this is the tree's (PostTurns: along-up)
unfoldable pub add_along : List ℕ → ℕ → ℕ → Way → ℕ → List ℕ
add_along book rider class way amount =
    let low = add_here book rider class way.own amount in
    let middle = add_here low rider class way.above amount in
    cond (eqb way.level 0) low (cond (eqb way.level 1) middle (add_here middle rider class way.top amount))

-- the charges of so many persons, whose bytes stand one behind the other from a place of a statement on
unfoldable pub charges_from : List ℕ → ℕ → ℕ → List ℕ
charges_from statement place zero = []
charges_from statement place (suc count) = get_le 4 statement place ∷ charges_from statement (place + person_size) count

-- what adding riders' charges asks: they stand there, each is in its range, and each rider has room
pub record Adding (tariff : List ℕ) (counts : Counts) (book : List ℕ) (at first count : ℕ) (statement : List ℕ) (place : ℕ) : Type 0 where
  pub size : length book ≡ book_size
  pub read : Read tariff counts
  pub area : at < counts.areas
  pub known : first + count ≤ 21
  pub there : place + person_size * count ≤ length statement
  pub room : (i : ℕ) → i < count → Room book (first + i)
  pub range : (i : ℕ) → i < count → get_le 4 statement (place + person_size * i) ≤ most_price

-- they are added; the answer is the place behind the last
pub record RidersPosted (tariff : List ℕ) (counts : Counts) (book : List ℕ) (class area first count : ℕ)
    (statement : List ℕ) (place : ℕ) (book' : List ℕ) (r : ℕ) : Type 0 where
  pub next : r ≡ place + person_size * count
  pub book_is : book' ≡ add_list tariff counts class area first count (charges_from statement place count) 0 book

-- what covering bicycles asks: their old covering areas are the tariff's, and their payments in range
pub record Covering (tariff : List ℕ) (counts : Counts) (book : List ℕ) (at count : ℕ) : Type 0 where
  pub size : length book ≡ book_size
  pub read : Read tariff counts
  pub area : at < counts.areas
  pub few : count ≤ 10
  pub covers : (i : ℕ) → i < count → cover_word book i ≤ counts.areas
  pub payments : (i : ℕ) → i < count → paid_word book i ≤ most_paid

-- what posting a part asks: its ride is one that the book has room for, in its window; its charges are those that the ride comes to; and its
-- record stands at a place of the statement
pub record Postable (tariff : List ℕ) (counts : Counts) (book : List ℕ) (window : Window) (class : ℕ)
    (part : Part) (statement : List ℕ) (place : ℕ) : Type 0 where
  pub rideable : Rideable tariff counts book window.current part.ride
  pub class_is : part.ride.class ≡ class
  pub trips : window.trips ≡ cond window.current (trips_of book) 0
  pub few : window.trips ≤ 255
  pub charged : part.charges ≡ charges_of tariff counts (in_window window.current book) part.ride
  pub recordable : Recordable part
  pub stands : StandsAt part statement place

-- the record at a place is that of such a part
pub record PostableAt (tariff : List ℕ) (counts : Counts) (book : List ℕ) (window : Window) (class : ℕ) (statement : List ℕ) (place : ℕ) : Type 0 where
  pub part : Part
  pub postable : Postable tariff counts book window class part statement place

-- whatever part it is, the book is what the part's ride leaves; the answer is the place behind the record
pub record PostedAt (tariff : List ℕ) (counts : Counts) (book : List ℕ) (window : Window)
    (checkout : Minutes) (class : ℕ) (statement : List ℕ) (place : ℕ) (book' : List ℕ) (r : ℕ) : Type 0 where
  pub next : r ≡ place + size_in statement place
  pub book_is :
      (part : Part) → Postable tariff counts book window class part statement place → book' ≡ posted tariff counts book window checkout.0 part.ride
