-- docs/RULES.md, sections 9 to 12: what an accepted trip leaves in the book, word by word.
use Rattle.std.specs.Prelude.{ℕ, ◌+◌, ◌≤◌, ◌<◌, ◌≡◌, List, [], ◌∷◌, true, length, get_or}
use Rattle.wire.specs.Number.{Bytes}
use Rattle.layout.specs.declared.Counts.{Counts}
use Rattle.areas.specs.Areas.{lies_within, is_aachen}
use Rattle.trip.specs.declared.Ride.{Ride}
use Rattle.ledger.specs.declared.Window.{Window}
use Rattle.ledger.specs.Words.{book_size, trips_of, opening_of, last_out_of, edition_of, second_sum, all_sum, cover_word, paid_word}
use Rattle.ledger.specs.Windows.{in_window}
use Rattle.charging.specs.Charging.{carries, place_of}
use Rattle.charging.specs.InWords.{ChargeSays}
use Rattle.cycles.specs.InWords.{CoverSays, BicycleSays}
use Rattle.statement.specs.Record.{Part}
use Rattle.settle.specs.Outcome.{one_more}

-- a ride counts in a rider's sums of an area: the rider is on the trip, and the ride's area is that area or lies within it
pub record CountsIn (tariff : List ℕ) (counts : Counts) (ride : Ride) (rider area : ℕ) : Type 0 where
  pub on_trip : carries ride.party rider ≡ true
  pub inside : lies_within tariff ride.area area ≡ true

-- a sum takes an amount where something holds, and stays elsewhere
pub record Takes (here : Type 0) (amount old new : ℕ) : Type 0 where
  pub grows : here → new ≡ old + amount
  pub stays : (here → ⊥) → new ≡ old

-- a rider's own charge among a party's
abbrev pub charge_of : Ride → List ℕ → ℕ → ℕ
charge_of ride charges rider = get_or charges (place_of ride.party rider) 0

-- and a bicycle's, behind the riders'
abbrev pub bicycle_charge_of : Ride → List ℕ → ℕ → ℕ
bicycle_charge_of ride charges k = get_or charges (1 + ride.party.adults + ride.party.children + k) 0

-- a bicycle's words after a ride that it is on: its new covering area, and, where that is of kind 8, its payments with its charge
pub record BicycleTakes (tariff : List ℕ) (counts : Counts) (area charge old paid cover' paid' : ℕ) : Type 0 where
  pub new : ℕ
  pub cover_is : cover' ≡ 1 + new
  pub covers : CoverSays tariff counts area old new
  pub payments : Takes (is_aachen tariff new ≡ true) charge paid paid'

-- the book after a ride charged in a window. w stands for the words that count: the book's own in the open window, a fresh book's, which
-- are all 0, in the next. Word 0: trips in the window with this one; 1: opening minute; 2: last check-out; the last: its edition. The rider's
-- own charge is added to the all-classes sums, and in class 2 to the second-class sums, of the ride's area and of every area that it lies
-- within. A bicycle on the trip has its new covering area, and its payments per trip with its own charge. Every other word is as it was
pub record BookSays (tariff : List ℕ) (counts : Counts) (w : List ℕ) (window : Window) (checkout : ℕ) (ride : Ride) (charges new : List ℕ) : Type 0 where
  pub size : length new ≡ book_size
  pub bytes : Bytes w → Bytes new
  pub trips : trips_of new ≡ window.trips + 1
  pub opening : opening_of new ≡ window.opening.0
  pub last_out : last_out_of new ≡ checkout
  pub edition : edition_of new ≡ window.edition
  pub charged : (rider : ℕ) → carries ride.party rider ≡ true → ChargeSays tariff counts w ride rider (charge_of ride charges rider)
  pub bicycles_charged :
      (k : ℕ) → k < ride.party.bicycles → BicycleSays tariff counts ride.area (cover_word w k) (paid_word w k) (bicycle_charge_of ride charges k)
  pub all_classes :
      (rider area : ℕ) → rider < 21 → area < 32
      → Takes (CountsIn tariff counts ride rider area) (charge_of ride charges rider) (all_sum w rider area) (all_sum new rider area)
  pub second_class :
      (rider area : ℕ) → rider < 21 → area < 32
      → Takes ((ride.class ≡ 2) × CountsIn tariff counts ride rider area) (charge_of ride charges rider) (second_sum w rider area)
      (second_sum new rider area)
  pub covered :
      (k : ℕ) → k < ride.party.bicycles
      → BicycleTakes tariff counts ride.area (bicycle_charge_of ride charges k) (cover_word w k) (paid_word w k) (cover_word new k) (paid_word new k)
  pub uncovered : (k : ℕ) → ride.party.bicycles ≤ k → k < 10 → (cover_word new k ≡ cover_word w k) × (paid_word new k ≡ paid_word w k)

-- the book after the parts of a trip, one after another in one window: each finds the book that those before it left
pub data BooksSay (tariff : List ℕ) (counts : Counts) (checkout : ℕ) : List ℕ → Window → List Part → List ℕ → Type 0 where
  none : {book : List ℕ} {window : Window} → BooksSay tariff counts checkout book window [] book
  more :
      {book between new : List ℕ} {window : Window} {part : Part} {parts : List Part}
      → BookSays tariff counts (in_window window.current book) window checkout part.ride part.charges between
      → BooksSay tariff counts checkout between (one_more window) parts new → BooksSay tariff counts checkout book window (part ∷ parts) new
