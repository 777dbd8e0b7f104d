-- docs/RULES.md, R17.13: what a bicycle was charged per trip in each window of a run, read off the parts that the trips were charged in.
use Rattle.std.specs.Prelude.{ℕ, ◌+◌, ◌≡◌, List, [], ◌∷◌, cond, leb, ltb}
use Rattle.units.specs.Day.{day_minutes}
use Rattle.layout.specs.declared.Counts.{Counts}
use Rattle.editions.specs.declared.Editions.{Editions}
use Rattle.areas.specs.Areas.{is_aachen}
use Rattle.trip.specs.Moments.{checkin_of, checkout_of}
use Rattle.ledger.specs.Words.{fresh_book, cover_word, paid_word}
use Rattle.cycles.specs.Bicycles.{new_cover}
use Rattle.statement.specs.Record.{Part}
use Rattle.settle.specs.Outcome.{Outcome, refused, accepted}
use Rattle.settle.specs.Runs.{Settlement}
use Rattle.settle.specs.Steps.{Step, steps_from}
use Rattle.promises.specs.Books.{bicycle_charge_of}
use Rattle.promises.specs.Runs.{tariff_at, counts_at}

-- a bicycle in a window: its word, 0 if unused, else 1 + its covering area; and what it was charged under areas of kind 8, the latest first
pub record Cycled : Type 0 where
  pub cover : ℕ
  pub charged : List ℕ

abbrev pub unused : Cycled
unused = record { cover = 0; charged = [] }

-- with a part that it is on: its new covering area, and its charge where that is of kind 8
abbrev pub cycled_on : List ℕ → Counts → ℕ → Part → Cycled → Cycled
cycled_on tariff counts k part before =
    let new = new_cover tariff counts part.ride.area before.cover in
    record {
      cover = 1 + new;
      charged = cond (is_aachen tariff new) (bicycle_charge_of part.ride part.charges k ∷ before.charged) before.charged;
    }

-- with some parts
unfoldable pub cycled_with : List ℕ → Counts → ℕ → List Part → Cycled → Cycled
cycled_with tariff counts k [] before = before
cycled_with tariff counts k (part ∷ parts) before =
    cycled_with tariff counts k parts (cond (ltb k part.ride.party.bicycles) (cycled_on tariff counts k part before) before)

-- a window: its opening minute, and the bicycle in it
pub record BicycleWindow : Type 0 where
  pub opening : ℕ
  pub cycled : Cycled

abbrev pub cycled_in : List ℕ → Editions → ℕ → List Part → BicycleWindow → BicycleWindow
cycled_in file editions k parts window =
    record {
      opening = window.opening;
      cycled = cycled_with (tariff_at file editions window.opening) (counts_at editions window.opening) k parts window.cycled;
    }

-- the windows so far, the open one first, with an accepted trip: as for a rider (Runs: windows_with)
unfoldable pub cycles_with : List ℕ → Editions → ℕ → List ℕ → List Part → List BicycleWindow → List BicycleWindow
cycles_with file editions k bytes parts [] = cycled_in file editions k parts (record { opening = checkin_of bytes; cycled = unused }) ∷ []
cycles_with file editions k bytes parts (latest ∷ earlier) =
    cond (leb (checkout_of bytes) (latest.opening + day_minutes)) (cycled_in file editions k parts latest ∷ earlier)
    (cycled_in file editions k parts (record { opening = checkin_of bytes; cycled = unused }) ∷ latest ∷ earlier)

unfoldable pub cycles_after : List ℕ → Editions → ℕ → List ℕ → Outcome → List BicycleWindow → List BicycleWindow
cycles_after file editions k bytes (refused number place) windows = windows
cycles_after file editions k bytes (accepted new parts) windows = cycles_with file editions k bytes parts windows

unfoldable pub cycles_over : List ℕ → Editions → ℕ → List Settlement → List BicycleWindow → List BicycleWindow
cycles_over file editions k [] windows = windows
cycles_over file editions k (s ∷ more) windows = cycles_over file editions k more (cycles_after file editions k s.offer.bytes s.outcome windows)

-- those of a run from a fresh book, the latest first
abbrev pub cycles_of : List ℕ → Editions → ℕ → List Step → List BicycleWindow
cycles_of file editions k run = cycles_over file editions k (steps_from file fresh_book run) []

-- the total of some charges
unfoldable pub total_of : List ℕ → ℕ
total_of [] = 0
total_of (charge ∷ more) = charge + total_of more

-- a book's words for the bicycle are those of a window: its covering area, and as payments the total of the window's charges
pub record WordsAre (k : ℕ) (book : List ℕ) (cycled : Cycled) : Type 0 where
  pub cover : cover_word book k ≡ cycled.cover
  pub payments : paid_word book k ≡ total_of cycled.charged
