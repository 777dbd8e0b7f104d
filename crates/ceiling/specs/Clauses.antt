-- What the functions of a ceiling ask and answer.
use Rattle.std.specs.Prelude.{ℕ, ◌+◌, ◌≤◌, ◌<◌, ◌≡◌, List, ◌++◌, true, length, drop}
use Rattle.wire.specs.Number.{bytes_of}
use Rattle.editions.specs.declared.Editions.{Editions}
use Rattle.trip.specs.Record.{trip_size}
use Rattle.trip.specs.Trips.{stamps_right}
use Rattle.settle.specs.declared.Answer.{Answer}
use Rattle.settle.specs.Outcome.{Outcome, answer_of, book_after, statement_after, settled_under}
use Rattle.settle.specs.Clauses.{Told}
use Rattle.ceiling.specs.Ceiling.{
  most_collected,
  month_of,
  kept_size,
  kept_amount,
  kept_as,
  collected_in,
  due_of,
  room_for,
  settled_month,
  kept_after,
  due_after,
}

-- not 24
pub record Collectable (ceiling : ℕ) (kept : List ℕ) : Type 0 where
  pub size : length kept ≡ kept_size
  pub ceiling_most : ceiling ≤ most_collected
  pub amount_most : kept_amount kept ≤ most_collected

-- what `month_of` asks of a trip, and an accepted one has: it is long enough for two stamps, and these are right
pub record Stamped (trip : List ℕ) : Type 0 where
  pub long : trip_size 0 ≤ length trip
  pub stamps : stamps_right trip ≡ true

pub record MonthIs (minute r : ℕ) : Type 0 where
  pub value : r ≡ month_of minute
  pub range : r < 1200

pub record AmountIs (kept : List ℕ) (month r : ℕ) : Type 0 where
  pub value : r ≡ collected_in kept month
  pub range : r ≤ most_collected

pub record RoomIs (room due r : ℕ) : Type 0 where
  pub value : r ≡ room_for room due
  pub range : r ≤ room

-- charges of a month collected under a ceiling
pub record Collected (ceiling : ℕ) (kept : List ℕ) (month charged : ℕ) (due kept' due' : List ℕ) : Type 0 where
  pub kept_is : kept' ≡ kept_as month (collected_in kept month + due_of ceiling (collected_in kept month) charged)
  pub due_is : due' ≡ bytes_of 4 (due_of ceiling (collected_in kept month) charged) ++ drop 4 due

-- the answer and every byte of the four slices are the outcome's
pub record MonthTold (outcome : Outcome) (ceiling : ℕ) (trip kept kept' book book' statement statement' due due' : List ℕ) (r : Answer) : Type 0 where
  pub told : Told outcome book book' statement statement' r
  pub kept_is : kept' ≡ kept_after ceiling trip outcome kept
  pub due_is : due' ≡ due_after ceiling trip outcome kept due

-- `settle_within`
abbrev pub WithinSettled :
    ℕ → List ℕ → List ℕ → Editions → List ℕ → List ℕ → List ℕ → List ℕ → List ℕ → List ℕ → List ℕ → List ℕ → Answer → Type 0
WithinSettled ceiling kept file editions book trip statement due kept' book' statement' due' r =
    MonthTold (settled_under file editions book trip (room_for (length statement) (length due))) ceiling trip kept kept' book book' statement statement'
    due due' r

-- `settle_month`
abbrev pub TripInMonth : ℕ → List ℕ → List ℕ → List ℕ → List ℕ → List ℕ → List ℕ → List ℕ → List ℕ → List ℕ → List ℕ → Answer → Type 0
TripInMonth ceiling kept file book trip statement due kept' book' statement' due' r =
    MonthTold (settled_month ceiling kept file book trip (length statement) (length due)) ceiling trip kept kept' book book' statement statement'
    due due' r

-- and so of the exported function, whose answer is one number
pub record MonthSettled (outcome : Outcome) (ceiling : ℕ) (trip kept kept' book book' statement statement' due due' : List ℕ) (r : ℕ) : Type 0 where
  pub answer : r ≡ answer_of outcome
  pub book_is : book' ≡ book_after outcome book
  pub statement_is : statement' ≡ statement_after outcome statement
  pub kept_is : kept' ≡ kept_after ceiling trip outcome kept
  pub due_is : due' ≡ due_after ceiling trip outcome kept due
