-- A monthly ceiling over calls: one after another on one book and one kept pair, each under a file and a ceiling of its own. Every beginning of a
-- run is a run.
use Rattle.std.specs.Prelude.{ℕ, ◌+◌, min, ◌≡◌, List, [], ◌∷◌, cond, eqb}
use Rattle.statement.specs.Record.{Part}
use Rattle.settle.specs.Outcome.{Outcome, accepted, parts_in, book_after}
use Rattle.ceiling.specs.Ceiling.{trip_month, kept_month, kept_amount, charged_in, settled_month, kept_after}

-- a trip offered under a ceiling, with so many bytes of room for its records and for what is due
pub record MonthCall : Type 0 where
  pub ceiling : ℕ
  pub file : List ℕ
  pub trip : List ℕ
  pub room : ℕ
  pub due : ℕ

-- ---- A call on what is kept and a book.

-- what it comes to
abbrev pub came_to : List ℕ → List ℕ → MonthCall → Outcome
came_to kept book call = settled_month call.ceiling kept call.file book call.trip call.room call.due

-- the pair and the book that it leaves: a refusal, 24 too, leaves both as they are
abbrev pub kept_by : List ℕ → List ℕ → MonthCall → List ℕ
kept_by kept book call = kept_after call.ceiling call.trip (came_to kept book call) kept

abbrev pub book_by : List ℕ → List ℕ → MonthCall → List ℕ
book_by kept book call = book_after (came_to kept book call) book

-- its trip is of a month, and is accepted
pub record AcceptedIn (month : ℕ) (kept book : List ℕ) (call : MonthCall) : Type 0 where
  pub new : List ℕ
  pub parts : List Part
  pub is : came_to kept book call ≡ accepted new parts
  pub of_month : trip_month call.trip ≡ month

-- what its charge records add to a month, by their own bytes: nothing where the trip is of another month, or is refused and has none
abbrev pub adds_to : ℕ → List ℕ → List ℕ → MonthCall → ℕ
adds_to month kept book call = cond (eqb (trip_month call.trip) month) (charged_in (parts_in (came_to kept book call))) 0

-- ---- Calls one after another.

-- the pair that they leave
unfoldable pub kept_from : List ℕ → List ℕ → List MonthCall → List ℕ
kept_from kept book [] = kept
kept_from kept book (call ∷ later) = kept_from (kept_by kept book call) (book_by kept book call) later

-- the charge records of a month, added up
unfoldable pub charged_over : ℕ → List ℕ → List ℕ → List MonthCall → ℕ
charged_over month kept book [] = 0
charged_over month kept book (call ∷ later) =
    adds_to month kept book call + charged_over month (kept_by kept book call) (book_by kept book call) later

-- one ceiling is held through a month: each of its trips that is accepted is offered under it
pub data OneCeiling (ceiling month : ℕ) : List ℕ → List ℕ → List MonthCall → Type 0 where
  no_call : {kept book : List ℕ} → OneCeiling ceiling month kept book []
  held :
      {kept book : List ℕ} {call : MonthCall} {later : List MonthCall} → (AcceptedIn month kept book call → call.ceiling ≡ ceiling)
      → OneCeiling ceiling month (kept_by kept book call) (book_by kept book call) later → OneCeiling ceiling month kept book (call ∷ later)

-- the last of them is an accepted trip of a month
pub data EndsIn (month : ℕ) : List ℕ → List ℕ → List MonthCall → Type 0 where
  last_call : {kept book : List ℕ} {call : MonthCall} → AcceptedIn month kept book call → EndsIn month kept book (call ∷ [])
  later_call :
      {kept book : List ℕ} {call : MonthCall} {later : List MonthCall} → EndsIn month (kept_by kept book call) (book_by kept book call) later
      → EndsIn month kept book (call ∷ later)

-- what is kept is a month, with the smaller of the ceiling and its charges
pub record Amount (ceiling month charged : ℕ) (kept : List ℕ) : Type 0 where
  pub of_month : kept_month kept ≡ month
  pub is : kept_amount kept ≡ min ceiling charged
