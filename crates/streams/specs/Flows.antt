-- What holds of a run's buffers from turn to turn, so that every turn has its room, and the run ends.
use Rattle.std.specs.Prelude.{ℕ, ◌+◌, ◌-◌, ◌*◌, ◌≤◌, ◌<◌, ◌≡◌, true, cond, List, [], ◌++◌, length, take, drop, ltb}
use Rattle.streams.specs.declared.flow.Flow.{Flow}
use Rattle.streams.specs.declared.flow.Flowed.{Flowed}
use Rattle.streams.specs.declared.flow.Flowed.TheVariants as flowed
use Rattle.streams.specs.declared.flow.Run.{Run}
use Rattle.streams.specs.declared.flow.Next.{Next}
use Rattle.streams.specs.declared.flow.Next.TheVariants.{On, Write, Last}
use Rattle.streams.specs.Runs.{Turns, State, asks, ends, turn_at, Goes}

-- the bytes that the input and the output have room for
abbrev pub input_size : ℕ
input_size = 8192

abbrev pub output_size : ℕ
output_size = 8192

-- the bytes not used yet stand in the input
pub record Inside (flow : Flow) : Type 0 where
  pub order : flow.from ≤ flow.to
  pub inside : flow.to ≤ input_size

-- and a turn has its room, behind so many bytes that were put and are not written yet
pub record InRange (room put : ℕ) (flow : Flow) : Type 0 where
  pub order : flow.from ≤ flow.to
  pub inside : flow.to ≤ input_size
  pub room_left : put + room ≤ output_size

-- ---- The steps of the loop.

-- the bytes that have come and are not used yet
abbrev pub unused : Flow → List ℕ → List ℕ
unused flow input = take (flow.to - flow.from) (drop flow.from input)

-- how far a run has come: all that the output holds is not written yet
abbrev pub state_of : {A : Type 0} → Flow → A → List ℕ → List ℕ → State A
state_of flow carried input out = record { kept = unused flow input; more = flow.more; held = out; carried = carried }

abbrev pub reached : {A : Type 0} → Run A → List ℕ → List ℕ → State A
reached run input out = state_of run.flow run.carried input out

-- the bytes that the input has room for, and its end: each read makes them fewer
abbrev pub unfilled : Flow → ℕ
unfilled flow = (input_size - (flow.to - flow.from)) + cond flow.more 1 0

-- what reading asks: more can come, and the input has room for it
pub record MoreToRead (input : List ℕ) (flow : Flow) : Type 0 where
  pub size : length input ≡ input_size
  pub range : Inside flow
  pub more : flow.more ≡ true
  pub room : flow.to < flow.from + input_size

-- bytes came behind those that were kept
pub record Fed (flow : Flow) (input : List ℕ) (next : Flow) (input' : List ℕ) : Type 0 where
  pub piece : List ℕ
  pub kept_is : unused next input' ≡ unused flow input ++ piece
  pub more_is : next.more ≡ ltb 0 (length piece)

abbrev pub CameMore : Flow → List ℕ → List ℕ → Flowed → Type 0
CameMore flow input input' (flowed.On next) = Inside next × ((unfilled next < unfilled flow) × Fed flow input next input')
CameMore flow input input' (flowed.Write next) = ⊥
CameMore flow input input' flowed.Stopped = Unit {0}

-- all that was put is held; or it is to be written, where something was put
abbrev pub Made : ℕ → ℕ → Flow → Flowed → Type 0
Made room put flow (flowed.On next) = InRange room put next × (next ≡ flow)
Made room put flow (flowed.Write next) = InRange room 0 next × ((0 < put) × ((put ≤ output_size) × (next ≡ flow)))
Made room put flow flowed.Stopped = ⊥

-- another turn, where there is one
abbrev pub went_on : {A : Type 0} → Flowed → A → Next A
went_on (flowed.On flow) carried = On (record { flow = flow; carried = carried })
went_on (flowed.Write flow) carried = Write (record { flow = flow; carried = carried })
went_on flowed.Stopped carried = Last

-- where another turn comes, this holds of what is carried on
abbrev pub Still : {A : Type 0} → (A → Type 0) → Next A → Type 0
Still Fine (On run) = Fine run.carried
Still Fine (Write run) = Fine run.carried
Still Fine Last = Unit {0}

-- what comes after a turn, where more is carried on than what the program hands from turn to turn
abbrev pub carrying : {A B : Type 0} → (A → B) → Next A → Next B
carrying more (On run) = On (record { flow = run.flow; carried = more run.carried })
carrying more (Write run) = Write (record { flow = run.flow; carried = more run.carried })
carrying more Last = Last

-- what is left of a run: what its turns may still carry on, and the bytes and the end that may still come before each of them
abbrev pub left : {A : Type 0} → (A → ℕ) → Flow → A → ℕ
left budget flow carried = budget carried * (input_size + 2) + unfilled flow

-- the last turn's text stands behind what is held
pub record Finished {A : Type 0} (turn : Turns A) (s : State A) (all : List ℕ) : Type 0 where
  pub text : List ℕ
  pub turn_is : turn_at turn s ≡ ends text
  pub is : all ≡ s.held ++ text

-- after a turn the run goes one step on, and less is left of it: what that step writes is what the loop is told to write, nothing or all that the
-- output holds, which then holds nothing. Or it is finished; or it has to stop, since no more can be read, with what it holds still to be written
pub data Advanced {A : Type 0} (turn : Turns A) (room : ℕ) (budget : A → ℕ) (flow : Flow) (s : State A) (input out : List ℕ) : Next A → Type 0 where
  goes : {next : Run A} {piece : List ℕ} → InRange room (length out) next.flow → left budget next.flow next.carried < left budget flow s.carried
      → Goes turn s piece [] (reached next input out) → Advanced turn room budget flow s input out (On next)
  goes_writing : {next : Run A} → 0 < length out → length out ≤ output_size → InRange room 0 next.flow
      → left budget next.flow next.carried < left budget flow s.carried → Goes turn s [] out (reached next input []) → Advanced turn room budget flow s input out (Write next)
  finished : length out ≤ output_size → Finished turn s out → Advanced turn room budget flow s input out Last
  stops : length out ≤ output_size → turn_at turn s ≡ asks → out ≡ s.held → Advanced turn room budget flow s input out Last
