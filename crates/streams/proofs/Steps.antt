-- What a turn leaves of a run.
-- Assumes nothing.
use Prim.Native.Nat.{ℕ, ◌+◌, ◌-◌, ◌*◌, ◌≤◌, ◌<◌}
use native.Mathlib.Omega.{arith}
use native.Mathlib.Decide.{dec_lt}
use mathlib.Core.Path.{◌≡◌, refl, sym, subst}
use mathlib.Core.Bool.{Bool, true, false, cond}
use mathlib.Core.List.{List, [], ◌++◌}
use borrow.Author.Tests.{lt-ltb, le-ltb}
use lib.ListN.{length, take, drop, length-drop}
use lib.Seq.{length-take-le}
use lib.Dec.{ltb}
use Rattle.streams.specs.declared.flow.Flow.{Flow}
use Rattle.streams.specs.declared.flow.Flowed.{Flowed}
use Rattle.streams.specs.declared.flow.Flowed.TheVariants as flowed
use Rattle.streams.specs.declared.flow.Run.{Run}
use Rattle.streams.specs.declared.flow.Next.{Next}
use Rattle.streams.specs.declared.flow.Next.TheVariants.{On, Write, Last}
use Rattle.streams.specs.Clauses.{Came, Kept}
use Rattle.streams.specs.Runs.{asks, puts, ends, Turns, State, turn_at, came, went, written, Goes, fed, holds, writes}
use Rattle.streams.specs.Flows.{input_size, output_size, Inside, InRange, unused, state_of, unfilled, CameMore, Made, went_on, Still, carrying, left, Advanced, goes, goes_writing, finished, stops}
use Rattle.streams.proofs.Moves.{joined_up, used_up}

-- ---- Bytes read: there is room for fewer, or the input is at its end.

abbrev pub fed_flow : Flow → ℕ → ℕ → Flow
fed_flow flow kept got = record { from = 0; to = kept + got; more = ltb 0 got }

pub more_came :
    (flow : Flow) (input moved after : List ℕ) (kept got : ℕ) → Inside flow → flow.more ≡ true → length after ≡ input_size → kept + got ≤ input_size
    → Kept input flow.from flow.to moved kept → Came moved kept after got → CameMore flow input after (flowed.On (fed_flow flow kept got))
more_came flow input moved after kept got r more size fits k c =
    let many = k.many in (
      record { order = omega arith; inside = fits },
      (
        elim (dec_lt 0 got) [
          | yes some ↦ rw (more, lt-ltb 0 got some) (omega arith)
          | no none ↦ rw (more, le-ltb 0 got (omega arith)) (omega arith)
        ],
        record {
          piece = take got (drop kept after);
          kept_is = joined_up input moved after flow.from flow.to kept got k c;
          more_is = rw (length-take-le got (drop kept after) (omega (arith, length-drop kept after)));
        },
      ),
    )

-- ---- What a turn leaves.

-- so many bytes as have come and are not used yet
pub unused_length : {room put : ℕ} (flow : Flow) (input : List ℕ) → InRange room put flow → length input ≡ input_size → length (unused flow input) ≡ flow.to - flow.from
unused_length flow input r size =
    length-take-le (flow.to - flow.from) (drop flow.from input) (omega (arith, r.inside, length-drop flow.from input))

-- the flow behind a turn that used so many bytes
abbrev pub onward : Flow → ℕ → Flow
onward flow used = record { from = flow.from + used; to = flow.to; more = flow.more }

-- where a turn asks for more, there is room for more bytes
pub more_room :
    {room put : ℕ} (flow : Flow) (input : List ℕ) → InRange room put flow → length input ≡ input_size → length (unused flow input) < 1026
    → flow.to < flow.from + input_size
more_room flow input r size short = omega (arith, unused_length flow input r size, r.order)

same_state :
    {A : Type 0} {kept kept' held held' : List ℕ} {more : Bool} {carried : A} → kept ≡ kept' → held ≡ held'
    → ◌≡◌ {A = State A} (record { kept = kept; more = more; held = held; carried = carried })
    (record { kept = kept'; more = more; held = held'; carried = carried })
same_state q r = cc

-- less is carried on
less_left : (n m k l : ℕ) → m < n → k < input_size + 2 → m * (input_size + 2) + k < n * (input_size + 2) + l
less_left n m k l less few = omega arith

unfilled_few : (flow : Flow) → unfilled flow < input_size + 2
unfilled_few flow = go flow.more
  where
    go : (more : Bool) → (input_size - (flow.to - flow.from)) + cond more 1 0 < input_size + 2
    go true = omega arith
    go false = omega arith

module _ {A : Type 0} (turn : Turns A) (budget : A → ℕ) {room : ℕ} (flow : Flow) (carried : A) (input out : List ℕ)
    (r : InRange room (length out) flow) (size : length input ≡ input_size)
  where
    abbrev before : State A
    before = state_of flow carried input out

    -- it asks for more bytes: the output is as it was, and what is carried on stays. Bytes come, or no more can be read
    module _ (input' out' : List ℕ) (e : turn_at turn before ≡ asks) (same : out' ≡ out) where
      pub asked_on :
          (next : Flowed) → CameMore flow input input' next → Advanced turn room budget flow before input' out' (went_on next carried)
      unfolding came
      asked_on (flowed.On next) (range, (less, f)) =
          goes {next = record { flow = next; carried = carried }}
          (record { order = range.order; inside = range.inside; room_left = rw same r.room_left }) (omega arith)
          (subst (λ (s : State A). Goes turn before f.piece [] s) (sym (rw (f.kept_is, f.more_is, same))) (fed f.piece e))
      asked_on (flowed.Write next) none = absurd none
      asked_on flowed.Stopped all = stops (rw same (omega (arith, r.room_left))) e same

    -- it used bytes, and put a text
    module _ (used : ℕ) (out' : List ℕ) {text : List ℕ} {next : A} (e : turn_at turn before ≡ puts used text next)
        (put : out' ≡ out ++ text) (within : used ≤ length (unused flow input)) (less : budget next < budget carried)
      where
        fits : flow.from + used ≤ flow.to
        fits = omega (arith, within, unused_length flow input r size, r.order)

        went_there : state_of (onward flow used) next input out' ≡ went before used text next
        unfolding went
        went_there = same_state (used_up input flow.from flow.to used fits (omega (arith, r.inside))) put

        -- all that was put is held, or it is to be written
        pub put_on :
            (there : Flowed) → Made room (length out') (onward flow used) there
            → Advanced turn room budget flow before input out' (went_on there next)
        unfolding written
        put_on (flowed.On there) (range, same) =
            goes {next = record { flow = there; carried = next }} {piece = []} range (less_left _ _ _ _ less (unfilled_few there))
            (rw same (subst (λ (s : State A). Goes turn before [] [] s) (sym went_there) (holds e)))
        put_on (flowed.Write there) (range, (some, (fits_out, same))) =
            goes_writing {next = record { flow = there; carried = next }} some fits_out range (less_left _ _ _ _ less (unfilled_few there))
            (rw same
            (subst (λ (all : List ℕ). Goes turn before [] all (state_of (onward flow used) next input [])) (sym put)
            (subst (λ (s : State A). Goes turn before [] (before.held ++ text) (written s)) (sym went_there) (writes e))))
        put_on flowed.Stopped none = absurd none

    -- it put the last text
    pub at_last :
        (out' : List ℕ) {text : List ℕ} → turn_at turn before ≡ ends text → out' ≡ out ++ text → length out' ≤ output_size
        → Advanced turn room budget flow before input out' Last
    at_last out' e put fits = finished fits (record { text = _; turn_is = e; is = put })

-- ---- What is known after a step, by its answer.

module _ {A : Type 0} {turn : Turns A} {room : ℕ} {budget : A → ℕ} {flow : Flow} {s : State A} {input out : List ℕ} where
  pub on_is :
      {next : Run A} → Advanced turn room budget flow s input out (On next)
      → InRange room (length out) next.flow × (left budget next.flow next.carried < left budget flow s.carried)
  on_is (goes range less step) = (range, less)

  pub writing_is :
      {next : Run A} → Advanced turn room budget flow s input out (Write next)
      → (length out ≤ output_size) × (InRange room 0 next.flow × (left budget next.flow next.carried < left budget flow s.carried))
  writing_is (goes_writing some fits range less step) = (fits, (range, less))

  pub last_is : Advanced turn room budget flow s input out Last → length out ≤ output_size
  last_is (finished fits done) = fits
  last_is (stops fits e held) = fits

  pub on_by :
      {t : Next A} {next : Run A} → Advanced turn room budget flow s input out t → t ≡ On next
      → InRange room (length out) next.flow × (left budget next.flow next.carried < left budget flow s.carried)
  on_by a is = on_is (subst (λ (t : Next A). Advanced turn room budget flow s input out t) is a)

  pub writing_by :
      {t : Next A} {next : Run A} → Advanced turn room budget flow s input out t → t ≡ Write next
      → (length out ≤ output_size) × (InRange room 0 next.flow × (left budget next.flow next.carried < left budget flow s.carried))
  writing_by a is = writing_is (subst (λ (t : Next A). Advanced turn room budget flow s input out t) is a)

  pub last_by : {t : Next A} → Advanced turn room budget flow s input out t → t ≡ Last → length out ≤ output_size
  last_by a is = last_is (subst (λ (t : Next A). Advanced turn room budget flow s input out t) is a)

-- ---- What is carried on.

module _ {A : Type 0} (Fine : A → Type 0) where
  pub still_on : (next : Flowed) (carried : A) → Fine carried → Still Fine (went_on next carried)
  still_on (flowed.On next) carried fine = fine
  still_on (flowed.Write next) carried fine = fine
  still_on flowed.Stopped carried fine = tt

  pub still_by : {t : Next A} {next : Run A} → Still Fine t → t ≡ On next → Fine next.carried
  still_by fine is = subst (λ (t : Next A). Still Fine t) is fine

  pub still_writing : {t : Next A} {next : Run A} → Still Fine t → t ≡ Write next → Fine next.carried
  still_writing fine is = subst (λ (t : Next A). Still Fine t) is fine

pub carrying_on : {A B : Type 0} (more : A → B) (next : Flowed) (carried : A) → carrying more (went_on next carried) ≡ went_on next (more carried)
carrying_on more (flowed.On next) carried = refl
carrying_on more (flowed.Write next) carried = refl
carrying_on more flowed.Stopped carried = refl
