-- What a turn leaves of a run.
-- Assumes nothing.
use Prim.Native.Nat.{ℕ, ◌+◌, ◌≤◌, ◌<◌}
use native.Mathlib.Omega.{arith}
use mathlib.Core.Path.{◌≡◌, subst}
use mathlib.Core.Bool.{true}
use mathlib.Core.List.{List, []}
use lib.ListN.{length}
use Rattle.streams.specs.declared.flow.Flowed.{Flowed}
use Rattle.streams.specs.declared.flow.Run.{Run}
use Rattle.streams.specs.declared.flow.Next.TheVariants.{Last}
use Rattle.streams.specs.Runs.{State, turn_at}
use Rattle.streams.specs.Flows.{input_size, output_size, Inside, InRange, unused, CameMore, Made, went_on, reached, Still, Advanced}
use Rattle.streams.proofs.Steps.{onward, unused_length, more_room, at_last, still_on}
use Rattle.streams.proofs.Steps as step
use Rattle.text.specs.Clauses.{Put}
use Rattle.csv_table.specs.declared.turns.Turn.{Turn}
use Rattle.csv_table.specs.declared.turns.Turn.TheVariants as turn
use Rattle.csv_table.specs.Text.{header}
use Rattle.csv_table.specs.Turns as csv
use Rattle.csv_table.specs.Clauses.{most_turn, Did, Range, Turned}
use Rattle.csv_table.proofs.Taken.{asked_by, put_by, ended_by}
use Rattle.print_statement.specs.Prints.{numbered, turn_after, start}
use Rattle.print_statement.specs.Clauses.{Few, records_left}

-- A run begins with the header.
pub begins : {held : List ℕ} → held ≡ header → ◌≡◌ {A = State ℕ} (record { kept = []; more = true; held = held; carried = 0 }) start
unfolding start
begins is = rw is

-- What a turn leaves of the bytes that are not used yet.
module _
    {out out' : List ℕ} {run : Run ℕ} {t : Turn} (input : List ℕ) (r : InRange most_turn (length out) run.flow) (size : length input ≡ input_size)
    (turned : Turned (unused run.flow input) run.flow.more run.carried out out' t)
  where
    abbrev before : State ℕ
    before = reached run input out

    abbrev effect : csv.Effect
    effect = csv.effect_of (unused run.flow input) run.flow.more run.carried

    -- where its record is not whole yet, there is room for more bytes
    pub room_for_more : t ≡ turn.More → (run.flow.more ≡ true) × (run.flow.to < run.flow.from + input_size)
    room_for_more is =
        let short = subst (λ (t : Turn). Range (unused run.flow input) run.flow.more run.carried out out' t) is turned.range in
        (short.0, more_room run.flow input r size short.1)

    pub asked_on :
        (input' : List ℕ) (next : Flowed) → t ≡ turn.More → CameMore run.flow input input' next
        → Advanced turn_after most_turn records_left run.flow before input' out' (went_on next run.carried)
    unfolding turn_at turn_after numbered
    asked_on input' next is came =
        let d = asked_by (subst (λ (t : Turn). Did out out' effect t) is turned.did) in
        step.asked_on turn_after records_left run.flow run.carried input out r size input' out' (rw d.0) d.1 next came

    -- a record is used whole, and another may come
    module _ {used number : ℕ} (is : t ≡ turn.On used number) where
      facts : Range (unused run.flow input) run.flow.more run.carried out out' (turn.On used number)
      facts = subst (λ (t : Turn). Range (unused run.flow input) run.flow.more run.carried out out' t) is turned.range

      pub fits : run.flow.from + used ≤ run.flow.to
      fits = omega (arith, facts.0, unused_length run.flow input r size, r.order)

      pub on_inside : Inside (onward run.flow used)
      on_inside = record { order = fits; inside = r.inside }

      -- what was put has its room
      pub on_put : length out' ≤ output_size
      on_put = omega (arith, facts.1.0, r.room_left)

      pub on_few : (next : Flowed) → Still Few (went_on next number)
      on_few next = still_on Few next number facts.1.1.1

      did : (text : List ℕ) × (effect ≡ csv.puts used text number) × Put text most_turn out out'
      did = put_by (subst (λ (t : Turn). Did out out' effect t) is turned.did)

      pub on_made :
          (next : Flowed) → Made most_turn (length out') (onward run.flow used) next
          → Advanced turn_after most_turn records_left run.flow before input out' (went_on next number)
      unfolding turn_at turn_after numbered
      on_made next made =
          step.put_on turn_after records_left run.flow run.carried input out r size used out' (rw did.1) did.2.put facts.0
          (omega (arith, facts.1.1.0, facts.1.1.1)) next made

    -- the run is over
    module _ (is : t ≡ turn.Over) where
      did_last : (text : List ℕ) × (effect ≡ csv.ends text) × Put text most_turn out out'
      did_last = ended_by (subst (λ (t : Turn). Did out out' effect t) is turned.did)

      pub over : Advanced turn_after most_turn records_left run.flow before input out' Last
      unfolding turn_at turn_after numbered
      over =
          at_last turn_after records_left run.flow run.carried input out r size out' (rw did_last.1) did_last.2.put
          (omega (arith, did_last.2.room, r.room_left))
