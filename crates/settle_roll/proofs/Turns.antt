-- What a turn leaves of a run.
-- Assumes nothing.
use Prim.Native.Nat.{ℕ, ◌+◌, ◌≤◌, ◌<◌}
use native.Mathlib.Omega.{arith}
use mathlib.Core.Path.{◌≡◌, subst, ap, ◌∙◌}
use mathlib.Core.Bool.{true}
use mathlib.Core.List.{List, []}
use lib.ListN.{length}
use Rattle.streams.specs.declared.flow.Flow.{Flow}
use Rattle.streams.specs.declared.flow.Flowed.{Flowed}
use Rattle.streams.specs.declared.flow.Run.{Run}
use Rattle.streams.specs.declared.flow.Next.{Next}
use Rattle.streams.specs.declared.flow.Next.TheVariants.{On, Write, Last}
use Rattle.streams.specs.Runs.{State, turn_at}
use Rattle.streams.specs.Flows.{input_size, output_size, Inside, InRange, unused, CameMore, Made, went_on, Still, carrying, left, Advanced}
use Rattle.streams.proofs.Steps.{onward, unused_length, more_room, put_on, at_last, still_on, carrying_on}
use Rattle.streams.proofs.Steps as step
use Rattle.ledger.specs.Words.{fresh_book}
use Rattle.editions.specs.declared.Editions.{Editions}
use Rattle.roll.specs.Pieces.{step_of}
use Rattle.roll.proofs.Starts.{more_stays}
use Rattle.text.specs.Clauses.{Put}
use Rattle.lines.specs.declared.tally.Tally.{Tally}
use Rattle.lines.specs.declared.turns.Turn.{Turn}
use Rattle.lines.specs.declared.turns.Turn.TheVariants as turn
use Rattle.lines.specs.Text.{header}
use Rattle.lines.specs.Turns as lines
use Rattle.lines.specs.Clauses.{most_record, most_turn, Counting, Did, Range, Turned}
use Rattle.lines.proofs.Taken.{asked_by, put_by, ended_by}
use Rattle.lines.proofs.Told.{asks_more}
use Rattle.settle_roll.specs.Prints.{Carried, on_book, turn_under, start}
use Rattle.settle_roll.specs.Clauses.{beside, reached, records_left}

same_start :
    {book held : List ℕ} {tally : Tally} → book ≡ fresh_book → held ≡ header
    → ◌≡◌ {A = State Carried} (record { kept = []; more = true; held = held; carried = record { book = book; tally = tally } })
    (record { kept = []; more = true; held = header; carried = record { book = fresh_book; tally = tally } })
same_start p q = cc

-- A run begins with a fresh book and the header.
pub begins :
    {book held : List ℕ} → book ≡ fresh_book → held ≡ header
    → ◌≡◌ {A = State Carried}
    (record {
      kept = [];
      more = true;
      held = held;
      carried = record { book = book; tally = record { accepted = 0; refused = 0; cents = 0 } };
    })
    start
unfolding start
begins fresh put = same_start fresh put

-- What a turn leaves of the bytes that are not settled yet.
module _
    {file : List ℕ} {editions : Editions} {book out book' out' : List ℕ} {run : Run Tally} {t : Turn} (input : List ℕ)
    (r : InRange most_turn (length out) run.flow)
    (size : length input ≡ input_size)
    (turned : Turned file editions book (unused run.flow input) run.flow.more run.carried out book' out' t)
  where
    abbrev before : State Carried
    before = reached run book input out

    abbrev effect : lines.Effect
    effect = lines.effect_of (step_of file book (unused run.flow input) run.flow.more) run.carried

    -- where its record is not whole yet, there is room for more bytes
    pub room_for_more : t ≡ turn.More → (run.flow.more ≡ true) × (run.flow.to < run.flow.from + input_size)
    room_for_more is =
        let short = subst (λ (t : Turn). Range (unused run.flow input) run.flow.more run.carried out out' t) is turned.range in
        (short.0, more_room run.flow input r size short.1)

    pub asked_on :
        (input' : List ℕ) (next : Flowed) → t ≡ turn.More → CameMore run.flow input input' next
        → Advanced (turn_under file) most_turn records_left run.flow before input' out' (carrying (beside book') (went_on next run.carried))
    unfolding turn_at turn_under on_book
    asked_on input' next is came =
        let d = asked_by (subst (λ (t : Turn). Did out out' effect t) is turned.did) in
        let stays = turned.book_is ∙ more_stays file book (unused run.flow input) run.flow.more (asks_more _ _ d.0) in
        rw (carrying_on (beside book') next run.carried, stays)
        (step.asked_on (turn_under file) records_left run.flow before.carried input out r size input' out' (rw d.0) d.1 next came)

    -- a record is used whole, and another may come
    module _ {used : ℕ} {tally : Tally} (is : t ≡ turn.On used tally) where
      facts : Range (unused run.flow input) run.flow.more run.carried out out' (turn.On used tally)
      facts = subst (λ (t : Turn). Range (unused run.flow input) run.flow.more run.carried out out' t) is turned.range

      pub fits : run.flow.from + used ≤ run.flow.to
      fits = omega (arith, facts.0, unused_length run.flow input r size, r.order)

      pub on_inside : Inside (onward run.flow used)
      on_inside = record { order = fits; inside = r.inside }

      -- what was put has its room
      pub on_put : length out' ≤ output_size
      on_put = omega (arith, facts.1.0, r.room_left)

      pub on_counting : (next : Flowed) → Still Counting (went_on next tally)
      on_counting next = still_on Counting next tally facts.1.1.0

      did :
          (text : List ℕ)
          × (effect ≡ lines.puts used text tally)
          × Put text most_record out out'
      did = put_by (subst (λ (t : Turn). Did out out' effect t) is turned.did)

      pub on_made :
          (next : Flowed) → Made most_turn (length out') (onward run.flow used) next
          → Advanced (turn_under file) most_turn records_left run.flow before input out' (carrying (beside book') (went_on next tally))
      unfolding turn_at turn_under on_book
      on_made next made =
          rw (carrying_on (beside book') next tally, turned.book_is)
          (put_on (turn_under file) records_left run.flow before.carried input out r size used out' (rw did.1)
          did.2.put facts.0 (omega (arith, facts.1.1.1, facts.1.1.0.few)) next made)

    -- the run is over
    module _ (is : t ≡ turn.Over) where
      did_last :
          (text : List ℕ) × (effect ≡ lines.ends text)
          × Put text most_turn out out'
      did_last = ended_by (subst (λ (t : Turn). Did out out' effect t) is turned.did)

      pub over : Advanced (turn_under file) most_turn records_left run.flow before input out' Last
      unfolding turn_at turn_under on_book
      over =
          at_last (turn_under file) records_left run.flow before.carried input out r size out' (rw did_last.1)
          did_last.2.put (omega (arith, did_last.2.room, r.room_left))

-- What is known after a step, by its answer: another turn comes with the book that this one left.
module _ (file : List ℕ) {flow₀ : Flow} {s : State Carried} (book : List ℕ) {input out : List ℕ} where
  pub on_by :
      {t : Next Tally} {next : Run Tally} → Advanced (turn_under file) most_turn records_left flow₀ s input out (carrying (beside book) t) → t ≡ On next
      → InRange most_turn (length out) next.flow × (left records_left next.flow (beside book next.carried) < left records_left flow₀ s.carried)
  on_by a is = step.on_by a (ap (carrying (beside book)) is)

  pub writing_by :
      {t : Next Tally} {next : Run Tally} → Advanced (turn_under file) most_turn records_left flow₀ s input out (carrying (beside book) t) → t ≡ Write next
      → (length out ≤ output_size)
      × (InRange most_turn 0 next.flow × (left records_left next.flow (beside book next.carried) < left records_left flow₀ s.carried))
  writing_by a is = step.writing_by a (ap (carrying (beside book)) is)

  pub last_by :
      {t : Next Tally} → Advanced (turn_under file) most_turn records_left flow₀ s input out (carrying (beside book) t) → t ≡ Last
      → length out ≤ output_size
  last_by a is = step.last_by a (ap (carrying (beside book)) is)
