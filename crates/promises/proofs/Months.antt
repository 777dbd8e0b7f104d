-- A monthly ceiling over calls on one book, from a fresh book and a fresh pair on: after each accepted trip of a month, with one ceiling held
-- through it and refused trips between, the amount kept is the smaller of the ceiling and the sum of that month's charge records, by their own
-- bytes. Each trip adds its charges, cut to what the ceiling leaves, so the smaller of the two goes on; and months never go back on one book, since
-- a trip begins when all before it have ended, so a month's trips stand together.
-- Assumes nothing.
use Prim.Native.Nat.{ℕ, ◌+◌, ◌^◌, ◌≤◌, ◌<◌, min}
use native.Mathlib.Nat.{add_assoc, add-zero}
use native.Mathlib.Decide.{ℕ_discrete}
use native.Mathlib.Omega.{arith}
use mathlib.Core.Path.{◌≡◌, refl, sym, ap, subst, ◌∙◌}
use mathlib.Core.Bool.{Bool, true, false, cond}
use mathlib.Core.List.{List, [], ◌∷◌}
use borrow.Author.Tests.{eq-eqb, ne_eqb}
use lib.Dec.{eqb}
use Rattle.wire.specs.Number.{get_le}
use Rattle.trip.specs.Moments.{checkin_of}
use Rattle.trip.proofs.Clear.{good_fields}
use Rattle.trip.proofs.Stamps.{times_range}
use Rattle.statement.specs.Record.{Part, most_parts, statement_of}
use Rattle.statement.proofs.Sums.{cents_end}
use Rattle.ledger.specs.Words.{fresh_book, trips_of, last_out_of}
use Rattle.settle.specs.Outcome.{Outcome, refused, accepted, parts_in, book_after}
use Rattle.ceiling.specs.Ceiling.{month_of, trip_month, fresh_kept, kept_month, kept_amount, kept_as, collected_in, charged_in, due_of, kept_after, room_for}
use Rattle.ceiling.proofs.Kept.{month_back, amount_back, same_month, other_month}
use Rattle.ceiling.proofs.Months.{month_most, months_go_on}
use Rattle.ceiling.proofs.Outcomes.{settles, entered}
use Rattle.promises.specs.Conditions.{AcceptedBy}
use Rattle.promises.specs.Months.{
  MonthCall,
  came_to,
  kept_by,
  book_by,
  AcceptedIn,
  adds_to,
  kept_from,
  charged_over,
  OneCeiling,
  held,
  EndsIn,
  last_call,
  later_call,
  Amount,
}
use Rattle.promises.proofs.Answers.{accepted-is, clear, some-parts}
use Rattle.promises.proofs.Books.{book_head}
use Rattle.promises.proofs.InRow.{timely}

-- ---- Months never go back on one book.

-- An accepted trip's month is not before that of the book's last check-out, and that of the new one is not before it.
record Onward (book trip new : List ℕ) : Type 0 where
  since : 1 ≤ trips_of book → month_of (last_out_of book) ≤ trip_month trip
  in_use : 1 ≤ trips_of new
  till : trip_month trip ≤ month_of (last_out_of new)

onward : {file book trip : List ℕ} {room : ℕ} {new : List ℕ} {parts : List Part} → AcceptedBy file book trip room new parts → Onward book trip new
onward {book = book} {trip} {new = new} a =
    let t = timely a in
    let range = (good_fields (clear a).good).range in
    record {
      since = λ some. months_go_on (last_out_of book) (checkin_of trip) (t.since some) (omega (arith, t.forward, range));
      in_use = omega (arith, (book_head a).trips, some-parts a);
      till = months_go_on (checkin_of trip) (last_out_of new) (omega (arith, t.forward, t.last)) (omega (arith, t.last, range));
    }

-- ---- One call.

-- charges cut to what is left, added to the smaller of the ceiling and the sum before
cut_step : (c s x a : ℕ) → a ≡ min c s → a + due_of c a x ≡ min c (s + x)
cut_step c s x a is = omega (arith, is)

-- no record has no charge
none_charged : charged_in [] ≡ 0
unfolding charged_in statement_of
none_charged = cents_end [] most_parts (omega arith)

-- A refused call, with 24 or any other number, leaves the pair and the book.
pub refused_leaves :
    (kept book : List ℕ) (call : MonthCall) {number place : ℕ} → came_to kept book call ≡ refused number place
    → (kept_by kept book call ≡ kept) × (book_by kept book call ≡ book)
refused_leaves kept book call is = (
  ap (λ (o : Outcome). kept_after call.ceiling call.trip o kept) is,
  ap (λ (o : Outcome). book_after o book) is,
)

-- Its trip adds nothing to a month, nor does one of another month.
refused_adds :
    (month : ℕ) (kept book : List ℕ) (call : MonthCall) {number place : ℕ} → came_to kept book call ≡ refused number place
    → adds_to month kept book call ≡ 0
refused_adds month kept book call is =
    ap (λ (o : Outcome). cond (eqb (trip_month call.trip) month) (charged_in (parts_in o)) 0) is ∙ go (eqb (trip_month call.trip) month)
  where
    go : (t : Bool) → cond t (charged_in []) 0 ≡ 0
    go true = none_charged
    go false = refl

other_adds : (month : ℕ) (kept book : List ℕ) (call : MonthCall) → (trip_month call.trip ≡ month → ⊥) → adds_to month kept book call ≡ 0
other_adds month kept book call other = rw (ne_eqb (trip_month call.trip) month other)

module _ (kept book : List ℕ) (call : MonthCall) {new : List ℕ} {parts : List Part} (is : came_to kept book call ≡ accepted new parts) where
  goes_on : Onward book call.trip new
  goes_on =
      onward
      (accepted-is call.file book call.trip (room_for call.room call.due)
      (settles call.ceiling kept call.file book call.trip call.room call.due is))

  -- The pair is then the trip's month, and the amount with what is due.
  pair_is :
      let own = trip_month call.trip in
      kept_by kept book call ≡ kept_as own (collected_in kept own + due_of call.ceiling (collected_in kept own) (charged_in parts))
  pair_is = ap (λ (o : Outcome). kept_after call.ceiling call.trip o kept) is

  month_kept : kept_month (kept_by kept book call) ≡ trip_month call.trip
  month_kept =
      let (ok, stamped) = entered call.ceiling kept call.file book call.trip call.room call.due is in
      let near : trip_month call.trip < 256 ^ 4 = omega (arith, month_most (checkin_of call.trip) (times_range call.trip stamped.stamps).0) in
      ap kept_month pair_is ∙ month_back (trip_month call.trip) _ near

-- After a trip of the month.
after_trip :
    {ceiling month : ℕ} {kept book : List ℕ} {call : MonthCall} (charged : ℕ) → collected_in kept month ≡ min ceiling charged
    → AcceptedIn month kept book call → call.ceiling ≡ ceiling → Amount ceiling month (charged + adds_to month kept book call) (kept_by kept book call)
after_trip {ceiling} {month} {kept} {book} {call} charged before c under =
    let (ok, stamped) = entered call.ceiling kept call.file book call.trip call.room call.due c.is in
    let x = charged_in c.parts in
    let amount = min ceiling (charged + x) in
    let adds : adds_to month kept book call ≡ x =
    ap (λ (t : Bool). cond t (charged_in (parts_in (came_to kept book call))) 0) (eq-eqb (trip_month call.trip) month c.of_month)
    ∙ ap (λ (o : Outcome). charged_in (parts_in o)) c.is
    in
    let sum : collected_in kept month + due_of call.ceiling (collected_in kept month) x ≡ amount =
    ap (λ (k : ℕ). collected_in kept month + due_of k (collected_in kept month) x) under ∙ cut_step ceiling charged x (collected_in kept month) before
    in
    let pair : kept_by kept book call ≡ kept_as month amount =
    pair_is kept book call c.is
    ∙ ap (λ (m : ℕ). kept_as m (collected_in kept m + due_of call.ceiling (collected_in kept m) x)) c.of_month
    ∙ ap (kept_as month) sum
    in
    let small : amount < 256 ^ 4 = omega (arith, under, ok.ceiling_most) in
    record {
      of_month = month_kept kept book call c.is ∙ c.of_month;
      is = ap kept_amount pair ∙ amount_back month amount small ∙ ap (λ (k : ℕ). min ceiling (charged + k)) (sym adds);
    }

-- ---- The run.

-- Where a run stands to a month, whose trips so far were charged so much: none of them has come yet; or they have come, and no later month's; or a
-- later month has come, after which this one never does.
data Stage (ceiling month charged : ℕ) (kept book : List ℕ) : Type 0 where
  ahead : collected_in kept month ≡ 0 → charged ≡ 0 → Stage ceiling month charged kept book
  within :
      1 ≤ trips_of book → month ≤ month_of (last_out_of book) → collected_in kept month ≡ min ceiling charged → Stage ceiling month charged kept book
  past : 1 ≤ trips_of book → month < month_of (last_out_of book) → Stage ceiling month charged kept book

-- A trip of the month finds what was collected in it.
found :
    {ceiling month charged : ℕ} {kept book trip new : List ℕ} → Onward book trip new → trip_month trip ≡ month → Stage ceiling month charged kept book
    → collected_in kept month ≡ min ceiling charged
found o same (ahead none zero) = omega (arith, none, zero)
found o same (within used here sum) = sum
found o same (past used gone) = absurd (omega (arith, o.since used, same, gone))

-- the stage after a call, with the book that it leaves
abbrev Next : (ceiling month charged : ℕ) (kept book : List ℕ) → MonthCall → List ℕ → Type 0
Next ceiling month charged kept book call left = Stage ceiling month (charged + adds_to month kept book call) (kept_by kept book call) left

module _ {ceiling month charged : ℕ} {kept book : List ℕ} (call : MonthCall) (s : Stage ceiling month charged kept book) where
  module _ {new : List ℕ} {parts : List Part} (is : came_to kept book call ≡ accepted new parts) where
    -- a trip of the month
    same_next : trip_month call.trip ≡ month → call.ceiling ≡ ceiling → Next ceiling month charged kept book call new
    same_next same under =
        let o = goes_on kept book call is in
        let next = after_trip charged (found o same s) (record { new = new; parts = parts; is = is; of_month = same }) under in
        within o.in_use (omega (arith, o.till, same)) (same_month (kept_by kept book call) month next.of_month ∙ next.is)

    -- a trip of another month: as long as none of this month has come, it is left aside; afterwards it is a later one
    other_next : (trip_month call.trip ≡ month → ⊥) → Next ceiling month charged kept book call new
    other_next other = go s
      where
        o : Onward book call.trip new
        o = goes_on kept book call is

        go : Stage ceiling month charged kept book → Next ceiling month charged kept book call new
        go (ahead none zero) =
            ahead (other_month (kept_by kept book call) month (λ e. other (sym (month_kept kept book call is) ∙ e)))
            (omega (arith, zero, other_adds month kept book call other))
        go (within used here sum) = past o.in_use (omega (arith, o.since used, here, other, o.till))
        go (past used gone) = past o.in_use (omega (arith, o.since used, gone, o.till))

  next_stage : (AcceptedIn month kept book call → call.ceiling ≡ ceiling) → Next ceiling month charged kept book call (book_by kept book call)
  next_stage under = go (came_to kept book call) refl
    where
      go : (o : Outcome) → came_to kept book call ≡ o → Next ceiling month charged kept book call (book_by kept book call)
      go (refused number place) is =
          let adds : charged ≡ charged + adds_to month kept book call = omega (arith, refused_adds month kept book call is) in
          let (pair, left) = refused_leaves kept book call is in
          subst (λ (b : List ℕ). Next ceiling month charged kept book call b) (sym left)
          (subst (λ (k : List ℕ). Stage ceiling month (charged + adds_to month kept book call) k book) (sym pair)
          (subst (λ (n : ℕ). Stage ceiling month n kept book) adds s))
      go (accepted new parts) is =
          subst (λ (o : Outcome). Next ceiling month charged kept book call (book_after o book)) (sym is)
          (elim (ℕ_discrete (trip_month call.trip) month) [
            | yes same ↦ same_next is same (under (record { new = new; parts = parts; is = is; of_month = same }))
            | no other ↦ other_next is other
          ])

from_stage :
    {ceiling month charged : ℕ} {kept book : List ℕ} (calls : List MonthCall) → Stage ceiling month charged kept book
    → OneCeiling ceiling month kept book calls → EndsIn month kept book calls
    → Amount ceiling month (charged + charged_over month kept book calls) (kept_from kept book calls)
unfolding kept_from charged_over
from_stage {ceiling} {month} {charged} {kept} {book} (call ∷ []) s (held under rest) (last_call c) =
    subst (λ (n : ℕ). Amount ceiling month (charged + n) (kept_by kept book call)) (sym (add-zero (adds_to month kept book call)))
    (after_trip charged (found (goes_on kept book call c.is) c.of_month s) c (under c))
from_stage {ceiling} {month} {charged} {kept} {book} (call ∷ later) s (held under rest) (later_call ends) =
    subst (λ (n : ℕ). Amount ceiling month n (kept_from (kept_by kept book call) (book_by kept book call) later)) (add_assoc charged (adds_to month kept book call) _)
    (from_stage {charged = charged + adds_to month kept book call} {kept = kept_by kept book call} {book = book_by kept book call} later
    (next_stage call s under) rest ends)
from_stage [] s always ends = elim ends [ ]

-- fresh, nothing was collected in any month
fresh_collected : (month : ℕ) → collected_in fresh_kept month ≡ 0
unfolding collected_in get_le
fresh_collected month = go (eqb (kept_month fresh_kept) month)
  where
    go : (t : Bool) → cond t (kept_amount fresh_kept) 0 ≡ 0
    go true = refl
    go false = refl

-- The promise.
pub month_collected :
    {ceiling month : ℕ} (calls : List MonthCall) → OneCeiling ceiling month fresh_kept fresh_book calls → EndsIn month fresh_kept fresh_book calls
    → Amount ceiling month (charged_over month fresh_kept fresh_book calls) (kept_from fresh_kept fresh_book calls)
month_collected {ceiling} {month} calls held-through ends =
    subst (λ (n : ℕ). Amount ceiling month n (kept_from fresh_kept fresh_book calls)) (omega arith)
    (from_stage {charged = 0} calls (ahead (fresh_collected month) refl) held-through ends)
