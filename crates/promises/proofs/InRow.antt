-- The windows of a run, settled or posted, are in a row: an accepted trip begins when all before it have ended, and opens a window only where
-- it does not fit the open one.
-- Assumes nothing.
use Prim.Native.Nat.{ℕ, ◌+◌, ◌≤◌, ◌<◌}
use native.Mathlib.Omega.{arith}
use native.Mathlib.Decide.{dec_lt}
use mathlib.Core.Path.{◌≡◌, refl, subst}
use mathlib.Core.Bool.{Bool, true, false, cond}
use mathlib.Core.List.Memᴰ
use mathlib.Core.List.{List, [], ◌∷◌, Memᴰ}
use borrow.Author.Tests.{leb-false}
use lib.Dec.{leb}
use Rattle.units.specs.Day.{day_minutes}
use Rattle.caps.specs.Rides.{ChargedRide}
use Rattle.editions.specs.declared.Editions.{Editions}
use Rattle.editions.specs.Reading.{ReadFile}
use Rattle.trip.specs.Moments.{checkin_of, checkout_of}
use Rattle.trip.proofs.Clear.{good_fields}
use Rattle.ledger.specs.Words.{trips_of, last_out_of}
use Rattle.statement.specs.Record.{Part}
use Rattle.deciding.specs.declared.refusals.Refusal.TheVariants as why
use Rattle.settle.specs.Outcome.{Outcome, refused, accepted, book_after}
use Rattle.settle.specs.Steps.{Step, offer_of, step_outcome, each_from, book_after_each, under, steps_from, book_after_steps}
use Rattle.settle.proofs.Steps.{step_settles}
use Rattle.promises.specs.Conditions.{condition_with, AcceptedBy}
use Rattle.promises.specs.Runs.{
  Span,
  span_of,
  RiderWindow,
  opens_at,
  with_trip,
  windows_with,
  windows_after,
  windows_over,
  OpenFirst,
  none_open,
  one_open,
  windows_of,
}
use Rattle.promises.specs.InRow.{Opener, Before, InRow, no_window, first_window, next_window}
use Rattle.promises.proofs.Answers.{accepted-is, clear}
use Rattle.promises.proofs.Books.{book_head}
use Rattle.promises.proofs.RunLaws.{KeptRun, fresh_run, after_outcome}

-- the windows so far are in a row, and all their trips have ended by the book's last check-out
record Row (book : List ℕ) (windows : List RiderWindow) : Type 0 where
  row : InRow windows
  ended : (window : RiderWindow) → Memᴰ window windows → (trip : Span) → Memᴰ trip window.trips → trip.checkout ≤ last_out_of book

-- ---- One accepted trip.

-- it begins when the last one has ended, and the new book's last check-out is its own
pub record Timely (book bytes new : List ℕ) : Type 0 where
  pub since : 1 ≤ trips_of book → last_out_of book ≤ checkin_of bytes
  pub forward : checkin_of bytes ≤ checkout_of bytes
  pub last : last_out_of new ≡ checkout_of bytes

pub timely :
    {file book bytes : List ℕ} {room : ℕ} {new : List ℕ} {parts : List Part} → AcceptedBy file book bytes room new parts → Timely book bytes new
unfolding condition_with
timely {file} {book} {bytes} a =
    record {
      since = λ some.
          elim (dec_lt (checkin_of bytes) (last_out_of book)) [
            | yes early ↦ absurd (a.none why.TooEarly (record { in_use = λ zero. omega arith; early = early }))
            | no late ↦ omega arith
          ];
      forward = (good_fields (clear a).good).forward;
      last = (book_head a).last_out;
    }

module _ (file : List ℕ) (editions : Editions) (rider : ℕ) {book bytes new : List ℕ} (parts : List Part) (t : Timely book bytes new) where
  abbrev joined : RiderWindow → RiderWindow
  joined window = with_trip file editions rider bytes parts window

  abbrev opened : RiderWindow
  opened = joined (opens_at (checkin_of bytes))

  -- what has ended by the old last check-out has ended by the new one
  still_ended : {m : ℕ} → 1 ≤ trips_of book → m ≤ last_out_of book → m ≤ last_out_of new
  still_ended some h = omega (arith, h, t.since some, t.forward, t.last)

  -- the trip itself
  own_ended : (trip : Span) → trip ≡ span_of bytes → trip.checkout ≤ last_out_of new
  own_ended trip is = rw is (omega (arith, t.last))

  -- a trip that has ended, and this one
  behind : 1 ≤ trips_of book → (trip next : Span) → trip.checkout ≤ last_out_of book → next ≡ span_of bytes → trip.checkout ≤ next.checkin
  behind some trip next h is = rw is (omega (arith, h, t.since some))

  -- the first window of all
  first_row : Row new (opened ∷ [])
  first_row =
      record {
        row = first_window (record { trip = span_of bytes; there = Memᴰ.head refl; opens = refl });
        ended = λ window there trip in-it. by_window window there trip in-it;
      }
    where
      of_trips : (trip : Span) → Memᴰ trip (span_of bytes ∷ []) → trip.checkout ≤ last_out_of new
      of_trips trip (Memᴰ.head is) = own_ended trip is
      of_trips trip (Memᴰ.tail there) = absurd (Memᴰ.not-nil there)

      by_window : (window : RiderWindow) → Memᴰ window (opened ∷ []) → (trip : Span) → Memᴰ trip window.trips → trip.checkout ≤ last_out_of new
      by_window window (Memᴰ.head is) trip in-it = of_trips trip (subst (λ (w : RiderWindow). Memᴰ trip w.trips) is in-it)
      by_window window (Memᴰ.tail there) trip in-it = absurd (Memᴰ.not-nil there)

  module _ {latest : RiderWindow} {earlier : List RiderWindow} (some : 1 ≤ trips_of book) (r : Row book (latest ∷ earlier)) where
    -- it opens the next one
    opens_row : latest.opening + day_minutes < checkout_of bytes → Row new (opened ∷ latest ∷ earlier)
    opens_row late =
        record {
          row =
              next_window (record { trip = span_of bytes; there = Memᴰ.head refl; opens = refl }) late
              (λ window there trip next in-it in-next. before window there trip next in-it in-next) r.row;
          ended = λ window there trip in-it. by_window window there trip in-it;
        }
      where
        before : (window : RiderWindow) → Memᴰ window (latest ∷ earlier) → Before window opened
        before window there trip next in-it (Memᴰ.head is) = behind some trip next (r.ended window there trip in-it) is
        before window there trip next in-it (Memᴰ.tail none) = absurd (Memᴰ.not-nil none)

        of_trips : (trip : Span) → Memᴰ trip (span_of bytes ∷ []) → trip.checkout ≤ last_out_of new
        of_trips trip (Memᴰ.head is) = own_ended trip is
        of_trips trip (Memᴰ.tail there) = absurd (Memᴰ.not-nil there)

        by_window :
            (window : RiderWindow) → Memᴰ window (opened ∷ latest ∷ earlier) → (trip : Span) → Memᴰ trip window.trips
            → trip.checkout ≤ last_out_of new
        by_window window (Memᴰ.head is) trip in-it = of_trips trip (subst (λ (w : RiderWindow). Memᴰ trip w.trips) is in-it)
        by_window window (Memᴰ.tail there) trip in-it = still_ended some (r.ended window there trip in-it)

    -- it belongs to the open one
    joins_row : Row new (joined latest ∷ earlier)
    joins_row = record { row = go r.row (λ window there. r.ended window there); ended = λ window there trip in-it. by_window window there trip in-it }
      where
        opener_stays : {window : RiderWindow} → Opener window → Opener (joined window)
        opener_stays o = record { trip = o.trip; there = Memᴰ.tail o.there; opens = o.opens }

        go :
            {earlier : List RiderWindow} → InRow (latest ∷ earlier)
            → ((window : RiderWindow) → Memᴰ window (latest ∷ earlier) → (trip : Span) → Memᴰ trip window.trips → trip.checkout ≤ last_out_of book)
            → InRow (joined latest ∷ earlier)
        go (first_window o) ended = first_window (opener_stays o)
        go (next_window o late before row) ended =
            next_window (opener_stays o) late
            (λ window there trip next in-it in-next. with_this before (λ w th. ended w (Memᴰ.tail th)) window there trip next in-it in-next) row
          where
            with_this :
                {others : List RiderWindow} → ((window : RiderWindow) → Memᴰ window others → Before window latest)
                → ((window : RiderWindow) → Memᴰ window others → (trip : Span) → Memᴰ trip window.trips → trip.checkout ≤ last_out_of book)
                → (window : RiderWindow) → Memᴰ window others → Before window (joined latest)
            with_this before ended window there trip next in-it (Memᴰ.head is) = behind some trip next (ended window there trip in-it) is
            with_this before ended window there trip next in-it (Memᴰ.tail later) = before window there trip next in-it later

        of_trips : (trip : Span) → Memᴰ trip (span_of bytes ∷ latest.trips) → trip.checkout ≤ last_out_of new
        of_trips trip (Memᴰ.head is) = own_ended trip is
        of_trips trip (Memᴰ.tail there) = still_ended some (r.ended latest (Memᴰ.head refl) trip there)

        by_window :
            (window : RiderWindow) → Memᴰ window (joined latest ∷ earlier) → (trip : Span) → Memᴰ trip window.trips
            → trip.checkout ≤ last_out_of new
        by_window window (Memᴰ.head is) trip in-it = of_trips trip (subst (λ (w : RiderWindow). Memᴰ trip w.trips) is in-it)
        by_window window (Memᴰ.tail there) trip in-it = still_ended some (r.ended window (Memᴰ.tail there) trip in-it)

  -- So the windows with the trip are in a row.
  row_with :
      {rides : List ChargedRide} (windows : List RiderWindow) → OpenFirst editions book rides windows → Row book windows
      → Row new (windows_with file editions rider bytes parts windows)
  unfolding windows_with
  row_with [] (none_open none is) r = first_row
  row_with (latest ∷ earlier) (one_open some opening edition is) r = by (leb (checkout_of bytes) (latest.opening + day_minutes)) refl
    where
      by :
          (fits : Bool) → leb (checkout_of bytes) (latest.opening + day_minutes) ≡ fits
          → Row new (cond fits (joined latest ∷ earlier) (opened ∷ latest ∷ earlier))
      by true e = joins_row some r
      by false e = opens_row some r (leb-false (checkout_of bytes) (latest.opening + day_minutes) e)

-- ---- The run.

row_after :
    {file : List ℕ} {editions : Editions} {rider : ℕ} {book : List ℕ} {rides : List ChargedRide} {windows : List RiderWindow}
    → KeptRun file editions rider book rides windows → Row book windows → (step : Step) (outcome : Outcome) → step_outcome file book step ≡ outcome
    → Row (book_after outcome book) (windows_after file editions rider (offer_of step).bytes outcome windows)
unfolding windows_after
row_after s r step (refused number place) e = r
row_after {file} {editions} {rider} {book} {windows = windows} s r step (accepted new parts) e =
    row_with file editions rider parts
    (timely (accepted-is file book (offer_of step).bytes (offer_of step).room (step_settles file book step e))) windows s.in_step r

row_from :
    {file : List ℕ} {editions : Editions} → ReadFile file editions → {rider : ℕ} → rider < 21 → (run : List Step) {book : List ℕ} {rides : List ChargedRide}
    {windows : List RiderWindow} → KeptRun file editions rider book rides windows → Row book windows
    → Row (book_after_steps file book run) (windows_over file editions rider (steps_from file book run) windows)
unfolding book_after_each each_from under windows_over
row_from read known [] s r = r
row_from {file} read known (step ∷ run) {book} s r =
    row_from read known run (after_outcome read known s step (step_outcome file book step) refl) (row_after s r step (step_outcome file book step) refl)

-- Two windows of a run never overlap in trips, and the next opens at a trip that does not fit the one before.
pub windows_in_row :
    (file : List ℕ) (editions : Editions) → ReadFile file editions → (rider : ℕ) → rider < 21 → (run : List Step) → InRow (windows_of file editions rider run)
windows_in_row file editions read rider known run =
    (row_from read known run (fresh_run file editions rider) (record { row = no_window; ended = λ window there. absurd (Memᴰ.not-nil there) })).row
