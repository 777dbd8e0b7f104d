-- Offsets: a trip given with either offset is settled the same to the byte, and a night moved by hours or days, each stamp with its own offset,
-- is settled alike, where its windows open under the same editions.
-- Assumes nothing.
use Prim.Native.Nat.{ℕ, ◌+◌, ◌*◌}
use native.Mathlib.Omega.{arith}
use mathlib.Core.Path.{◌≡◌, refl, sym, ap, ◌∙◌}
use mathlib.Core.List.{List}
use Rattle.units.specs.Day.{day_minutes}
use Rattle.calendar.proofs.Order.{moved}
use Rattle.trip.specs.Record.{checkin_place, checkout_place}
use Rattle.trip.specs.Moments.{stamp_at, checkin_of, checkout_of}
use Rattle.trip.proofs.Stamps.{stamps}
use Rattle.editions.specs.declared.Editions.{Editions}
use Rattle.editions.specs.declared.FileReading.{FileReading}
use Rattle.editions.specs.declared.FileReading.TheVariants.{Fault, Faultless}
use Rattle.editions.specs.Editions.{in_force}
use Rattle.editions.specs.Reading.{read_file, ReadFile}
use Rattle.ledger.specs.Words.{fresh_book}
use Rattle.deciding.specs.Refusals.{window_in, tariff_for, counts_for, rows, Verdict, nothing, found, first_of}
use Rattle.settle.specs.Outcome.{accepted_trip, settled}
use Rattle.settle.specs.Steps.{Step, offer_of, step_outcome}
use Rattle.deciding.proofs.Decisions.{clear_first, refused_first}
use Rattle.settle.proofs.Ways.{fault_way, refused_way, accepted_way}
use Rattle.promises.specs.Runs.{book_of}
use Rattle.promises.specs.Moved.{
  MovedTrip,
  MovedStamps,
  MovedOutcome,
  MovedStep,
  moved_settling,
  moved_posting,
  moved_none,
  moved_more,
  MovedRun,
  MovedNight,
  OpensAlike,
  OpenAlike,
}
use Rattle.promises.proofs.Shifts.{Shifted, rides_alike, rows_same}
use Rattle.promises.proofs.Midnight.{night_outcomes}

-- A trip whose stamps tell moments d minutes later is d minutes later.
pub moved_trip : {d : ℕ} {trip trip' : List ℕ} → MovedStamps d trip trip' → MovedTrip d trip trip'
unfolding checkin_of checkout_of
moved_trip {d} {trip} {trip'} m =
    let (from, to) = stamps trip m.stamps in
    let (from', to') = stamps trip' m.stamps' in
    record {
      same = m.same;
      stamps = m.stamps;
      stamps' = m.stamps';
      checkin = (moved d (stamp_at trip checkin_place) (stamp_at trip' checkin_place) from from').0 m.checkin;
      checkout = (moved d (stamp_at trip checkout_place) (stamp_at trip' checkout_place) to to').0 m.checkout;
    }

-- ---- One moment, either offset.

module _ (file book : List ℕ) (room : ℕ) {trip trip' : List ℕ} (one : MovedStamps 0 trip trip') where
  start : checkin_of trip' ≡ checkin_of trip
  start = omega (arith, (moved_trip one).checkin)

  end : checkout_of trip' ≡ checkout_of trip
  end = omega (arith, (moved_trip one).checkout)

  -- two settlings on one book, moved by nothing
  s : Shifted 0 0 book trip book trip'
  s =
      record {
        trip = one.same;
        stamps = one.stamps;
        stamps' = one.stamps';
        checkin = ap (λ (m : ℕ). m + 0) start;
        checkout = ap (λ (m : ℕ). m + 0) end;
        others = record { size = refl; trips = refl; sums = λ i h. refl };
        opening = λ used. refl;
        last = λ used. refl;
        unused = λ none. (refl, refl);
        in-calendar = refl;
      }

  -- the window is one
  window_one : (editions : Editions) → window_in editions book trip' ≡ window_in editions book trip
  window_one editions = rw (start, end)

  by_table :
      (editions : Editions) → ReadFile file editions → (f : Verdict) → first_of (rows file editions book trip room) ≡ f
      → first_of (rows file editions book trip' room) ≡ f → settled file book trip room ≡ settled file book trip' room
  unfolding accepted_trip
  by_table editions read (found why) e e' =
      refused_way file book trip room editions read (refused_first file editions book trip room e)
      ∙ sym (refused_way file book trip' room editions read (refused_first file editions book trip' room e'))
  by_table editions read nothing e e' =
      rw (
        accepted_way file book trip room editions read _ _ (clear_first file editions book trip room e),
        accepted_way file book trip' room editions read _ _ (clear_first file editions book trip' room e'),
        window_one editions,
        rides_alike s (tariff_for file editions book trip) (counts_for editions book trip),
        end,
      )

  -- A trip whose stamps are given with the one offset or with the other, each for the same moment, has the same outcome: the same answer, the
  -- same book to the byte and the same parts.
  pub either_offset : settled file book trip room ≡ settled file book trip' room
  either_offset = go (read_file file) refl
    where
      go : (r : FileReading) → read_file file ≡ r → settled file book trip room ≡ settled file book trip' room
      go (Fault n place) e = fault_way file book trip room n place e ∙ sym (fault_way file book trip' room n place e)
      go (Faultless editions) e = by_table editions e (first_of (rows file editions book trip room)) refl
          (ap first_of (rows_same s editions (λ _. ap (in_force editions) start) file room))

-- ---- A night moved by its stamps.

moved_step : {d : ℕ} {step step' : Step} → MovedStep d (MovedStamps d) step step' → MovedStep d (MovedTrip d) step step'
moved_step (moved_settling trip room) = moved_settling (moved_trip trip) room
moved_step (moved_posting trip records) = moved_posting (moved_trip trip) records

moved_run : {d : ℕ} {run run' : List Step} → MovedNight d run run' → MovedRun d run run'
moved_run moved_none = moved_none
moved_run (moved_more step more) = moved_more (moved_step step) (moved_run more)

-- A trip after a night, all of whose stamps tell moments d minutes later, is refused or accepted as before, with the same charges.
pub moved_night :
    (file : List ℕ) {d : ℕ} {step step' : Step} {run run' : List Step} → MovedStep d (MovedStamps d) step step' → MovedNight d run run'
    → OpenAlike file d fresh_book run → OpensAlike file d (book_of file run) (offer_of step).bytes
    → MovedOutcome d (step_outcome file (book_of file run) step) (step_outcome file (book_of file run') step')
moved_night file step before alike opens = night_outcomes file (moved_step step) (moved_run before) alike opens

-- So it is with a night moved by whole hours, and with one moved by whole days.
pub hours_later :
    (hours : ℕ) (file : List ℕ) {step step' : Step} {run run' : List Step} → MovedStep (60 * hours) (MovedStamps (60 * hours)) step step'
    → MovedNight (60 * hours) run run' → OpenAlike file (60 * hours) fresh_book run
    → OpensAlike file (60 * hours) (book_of file run) (offer_of step).bytes
    → MovedOutcome (60 * hours) (step_outcome file (book_of file run) step) (step_outcome file (book_of file run') step')
hours_later hours file step before alike opens = moved_night file step before alike opens

pub days_later :
    (days : ℕ) (file : List ℕ) {step step' : Step} {run run' : List Step}
    → MovedStep (day_minutes * days) (MovedStamps (day_minutes * days)) step step' → MovedNight (day_minutes * days) run run'
    → OpenAlike file (day_minutes * days) fresh_book run → OpensAlike file (day_minutes * days) (book_of file run) (offer_of step).bytes
    → MovedOutcome (day_minutes * days) (step_outcome file (book_of file run) step) (step_outcome file (book_of file run') step')
days_later days file step before alike opens = moved_night file step before alike opens
