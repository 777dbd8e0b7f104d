-- A trip record that fills its slice, and whose class, level, party and number of stops are in their ranges, meets neither row of the trip's own: it is
-- never refused with 5, and with 6 only for its town. So is every record that is kept of a torn roll (`salvage/Records`: `not_five_nor_six`).
-- Assumes nothing.
use Prim.Native.Nat.{ℕ, ◌≤◌}
use native.Mathlib.Omega.{arith}
use mathlib.Core.Path.{◌≡◌, sym, ◌∙◌}
use mathlib.Core.Bool.{true, false≢true}
use mathlib.Core.List.{List}
use Rattle.editions.specs.declared.Editions.{Editions}
use Rattle.editions.specs.declared.FileReading.TheVariants.{Fault}
use Rattle.editions.specs.Reading.{ReadFile}
use Rattle.editions.specs.InWords.{FileSays}
use Rattle.editions.proofs.FileLaws.{file_exactly}
use Rattle.editions.proofs.Cases.{file_fault_most}
use Rattle.trip.specs.Record.{class_at, level_at, party_at, count_at}
use Rattle.trip.specs.Trips.{is_trip, party_right, trip_of}
use Rattle.trip.proofs.Shapes.{five}
use Rattle.trip.proofs.Ranges.{six}
use Rattle.fare.specs.Towns.{FirstClassInTown}
use Rattle.deciding.specs.declared.refusals.Refusal.{Refusal}
use Rattle.deciding.specs.declared.refusals.Refusal.TheVariants as why
use Rattle.deciding.specs.Refusals.{refusal, tariff_for, counts_for, trip_rows, rows, nothing, first_of}
use Rattle.deciding.proofs.Rows.{first_holds}
use Rattle.settle.specs.Outcome.{settled, refused}
use Rattle.promises.specs.Conditions.{condition_with, condition, RefusedBy, by_file, by_others}
use Rattle.promises.proofs.Answers.{refused-is}

module _
    (file book trip : List ℕ) (room : ℕ) (whole : is_trip trip ≡ true)
    (party : party_right (class_at trip 0) (level_at trip 0) (party_at trip 0) (count_at trip 0) ≡ true)
  where
    -- the trip's own rows are clear
    pub own_rows : first_of (trip_rows trip) ≡ nothing
    unfolding first_of
    own_rows = rw (whole, party)

    -- 1 to 3 are the file's
    no_fault : {n place : ℕ} → FileSays file (Fault n place) → 4 ≤ n → ⊥
    no_fault {n} {place} says high = omega (arith, (file_fault_most file n place ((file_exactly file (Fault n place)).1 says)).0)

    -- what the conditions say of a refusal with 5 or 6
    by_why : (editions : Editions) (r : Refusal) → condition file editions book trip room r → (refusal r ≡ 5) → ⊥
    unfolding condition_with
    by_why editions why.NoTrip met is = false≢true (sym ((five trip).1 met) ∙ whole)
    by_why editions why.UnsoundBook met is = omega arith
    by_why editions why.WrongParty met is = omega arith
    by_why editions why.UnknownStop met is = omega arith
    by_why editions why.NoFirstClass met is = omega arith
    by_why editions why.WrongStamp met is = omega arith
    by_why editions why.WrongOrder met is = omega arith
    by_why editions why.Mistap met is = omega arith
    by_why editions why.TooEarly met is = omega arith
    by_why editions why.NoEdition met is = omega arith
    by_why editions why.FullWindow met is = omega arith
    by_why editions why.NoRoom met is = omega arith
    by_why editions why.OtherRecord met is = omega arith

    town_why :
        (editions : Editions) (r : Refusal) → condition file editions book trip room r → (refusal r ≡ 6)
        → FirstClassInTown (tariff_for file editions book trip) (counts_for editions book trip) trip (trip_of trip)
    unfolding condition_with
    town_why editions why.NoFirstClass met is = met
    town_why editions why.WrongParty met is =
        absurd (false≢true (sym ((six (class_at trip 0) (level_at trip 0) (party_at trip 0) (count_at trip 0)).1 met) ∙ party))
    town_why editions why.NoTrip met is = absurd (omega arith)
    town_why editions why.UnsoundBook met is = absurd (omega arith)
    town_why editions why.UnknownStop met is = absurd (omega arith)
    town_why editions why.WrongStamp met is = absurd (omega arith)
    town_why editions why.WrongOrder met is = absurd (omega arith)
    town_why editions why.Mistap met is = absurd (omega arith)
    town_why editions why.TooEarly met is = absurd (omega arith)
    town_why editions why.NoEdition met is = absurd (omega arith)
    town_why editions why.FullWindow met is = absurd (omega arith)
    town_why editions why.NoRoom met is = absurd (omega arith)
    town_why editions why.OtherRecord met is = absurd (omega arith)

    pub never_five : {place : ℕ} → settled file book trip room ≡ refused 5 place → ⊥
    never_five {place} e = met (refused-is file book trip room e)
      where
        met : RefusedBy file book trip room 5 place → ⊥
        met (by_file says) = no_fault says (omega arith)
        met (by_others editions read r is at first) =
            by_why editions r (first_holds (condition file editions book trip room) (rows file editions book trip room) first) (sym is)

    pub six_for_its_town :
        {place : ℕ} → settled file book trip room ≡ refused 6 place
        → (editions : Editions) × ReadFile file editions
        × FirstClassInTown (tariff_for file editions book trip) (counts_for editions book trip) trip (trip_of trip)
    six_for_its_town {place} e = met (refused-is file book trip room e)
      where
        met :
            RefusedBy file book trip room 6 place
            → (editions : Editions) × ReadFile file editions
            × FirstClassInTown (tariff_for file editions book trip) (counts_for editions book trip) trip (trip_of trip)
        met (by_file says) = absurd (no_fault says (omega arith))
        met (by_others editions read r is at first) =
            (editions, read, town_why editions r (first_holds (condition file editions book trip room) (rows file editions book trip room) first) (sym is))
