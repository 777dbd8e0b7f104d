-- When an accepted trip is broken, in the rule's words: its parts are two exactly when it is broken at a change, where the first ends and the
-- second begins; otherwise it is one. Nothing inside one city of a marked region is broken.
-- Assumes nothing.
use Prim.Native.Nat.{ℕ, ◌-◌}
use native.Mathlib.Omega.{arith}
use mathlib.Core.Path.{◌≡◌, refl, sym, ap, subst, ◌∙◌}
use mathlib.Core.Logic.{◌↔◌}
use mathlib.Core.List.{List, [], ◌∷◌}
use lib.ListN.{length}
use Rattle.layout.specs.declared.Counts.{Counts}
use Rattle.editions.specs.declared.Editions.{Editions}
use Rattle.editions.specs.Reading.{ReadFile}
use Rattle.editions.proofs.Parts.{edition_read}
use Rattle.trip.specs.Record.{count_at}
use Rattle.trip.specs.Trips.{trip_of}
use Rattle.trip.specs.Clauses.{GoodTrip}
use Rattle.trip.specs.declared.Ride.{Ride}
use Rattle.fare.specs.declared.Breaking.{Breaking}
use Rattle.fare.specs.declared.Breaking.TheVariants.{Unbroken, At}
use Rattle.fare.specs.Rides.{ride_of}
use Rattle.fare.specs.Parts.{break_of, InMarkedCity, BrokenAt, first_part, second_part}
use Rattle.fare.specs.Clauses.{Riding}
use Rattle.fare.proofs.Changes.{farthest_unique}
use Rattle.fare.proofs.Breaks.{said_broken, broken_says, said_unbroken, never_in_marked_city}
use Rattle.fare.proofs.PartLaws.{one_ride, two_rides}
use Rattle.fare.proofs.GoodTrips.{riding}
use Rattle.statement.specs.Record.{Part}
use Rattle.deciding.specs.Refusals.{window_in, tariff_for, counts_for, rides_for}
use Rattle.settle.specs.Outcome.{accepted, settled}
use Rattle.promises.specs.Conditions.{trip_rides, AcceptedBy, rides_in, minutes_of, ride_on}
use Rattle.promises.proofs.Refusing.{editions_one}
use Rattle.promises.proofs.Answers.{accepted-is, clear, rides_are, rides-length}

module _ (file : List ℕ) (editions : Editions) (read : ReadFile file editions) (book bytes : List ℕ) (room : ℕ) {new : List ℕ} {parts : List Part}
    (e : settled file book bytes room ≡ accepted new parts) where
  -- under the edition of the trip's window
  abbrev tariff : List ℕ
  tariff = tariff_for file editions book bytes

  abbrev counts : Counts
  counts = counts_for editions book bytes

  says : AcceptedBy file book bytes room new parts
  says = accepted-is file book bytes room e

  same : says.editions ≡ editions
  same = editions_one file says.editions says.read editions read

  -- a part for each of its rides
  are : rides_in parts ≡ trip_rides tariff counts bytes
  are = rides_are says ∙ ap (λ (these : Editions). rides_for file these book bytes) same

  there : Riding tariff counts bytes (count_at bytes 0)
  there =
      riding (edition_read file editions read (window_in editions book bytes).edition)
      (subst (λ (these : Editions). GoodTrip bytes (counts_for these book bytes).stops) same (clear says).good)

  many : (rides : List Ride) → trip_rides tariff counts bytes ≡ rides → length parts ≡ length rides
  many rides is = sym (rides-length parts) ∙ ap length (are ∙ is)

  -- Broken at a change it has two parts: from the first stop to the change, with the whole duration; and from the change to the last stop,
  -- with 0 minutes.
  pub broken_parts :
      (c : ℕ) → BrokenAt tariff counts bytes (count_at bytes 0) c
      → rides_in parts ≡ ride_on tariff counts bytes 0 c (minutes_of bytes) ∷ ride_on tariff counts bytes c (count_at bytes 0 - 1) 0 ∷ []
  unfolding first_part second_part
  broken_parts c is = are ∙ two_rides tariff counts bytes (trip_of bytes) c (said_broken there c is)

  -- Nowhere broken it has one, from the first stop to the last.
  pub whole_part :
      ((c : ℕ) → BrokenAt tariff counts bytes (count_at bytes 0) c → ⊥) → rides_in parts ≡ ride_on tariff counts bytes 0 (count_at bytes 0 - 1) (minutes_of bytes) ∷ []
  unfolding ride_of
  whole_part nowhere = are ∙ one_ride tariff counts bytes (trip_of bytes) (said_unbroken there nowhere)

  -- So it has two parts exactly when it is broken somewhere,
  pub two_parts : length parts ≡ 2 ↔ ((c : ℕ) × BrokenAt tariff counts bytes (count_at bytes 0) c)
  two_parts = (go (break_of tariff counts bytes (count_at bytes 0)) refl, λ is. many _ (two_rides tariff counts bytes (trip_of bytes) is.0 (said_broken there is.0 is.1)))
    where
      go : (b : Breaking) → break_of tariff counts bytes (count_at bytes 0) ≡ b → length parts ≡ 2 → (c : ℕ) × BrokenAt tariff counts bytes (count_at bytes 0) c
      go (Unbroken) whole two = absurd (omega (arith, many _ (one_ride tariff counts bytes (trip_of bytes) whole)))
      go (At c) broken two = (c, broken_says there c broken)

  -- and one exactly when it is nowhere broken.
  pub one_part : length parts ≡ 1 ↔ ((c : ℕ) → BrokenAt tariff counts bytes (count_at bytes 0) c → ⊥)
  one_part = (
    λ one c is. omega (arith, two_parts.1 (c, is)),
    λ nowhere. many _ (one_ride tariff counts bytes (trip_of bytes) (said_unbroken there nowhere)),
  )

  -- Inside one city whose region has the mark 1 it has one.
  pub kept_in_marked_city : InMarkedCity tariff counts bytes (count_at bytes 0) → length parts ≡ 1
  kept_in_marked_city marked = many _ (one_ride tariff counts bytes (trip_of bytes) (never_in_marked_city there marked))

-- A trip is broken at one change alone.
pub broken_once :
    {tariff : List ℕ} {counts : Counts} {bytes : List ℕ} {stops c c' : ℕ} → BrokenAt tariff counts bytes stops c
    → BrokenAt tariff counts bytes stops c' → c ≡ c'
broken_once {tariff} {counts} {bytes} {stops} is is' = farthest_unique tariff counts bytes (stops - 1) _ _ is.farthest_change is'.farthest_change
