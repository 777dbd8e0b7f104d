-- How many rides a trip is charged as, and how many bytes their records take: by where it is broken.
-- Assumes nothing.
use Prim.Native.Nat.{ℕ, ◌*◌, ◌≤◌}
use native.Mathlib.Nat.{le_refl, suc-mul, zero-mul, mul-le-mul}
use native.Mathlib.Omega.{arith}
use mathlib.Core.Path.{◌≡◌, refl, sym, ap, ◌∙◌}
use mathlib.Core.List.{List, [], ◌∷◌}
use lib.ListN.{length}
use Rattle.layout.specs.declared.Counts.{Counts}
use Rattle.trip.specs.declared.Trip.{Trip}
use Rattle.trip.specs.declared.Party.{Party}
use Rattle.trip.specs.declared.Ride.{Ride}
use Rattle.fare.specs.declared.Breaking.{Breaking}
use Rattle.fare.specs.declared.Breaking.TheVariants.{Unbroken, At}
use Rattle.fare.specs.Parts.{break_of, rides_of}
use Rattle.fare.specs.Clauses.{EachRide, none, more, OfTrip}
use Rattle.fare.proofs.PartLaws.{one_ride, two_rides, rides_of_trip}
use Rattle.statement.specs.Record.{largest_size, record_size, statement_size}
use Rattle.deciding.specs.Deciding.{rides_in, records_size}

few_in : (b : Breaking) → rides_in b ≤ 2
few_in Unbroken = omega arith
few_in (At c) = le_refl 2

module _ (tariff : List ℕ) (counts : Counts) (bytes : List ℕ) (trip : Trip) where
  abbrev broken : Breaking
  broken = break_of tariff counts bytes trip.stops

  pub rides_count : length (rides_of tariff counts bytes trip) ≡ rides_in broken
  rides_count = go broken refl
    where
      go : (b : Breaking) → broken ≡ b → length (rides_of tariff counts bytes trip) ≡ rides_in b
      go (Unbroken) e = ap length (one_ride tariff counts bytes trip e)
      go (At c) e = ap length (two_rides tariff counts bytes trip c e)

  -- rides of the trip's party have records of one size
  sizes : (size : ℕ) → record_size trip.party ≡ size → (rides : List Ride) → EachRide (OfTrip trip) rides → statement_size rides ≡ length rides * size
  unfolding statement_size
  sizes size is [] none = sym (zero-mul size)
  sizes size is (ride ∷ rest) (more of others) =
      let one : record_size ride.party ≡ size = ap (λ (p : Party). record_size p) of.party ∙ is in
      omega (arith, one, sizes size is rest others, suc-mul (length rest) size)

  pub rides_size : statement_size (rides_of tariff counts bytes trip) ≡ records_size broken trip.party
  rides_size =
      sizes (record_size trip.party) refl (rides_of tariff counts bytes trip) (rides_of_trip tariff counts bytes trip)
      ∙ ap (λ (n : ℕ). n * record_size trip.party) rides_count

  -- The records of the largest party take 266 bytes each.
  pub rides_most :
      trip.party.adults ≤ 10 → trip.party.children ≤ 10 → trip.party.bicycles ≤ 10
      → statement_size (rides_of tariff counts bytes trip) ≤ 2 * largest_size
  rides_most adults children bicycles =
      let small : record_size trip.party ≤ largest_size = omega arith in
      rw rides_size (mul-le-mul (few_in broken) small)
