-- Where a trip is broken, and which rides it is, goes by its stops' numbers, its class, level and party and its duration alone: two trips that
-- have these alike are the same rides.
-- Assumes nothing.
use Prim.Native.Nat.{ℕ, zero, suc, ◌+◌, ◌-◌}
use mathlib.Core.Path.{◌≡◌, refl, sym, ap, ◌∙◌}
use mathlib.Core.List.{List, [], ◌∷◌}
use Rattle.layout.specs.declared.Counts.{Counts}
use Rattle.layout.specs.declared.Stop.{Stop}
use Rattle.areas.specs.Areas.{smallest_of}
use Rattle.trip.specs.declared.Trip.{Trip}
use Rattle.trip.specs.Record.{stop_number}
use Rattle.trip.specs.declared.Ride.{Ride}
use Rattle.fare.specs.declared.Breaking.{Breaking}
use Rattle.fare.specs.declared.Breaking.TheVariants.{Unbroken, At}
use Rattle.fare.specs.Rides.{stop_of, area_of_stops, ride_between, duration_of, last_of, ride_of}
use Rattle.fare.specs.Parts.{away, farther, farthest, break_of, first_part, second_part, rides_of}
use Rattle.fare.proofs.PartLaws.{one_ride, two_rides}

-- two trips, but for when they are
pub record SameFare (trip trip' : Trip) : Type 0 where
  pub class : trip'.class ≡ trip.class
  pub level : trip'.level ≡ trip.level
  pub party : trip'.party ≡ trip.party
  pub stops : trip'.stops ≡ trip.stops
  pub duration : duration_of trip' ≡ duration_of trip

-- Of two trips' bytes with the same stops:
module _ (bytes bytes' : List ℕ) (same : (i : ℕ) → stop_number bytes' i ≡ stop_number bytes i) (tariff : List ℕ) (counts : Counts) where
  pub stop_same : (i : ℕ) → stop_of tariff counts bytes' i ≡ stop_of tariff counts bytes i
  unfolding stop_of
  stop_same i = rw (same i)

  pub area_same : (first more : ℕ) → area_of_stops tariff counts bytes' first more ≡ area_of_stops tariff counts bytes first more
  unfolding area_of_stops
  area_same first zero = ap (λ (p : Stop). p.area) (stop_same first)
  area_same first (suc more) =
      ap (λ (a : ℕ). smallest_of tariff a (stop_of tariff counts bytes' (first + suc more)).area) (area_same first more)
      ∙ ap (λ (p : Stop). smallest_of tariff (area_of_stops tariff counts bytes first more) p.area) (stop_same (first + suc more))

  pub away_same : (i : ℕ) → away tariff counts bytes' i ≡ away tariff counts bytes i
  unfolding away
  away_same i = rw (stop_same 0, stop_same i)

  pub farthest_same : (more : ℕ) → farthest tariff counts bytes' more ≡ farthest tariff counts bytes more
  unfolding farthest farther
  farthest_same zero = refl
  farthest_same (suc more) =
      rw (farthest_same more, away_same (farthest tariff counts bytes more), away_same (2 + more))

  pub break_same : (n : ℕ) → break_of tariff counts bytes' n ≡ break_of tariff counts bytes n
  unfolding break_of
  break_same n =
      rw (
        area_same 0 (n - 1),
        farthest_same (n - 1 - 2),
        stop_same 0,
        stop_same (n - 1),
        stop_same (farthest tariff counts bytes (n - 1 - 2)),
      )

  module _ (trip trip' : Trip) (alike : SameFare trip trip') where
    pub between_same :
        (first last minutes : ℕ) → ride_between tariff counts bytes' trip' first last minutes ≡ ride_between tariff counts bytes trip first last minutes
    unfolding ride_between
    between_same first last minutes =
        rw (area_same first (last - first), stop_same first, stop_same last, alike.class, alike.level, alike.party)

    whole_same : ride_of tariff counts bytes' trip' ≡ ride_of tariff counts bytes trip
    unfolding ride_of
    whole_same = rw (between_same 0 (last_of trip') (duration_of trip'), alike.stops, alike.duration)

    first_same : (c : ℕ) → first_part tariff counts bytes' trip' c ≡ first_part tariff counts bytes trip c
    unfolding first_part
    first_same c = rw (between_same 0 c (duration_of trip'), alike.duration)

    second_same : (c : ℕ) → second_part tariff counts bytes' trip' c ≡ second_part tariff counts bytes trip c
    unfolding second_part
    second_same c = rw (between_same c (last_of trip') 0, alike.stops)

    pub rides_same : rides_of tariff counts bytes' trip' ≡ rides_of tariff counts bytes trip
    rides_same = go (break_of tariff counts bytes trip.stops) refl
      where
        there : break_of tariff counts bytes' trip'.stops ≡ break_of tariff counts bytes trip.stops
        there = rw alike.stops (break_same trip.stops)

        go : (b : Breaking) → break_of tariff counts bytes trip.stops ≡ b → rides_of tariff counts bytes' trip' ≡ rides_of tariff counts bytes trip
        go (Unbroken) e =
            one_ride tariff counts bytes' trip' (there ∙ e) ∙ ap (λ (r : Ride). r ∷ []) whole_same ∙ sym (one_ride tariff counts bytes trip e)
        go (At c) e =
            two_rides tariff counts bytes' trip' c (there ∙ e) ∙ rw (first_same c, second_same c) (sym (two_rides tariff counts bytes trip c e))
