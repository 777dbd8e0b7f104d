-- First class in a marked town: what the areas of a trip's rides are, whatever its stamps; the definition says what the rule's words say,
-- both ways; and the mark is that of the area that is priced.
-- Assumes nothing.
use Prim.Native.Nat.{ℕ, ◌-◌}
use mathlib.Core.Path.{◌≡◌, refl, sym, ap, ◌∙◌}
use mathlib.Core.List.{List, [], ◌∷◌}
use mathlib.Core.Bool.{Bool, true, false, ◌||◌, or-true, or-false, false≢true}
use borrow.Author.Tests.{eqb-true, eq-eqb, ne_eqb}
use lib.Dec.{eqb}
use Rattle.wire.proofs.Tests.{both_left, both_right, one_of}
use Rattle.layout.specs.declared.Counts.{Counts}
use Rattle.layout.specs.declared.Town.{Town}
use Rattle.layout.specs.declared.Town.TheVariants.{Unmarked, BaseDropped, KmDropped}
use Rattle.layout.specs.declared.Kind.{Kind}
use Rattle.layout.specs.declared.Kind.TheVariants.{Common, Aachen}
use Rattle.areas.specs.Areas.{area_at, is_aachen, town_at, is_marked, in_marked_town}
use Rattle.areas.proofs.Within.{area_common, area_aachen}
use Rattle.trip.specs.declared.Trip.{Trip}
use Rattle.trip.specs.declared.Ride.{Ride}
use Rattle.fare.specs.declared.Breaking.TheVariants.{Unbroken, At}
use Rattle.fare.specs.Rides.{ride_between, last_of, ride_of}
use Rattle.fare.specs.Parts.{break_of, first_part, second_part, rides_of}
use Rattle.fare.specs.Towns.{some_in_town, town_refuses, MarkedTown, base_dropped, km_dropped, SomeRide, this_ride, later_ride, FirstClassInTown}
use Rattle.fare.specs.Clauses.{between_in_town, TownRefuses}
use Rattle.fare.proofs.PartLaws.{one_ride, two_rides}

module _ (tariff : List ℕ) (counts : Counts) (bytes : List ℕ) where
  abbrev between : ℕ → ℕ → Bool
  between = between_in_town tariff counts bytes

  -- of the whole trip in class 1, or of its two parts
  whole :
      (trip : Trip) → break_of tariff counts bytes trip.stops ≡ Unbroken → trip.class ≡ 1
      → town_refuses tariff counts bytes trip ≡ between 0 (last_of trip)
  unfolding town_refuses some_in_town ride_of ride_between
  whole trip e first = rw (eq-eqb trip.class 1 first, one_ride tariff counts bytes trip e) (or-false (between 0 (last_of trip)))

  parts :
      (trip : Trip) (c : ℕ) → break_of tariff counts bytes trip.stops ≡ At c → trip.class ≡ 1
      → town_refuses tariff counts bytes trip ≡ (between 0 c || between c (last_of trip))
  unfolding town_refuses some_in_town first_part second_part ride_between
  parts trip c e first =
      rw (eq-eqb trip.class 1 first, two_rides tariff counts bytes trip c e)
      (ap (λ later. between 0 c || later) (or-false (between c (last_of trip))))

  -- The contract of `town_refuses`, one way through it after the other.
  pub not_first : {stops class : ℕ} → (class ≡ 1 → ⊥) → TownRefuses tariff counts bytes stops class false
  unfolding town_refuses
  not_first {stops} {class} other =
      record { value = λ trip n same. rw (ne_eqb trip.class 1 (λ first. other (sym same ∙ first))) }

  pub first_whole :
      {stops class : ℕ} {r : Bool} → class ≡ 1 → break_of tariff counts bytes stops ≡ Unbroken → r ≡ between 0 (stops - 1)
      → TownRefuses tariff counts bytes stops class r
  first_whole first e in-town =
      record { value = λ trip n same. rw (whole trip (ap (break_of tariff counts bytes) n ∙ e) (same ∙ first), n) in-town }

  pub first_parts :
      {stops class : ℕ} {r : Bool} (c : ℕ) → class ≡ 1 → break_of tariff counts bytes stops ≡ At c
      → r ≡ (between 0 c || between c (stops - 1)) → TownRefuses tariff counts bytes stops class r
  first_parts c first e in-town =
      record { value = λ trip n same. rw (parts trip c (ap (break_of tariff counts bytes) n ∙ e) (same ∙ first), n) in-town }

-- A marked town, and first class in one, as a test and in words.
module _ (tariff : List ℕ) (counts : Counts) where
  pub marked_says : (area : ℕ) → in_marked_town tariff area ≡ true → MarkedTown tariff counts area
  unfolding in_marked_town is_marked
  marked_says area e = go (town_at tariff area) refl e
    where
      go : (town : Town) → town_at tariff area ≡ town → is_marked town ≡ true → MarkedTown tariff counts area
      go (Unmarked) is e = absurd (false≢true e)
      go (BaseDropped) is e = base_dropped is
      go (KmDropped) is e = km_dropped is

  pub said_marked : {area : ℕ} → MarkedTown tariff counts area → in_marked_town tariff area ≡ true
  unfolding in_marked_town is_marked
  said_marked (base_dropped is) = rw is
  said_marked (km_dropped is) = rw is

  some_says : (rides : List Ride) → some_in_town tariff counts rides ≡ true → SomeRide (λ ride. MarkedTown tariff counts ride.area) rides
  unfolding some_in_town
  some_says [] e = absurd (false≢true e)
  some_says (ride ∷ rest) e =
      one_of (in_marked_town tariff ride.area) _ e (λ this. this_ride (marked_says ride.area this))
      (λ later. later_ride (some_says rest later))

  said_some : {rides : List Ride} → SomeRide (λ ride. MarkedTown tariff counts ride.area) rides → some_in_town tariff counts rides ≡ true
  unfolding some_in_town
  said_some (this_ride this) = rw (said_marked this)
  said_some (later_ride {ride} later) = rw (said_some later) (or-true (in_marked_town tariff ride.area))

  module _ (bytes : List ℕ) (trip : Trip) where
    pub refused_says : town_refuses tariff counts bytes trip ≡ true → FirstClassInTown tariff counts bytes trip
    unfolding town_refuses
    refused_says e =
        let rides = rides_of tariff counts bytes trip in
        record {
          first_class = eqb-true trip.class 1 (both_left (eqb trip.class 1) (some_in_town tariff counts rides) e);
          in-town = some_says rides (both_right (eqb trip.class 1) (some_in_town tariff counts rides) e);
        }

    pub said_refused : FirstClassInTown tariff counts bytes trip → town_refuses tariff counts bytes trip ≡ true
    unfolding town_refuses
    said_refused says = rw (eq-eqb trip.class 1 says.first_class) (said_some says.in-town)

-- The mark of an area that is priced: kind 1 has none.
abbrev pub kind_marked : Kind → Bool
kind_marked (Common) = false
kind_marked (Aachen ticket price town) = is_marked town

pub town_priced : (tariff : List ℕ) (counts : Counts) (a : ℕ) → in_marked_town tariff a ≡ kind_marked (area_at tariff a).kind
unfolding in_marked_town town_at is_marked
town_priced tariff counts a = go (is_aachen tariff a) refl
  where
    go : (is : Bool) → is_aachen tariff a ≡ is → in_marked_town tariff a ≡ kind_marked (area_at tariff a).kind
    go true e = rw (area_aachen tariff a e) refl
    go false e = rw (area_common tariff a e, e) refl
