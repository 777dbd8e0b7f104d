-- The test at a place: what a record has that passes it, and that it goes by the record's own bytes alone, wherever they stand.
-- Assumes nothing.
use Prim.Native.Nat.{ℕ, ◌+◌, ◌≤◌}
use native.Mathlib.Omega.{arith}
use mathlib.Core.Path.{◌≡◌, refl, sym, ap, ◌∙◌}
use mathlib.Core.Bool.{Bool, true, false, cond}
use mathlib.Core.List.{List, ◌++◌}
use Rattle.std.specs.Prelude.{Option, None, Some}
use Rattle.trip.specs.declared.Shape.{Shape}
use Rattle.trip.specs.declared.Shape.TheVariants.{Stops, NoTrip}
use borrow.Author.Tests.{eq-eqb, le-ltb}
use lib.ListN.{length, take, drop, length-drop, length-append}
use lib.Seq.{take_all, take_at, length-take-le}
use Rattle.wire.specs.Number.{get_le}
use Rattle.wire.proofs.Number.{get_drop, get_take}
use Rattle.wire.proofs.Frames.{whole, whole_back}
use Rattle.trip.specs.Record.{trip_kind, body_size, trip_size, class_at, level_at, party_at, count_at, shape_at}
use Rattle.trip.specs.Trips.{is_trip, party_right}
use Rattle.trip.proofs.Shapes.{TripAt, trip_at, own_shape, whole_given, whole_fills}
use Rattle.trip.proofs.Ranges.{party_ranges}
use Rattle.salvage.specs.Salvage.{kept_at}
use Rattle.salvage.specs.Right.{Passes}

-- A trip record at a place is found there.
trip_given : (b : List ℕ) (at n : ℕ) → TripAt b at n → shape_at b at ≡ Stops n
trip_given b at n t =
    own_shape b at trip_kind (body_size n) n t.frame (le-ltb (body_size n) (body_size 0) (omega arith)) (sym t.count)
    (eq-eqb (body_size n) (body_size n) refl)

-- A record that passes: a trip record at the place, whose fields are in their ranges.
pub record KeptAt (b : List ℕ) (at size : ℕ) : Type 0 where
  pub stops : ℕ
  pub trip : TripAt b at stops
  pub party : party_right (class_at b at) (level_at b at) (party_at b at) stops ≡ true
  pub size_is : size ≡ trip_size stops

module _ (b : List ℕ) (at : ℕ) where
  -- Each way through `kept_at`.
  pub no_record : shape_at b at ≡ NoTrip → kept_at b at ≡ None
  unfolding kept_at
  no_record e = rw (e, kept_at)

  pub by_party :
      (n : ℕ) {t : Bool} → shape_at b at ≡ Stops n → party_right (class_at b at) (level_at b at) (party_at b at) n ≡ t
      → kept_at b at ≡ cond t (Some (trip_size n)) None
  unfolding kept_at
  by_party n e p = rw (e, kept_at, p)

  -- What is kept is such a record, and such a record is kept.
  pub kept_is : (size : ℕ) → kept_at b at ≡ Some size → KeptAt b at size
  kept_is size e = go (shape_at b at) refl
    where
      tested : (n : ℕ) (t : Bool) → shape_at b at ≡ Stops n → party_right (class_at b at) (level_at b at) (party_at b at) n ≡ t → KeptAt b at size
      tested n true shape p = record { stops = n; trip = trip_at b at n shape; party = p; size_is = let found : ◌≡◌ {A = Option ℕ} (Some size) (Some (trip_size n)) = sym e ∙ by_party n shape p in cc }
      tested n false shape p = absurd (let nothing : ◌≡◌ {A = Option ℕ} (Some size) None = sym e ∙ by_party n shape p in let z : ◌≡◌ {A = ℕ} 0 1 = cc in omega arith)

      go : (s : Shape) → shape_at b at ≡ s → KeptAt b at size
      go NoTrip shape = absurd (let nothing : ◌≡◌ {A = Option ℕ} (Some size) None = sym e ∙ no_record shape in let z : ◌≡◌ {A = ℕ} 0 1 = cc in omega arith)
      go (Stops n) shape = tested n (party_right (class_at b at) (level_at b at) (party_at b at) n) shape refl

  pub kept_back : (size : ℕ) → KeptAt b at size → kept_at b at ≡ Some size
  kept_back size k = by_party k.stops (trip_given b at k.stops k.trip) k.party ∙ ap Some (sym k.size_is)

  -- It ends within the roll, and has 28 bytes at least.
  pub kept_range : (size : ℕ) → kept_at b at ≡ Some size → (at + size ≤ length b) × (28 ≤ size)
  kept_range size e =
      let k = kept_is size e in
      let ranges = party_ranges (class_at b at) (level_at b at) (party_at b at) k.stops k.party in
      (omega (arith, k.size_is, k.trip.fits), omega (arith, k.size_is, ranges.least))

-- The same bytes at another place, of another roll, pass too.
module _ (b b' : List ℕ) (at at' size : ℕ) (same : take size (drop at b) ≡ take size (drop at' b')) where
  same_number : (k o p p' : ℕ) → p ≡ at + o → p' ≡ at' + o → o + k ≤ size → get_le k b' p' ≡ get_le k b p
  same_number k o p p' is is' fits =
      rw (is, is')
      (sym (get_drop k at' b' o) ∙ sym (get_take k size (drop at' b') o fits) ∙ ap (λ (l : List ℕ). get_le k l o) (sym same)
      ∙ get_take k size (drop at b) o fits ∙ get_drop k at b o)

  same_trip : (n : ℕ) → TripAt b at n → size ≡ trip_size n → at' + size ≤ length b' → TripAt b' at' n
  same_trip n t is within =
      let w = whole b at trip_kind (body_size n) t.frame in
      record {
        frame =
            whole_back b' at' trip_kind (body_size n)
            (record {
              kind_is = w.kind_is ∙ sym (same_number 2 2 (at + 2) (at' + 2) refl refl (omega arith));
              length_is = same_number 2 0 at at' (omega arith) (omega arith) (omega arith) ∙ w.length_is;
              fits = omega arith;
              short = w.short;
            });
        count = same_number 1 23 (at + 23) (at' + 23) refl refl (omega arith) ∙ t.count;
        fits = omega arith;
      }

  same_party :
      (n : ℕ) → 24 ≤ size → party_right (class_at b at) (level_at b at) (party_at b at) n ≡ true
      → party_right (class_at b' at') (level_at b' at') (party_at b' at') n ≡ true
  unfolding party_at
  same_party n long right =
      rw (
        same_number 1 18 (at + 18) (at' + 18) refl refl (omega arith),
        same_number 1 19 (at + 19) (at' + 19) refl refl (omega arith),
        same_number 1 20 (at + 20) (at' + 20) refl refl (omega arith),
        same_number 1 21 (at + 21) (at' + 21) refl refl (omega arith),
        same_number 1 22 (at + 22) (at' + 22) refl refl (omega arith),
      ) right

  pub same_record : at' + size ≤ length b' → kept_at b at ≡ Some size → kept_at b' at' ≡ Some size
  same_record within e =
      let k = kept_is b at size e in
      kept_back b' at' size
      (record {
        stops = k.stops;
        trip = same_trip k.stops k.trip k.size_is within;
        party = same_party k.stops (omega (arith, k.size_is)) k.party;
        size_is = k.size_is;
      })

-- The test goes by the bytes from the place on.
pub kept_drop : (b : List ℕ) (at : ℕ) → at ≤ length b → kept_at (drop at b) 0 ≡ kept_at b at
kept_drop b at inside = go (kept_at (drop at b) 0) (kept_at b at) refl refl
  where
    go : (s t : Option ℕ) → kept_at (drop at b) 0 ≡ s → kept_at b at ≡ t → kept_at (drop at b) 0 ≡ kept_at b at
    go None None e e' = e ∙ sym e'
    go (Some s) t e e' =
        let range = kept_range (drop at b) 0 s e in
        let there = length-drop at b in
        e ∙ sym (same_record (drop at b) b 0 at s refl (omega arith) e)
    go None (Some t) e e' =
        let range = kept_range b at t e' in
        let there = length-drop at b in
        same_record b (drop at b) at 0 t refl (omega arith) e' ∙ sym e'

pub kept_same : (b b' : List ℕ) (at : ℕ) → at ≤ length b → at ≤ length b' → drop at b ≡ drop at b' → kept_at b at ≡ kept_at b' at
kept_same b b' at inside inside' same =
    sym (kept_drop b at inside) ∙ ap (λ (l : List ℕ). kept_at l 0) same ∙ kept_drop b' at inside'

-- A kept record passes by itself, and a record that passes is kept, whatever stands behind it.
pub passes : (b : List ℕ) (at size : ℕ) → kept_at b at ≡ Some size → Passes (take size (drop at b))
passes b at size e =
    let range = kept_range b at size e in
    let there = length-drop at b in
    let long : length (take size (drop at b)) ≡ size = length-take-le size (drop at b) (omega arith) in
    let all : take size (drop at b) ≡ take size (take size (drop at b)) = sym (take_all size (take size (drop at b)) (omega arith)) in
    record { whole = same_record b (take size (drop at b)) at 0 size all (omega arith) e ∙ ap Some (sym long); some = omega arith }

pub passes_in_front : (first rest : List ℕ) → Passes first → kept_at (first ++ rest) 0 ≡ Some (length first)
passes_in_front first rest p =
    let long = length-append first rest in
    same_record first (first ++ rest) 0 0 (length first)
    (take_all (length first) first (omega arith) ∙ sym (take_at first rest (length first) refl)) (omega arith) p.whole

-- A record that passes meets neither 5 nor the first row of 6.
pub not_five_nor_six :
    (trip : List ℕ) → Passes trip → (is_trip trip ≡ true) × (party_right (class_at trip 0) (level_at trip 0) (party_at trip 0) (count_at trip 0) ≡ true)
not_five_nor_six trip p =
    let k = kept_is trip 0 (length trip) p.whole in
    let fills = whole_fills trip k.stops (whole_given trip k.stops (trip_given trip 0 k.stops k.trip) (sym k.size_is)) in
    (fills.is, rw k.trip.count k.party)
