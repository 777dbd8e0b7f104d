-- A trip record at a place, case by case: each way through `shapeAt`; and 5, in the rules' words: the slice is no trip exactly when one
-- of them says so.
-- Assumes nothing.
use Prim.Native.Nat.{ℕ, ◌+◌, ◌≤◌}
use native.Mathlib.Omega.{arith}
use native.Mathlib.Decide.{ℕ_discrete}
use mathlib.Core.Path.{◌≡◌, refl, sym, ap, ◌∙◌}
use mathlib.Core.Logic.{◌↔◌}
use mathlib.Core.Bool.{Bool, true, false, cond, not, ◌||◌, false≢true, or-true}
use mathlib.Core.List.{List}
use borrow.Author.Tests.{eqb-false, ltb-true, ltb-false, eqb-true, not-true, eq-eqb, ne_eqb, lt-ltb}
use lib.ListN.{length}
use lib.Dec.{eqb, ltb}
use Rattle.wire.specs.Frame.{frame_at}
use Rattle.wire.specs.declared.Frame.{Frame}
use Rattle.wire.specs.declared.Frame.TheVariants.{Whole, Broken}
use Rattle.wire.proofs.Frames.{whole}
use Rattle.wire.proofs.Tests.{one_of}
use Rattle.trip.specs.Record.{trip_kind, body_size, trip_size, count_at, shape_at}
use Rattle.trip.specs.Trips.{is_trip}
use Rattle.trip.specs.Conditions.{NoTripAt, broken-frame, other_kind, short_body, other_body, NoTrip, no_record, not_filling}
use Rattle.trip.specs.Clauses.{whole_trip}
use Rattle.trip.specs.declared.Shape.{Shape}
use Rattle.trip.specs.declared.Shape.TheVariants as shape

-- The test of a frame that is no trip's by its kind or by its body's least length.
abbrev pub foreign : ℕ → ℕ → Bool
foreign kind body = not (eqb kind trip_kind) || ltb body (body_size 0)

-- A frame that passes it is of kind 7, and its body is not under 20.
pub own : (kind body : ℕ) → foreign kind body ≡ false → (kind ≡ trip_kind) × (body_size 0 ≤ body)
own kind body e = go (eqb kind trip_kind) refl e
  where
    go : (t : Bool) → eqb kind trip_kind ≡ t → not t || ltb body (body_size 0) ≡ false → (kind ≡ trip_kind) × (body_size 0 ≤ body)
    go true is e' = (eqb-true kind trip_kind is, ltb-false body (body_size 0) e')
    go false is e' = absurd (false≢true (sym e'))

-- Each way through `shapeAt`.
module _ (b : List ℕ) (at : ℕ) where
  pub broken_shape : frame_at b at ≡ Broken → shape_at b at ≡ shape.NoTrip
  unfolding shape_at
  broken_shape frame = rw (frame, shape_at)

  pub foreign_shape : (kind body : ℕ) → frame_at b at ≡ Whole kind body → foreign kind body ≡ true → shape_at b at ≡ shape.NoTrip
  unfolding shape_at
  foreign_shape kind body frame e = rw (frame, shape_at, e)

  pub own_shape :
      (kind body n : ℕ) {t : Bool} → frame_at b at ≡ Whole kind body → foreign kind body ≡ false → n ≡ count_at b at
      → eqb body (body_size n) ≡ t → shape_at b at ≡ cond t (shape.Stops n) shape.NoTrip
  unfolding shape_at
  own_shape kind body n frame e count fits = rw (frame, shape_at, e, ← count, fits)

-- A trip record at a place: a whole frame of kind 7 with the body that its number of stops asks, which ends within the bytes.
pub record TripAt (b : List ℕ) (at n : ℕ) : Type 0 where
  pub frame : frame_at b at ≡ Whole trip_kind (body_size n)
  pub count : count_at b at ≡ n
  pub fits : at + trip_size n ≤ length b

-- What stands at a place, by the answer of `shapeAt`.
data Stands (b : List ℕ) (at : ℕ) : Shape → Type 0 where
  trip : {n : ℕ} → TripAt b at n → Stands b at (shape.Stops n)
  none : NoTripAt b at → Stands b at shape.NoTrip

module _ (b : List ℕ) (at : ℕ) where
  stands : Stands b at (shape_at b at)
  stands = framed (frame_at b at) refl
    where
      tested : (kind body : ℕ) (t : Bool) → frame_at b at ≡ Whole kind body → foreign kind body ≡ t → Stands b at (shape_at b at)
      tested kind body true frame e =
          rw (foreign_shape b at kind body frame e)
          (none
          (one_of (not (eqb kind trip_kind)) (ltb body (body_size 0)) e
          (λ other. other_kind kind body frame (eqb-false kind trip_kind (not-true (eqb kind trip_kind) other)))
          (λ short. short_body kind body frame (ltb-true body (body_size 0) short))))
      tested kind body false frame e =
          let n = count_at b at in
          elim (ℕ_discrete body (body_size n)) [
            | yes is ↦
                let facts = whole b at kind body frame in
                let kind_is = (own kind body e).0 in
                rw (own_shape b at kind body n frame e refl (eq-eqb body (body_size n) is))
                (trip (record { frame = rw (kind_is, is) at frame; count = refl; fits = omega arith }))
            | no other ↦
                rw (own_shape b at kind body n frame e refl (ne_eqb body (body_size n) other)) (none (other_body kind body frame other))
          ]

      framed : (f : Frame) → frame_at b at ≡ f → Stands b at (shape_at b at)
      framed Broken frame = rw (broken_shape b at frame) (none (broken-frame frame))
      framed (Whole kind body) frame = tested kind body (foreign kind body) frame refl

  -- A trip record is given with its number of stops, and only a trip record is.
  pub trip_at : (n : ℕ) → shape_at b at ≡ shape.Stops n → TripAt b at n
  trip_at n e = meant (rw e at stands)
    where
      meant : Stands b at (shape.Stops n) → TripAt b at n
      meant (trip facts) = facts

  -- None is given exactly when the frame is broken, the kind not 7, or the body under 20 or not 20 + 2n.
  pub no_trip_at : shape_at b at ≡ shape.NoTrip ↔ NoTripAt b at
  no_trip_at = (λ e. meant (rw e at stands), back)
    where
      meant : Stands b at shape.NoTrip → NoTripAt b at
      meant (none says) = says

      back : NoTripAt b at → shape_at b at ≡ shape.NoTrip
      back (broken-frame frame) = broken_shape b at frame
      back (other_kind kind body frame other) = foreign_shape b at kind body frame (rw (ne_eqb kind trip_kind other))
      back (short_body kind body frame short) =
          foreign_shape b at kind body frame (rw (lt-ltb body (body_size 0) short) (or-true (not (eqb kind trip_kind))))
      back (other_body kind body frame other) = go (foreign kind body) refl
        where
          go : (t : Bool) → foreign kind body ≡ t → shape_at b at ≡ shape.NoTrip
          go true e = foreign_shape b at kind body frame e
          go false e = own_shape b at kind body (count_at b at) frame e refl (ne_eqb body (body_size (count_at b at)) other)

-- ---- 5: a trip record that fills the slice.

module _ (bytes : List ℕ) where
  -- Each way through `isTrip`.
  no_shape : shape_at bytes 0 ≡ shape.NoTrip → is_trip bytes ≡ false
  unfolding is_trip
  no_shape e = rw (e, is_trip)

  with_shape : (n : ℕ) {t : Bool} → shape_at bytes 0 ≡ shape.Stops n → eqb (trip_size n) (length bytes) ≡ t → is_trip bytes ≡ t
  unfolding is_trip
  with_shape n e size = rw (e, is_trip, size)

  -- ... and through `wholeTrip`.
  not_whole : is_trip bytes ≡ false → whole_trip bytes ≡ shape.NoTrip
  unfolding whole_trip
  not_whole e = rw e

  pub no_whole : shape_at bytes 0 ≡ shape.NoTrip → whole_trip bytes ≡ shape.NoTrip
  no_whole e = not_whole (no_shape e)

  pub whole_longer : (n : ℕ) → shape_at bytes 0 ≡ shape.Stops n → (trip_size n ≡ length bytes → ⊥) → whole_trip bytes ≡ shape.NoTrip
  whole_longer n e other = not_whole (with_shape n e (ne_eqb (trip_size n) (length bytes) other))

  pub whole_given : (n : ℕ) → shape_at bytes 0 ≡ shape.Stops n → trip_size n ≡ length bytes → whole_trip bytes ≡ shape.Stops n
  unfolding whole_trip
  whole_given n e size = rw (with_shape n e (eq-eqb (trip_size n) (length bytes) size), (trip_at bytes 0 n e).count)

  -- What a trip record that fills the slice has.
  pub record Filling (n : ℕ) : Type 0 where
    pub is : is_trip bytes ≡ true
    pub count : count_at bytes 0 ≡ n
    pub frame : frame_at bytes 0 ≡ Whole trip_kind (body_size n)
    pub size : trip_size n ≡ length bytes

  filling : (s : Shape) → shape_at bytes 0 ≡ s → is_trip bytes ≡ true → Filling (count_at bytes 0)
  filling shape.NoTrip e is = absurd (false≢true (sym (no_shape e) ∙ is))
  filling (shape.Stops n) e is =
      let at = trip_at bytes 0 n e in
      rw at.count
      (record { is = is; count = at.count; frame = at.frame; size = eqb-true (trip_size n) (length bytes) (sym (with_shape n e refl) ∙ is) })

  pub fills : is_trip bytes ≡ true → Filling (count_at bytes 0)
  fills is = filling (shape_at bytes 0) refl is

  pub whole_fills : (n : ℕ) → whole_trip bytes ≡ shape.Stops n → Filling n
  unfolding whole_trip
  whole_fills n e = go (is_trip bytes) refl e
    where
      go : (t : Bool) → is_trip bytes ≡ t → cond t (shape.Stops (count_at bytes 0)) shape.NoTrip ≡ shape.Stops n → Filling n
      go true is e' = let same : count_at bytes 0 ≡ n = cc in rw (← same) (fills is)
      go false is e' = absurd (let z : ◌≡◌ {A = ℕ} 0 1 = cc in omega arith)

  pub whole_none : whole_trip bytes ≡ shape.NoTrip → is_trip bytes ≡ false
  unfolding whole_trip
  whole_none e = go (is_trip bytes) refl e
    where
      go : (t : Bool) → is_trip bytes ≡ t → cond t (shape.Stops (count_at bytes 0)) shape.NoTrip ≡ shape.NoTrip → is_trip bytes ≡ false
      go true is e' = absurd (let z : ◌≡◌ {A = ℕ} 0 1 = cc in omega arith)
      go false is e' = is

  -- 5 in the rules' words.
  pub five : is_trip bytes ≡ false ↔ NoTrip bytes
  five = (there (shape_at bytes 0) refl, back)
    where
      there : (s : Shape) → shape_at bytes 0 ≡ s → is_trip bytes ≡ false → NoTrip bytes
      there shape.NoTrip e is = no_record ((no_trip_at bytes 0).0 e)
      there (shape.Stops n) e is =
          not_filling trip_kind (body_size n) (trip_at bytes 0 n e).frame
          (λ size. false≢true (sym is ∙ with_shape n e (eq-eqb (trip_size n) (length bytes) (omega arith))))

      other_size : (kind body : ℕ) → frame_at bytes 0 ≡ Whole kind body → (4 + body ≡ length bytes → ⊥) → (s : Shape) → shape_at bytes 0 ≡ s → is_trip bytes ≡ false
      other_size kind body frame other shape.NoTrip e = no_shape e
      other_size kind body frame other (shape.Stops n) e =
          let long : body ≡ body_size n = cc (trip_at bytes 0 n e).frame in
          with_shape n e (ne_eqb (trip_size n) (length bytes) (λ size. other (omega arith)))

      back : NoTrip bytes → is_trip bytes ≡ false
      back (no_record says) = no_shape ((no_trip_at bytes 0).1 says)
      back (not_filling kind body frame other) = other_size kind body frame other (shape_at bytes 0) refl

-- Whether bytes are a trip goes by their frame, their number of stops and their length.
module _ (b b' : List ℕ) (frames : frame_at b' 0 ≡ frame_at b 0) (counts : count_at b' 0 ≡ count_at b 0) (sizes : length b' ≡ length b) where
  shape_same : shape_at b' 0 ≡ shape_at b 0
  shape_same = framed (frame_at b 0) refl
    where
      tested : (kind body : ℕ) → frame_at b 0 ≡ Whole kind body → (t : Bool) → foreign kind body ≡ t → shape_at b' 0 ≡ shape_at b 0
      tested kind body e true is = foreign_shape b' 0 kind body (frames ∙ e) is ∙ sym (foreign_shape b 0 kind body e is)
      tested kind body e false is =
          own_shape b' 0 kind body (count_at b 0) (frames ∙ e) is (sym counts) refl ∙ sym (own_shape b 0 kind body (count_at b 0) e is refl refl)

      framed : (f : Frame) → frame_at b 0 ≡ f → shape_at b' 0 ≡ shape_at b 0
      framed Broken e = broken_shape b' 0 (frames ∙ e) ∙ sym (broken_shape b 0 e)
      framed (Whole kind body) e = tested kind body e (foreign kind body) refl

  pub trip_same : is_trip b' ≡ is_trip b
  trip_same = go (shape_at b 0) refl
    where
      go : (s : Shape) → shape_at b 0 ≡ s → is_trip b' ≡ is_trip b
      go shape.NoTrip e = no_shape b' (shape_same ∙ e) ∙ sym (no_shape b e)
      go (shape.Stops n) e =
          with_shape b' n (shape_same ∙ e) (ap (λ (l : ℕ). eqb (trip_size n) l) sizes) ∙ sym (with_shape b n e refl)
