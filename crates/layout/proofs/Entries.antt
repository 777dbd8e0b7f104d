-- What stands at a place of a tariff, case by case: each way through `entryAt`, and what each of its answers means.
-- Assumes nothing.
use Prim.Native.Nat.{ℕ, ◌+◌, ◌≤◌, ◌<◌}
use native.Mathlib.Omega.{arith}
use native.Mathlib.Decide.{ℕ_discrete, dec_lt}
use mathlib.Core.Path.{◌≡◌, refl, sym, ap, ◌∙◌}
use mathlib.Core.Logic.{◌⊎◌, inl, inr}
use mathlib.Core.Bool.{Bool, true, false, cond, ◌&&◌, ◌||◌, false≢true}
use mathlib.Core.List.{List}
use borrow.Author.Tests.{le-leb, lt-leb, lt-ltb, eq-eqb, eqb-true, ltb-true, ne_eqb}
use lib.ListN.{length}
use lib.Dec.{leb, ltb, eqb}
use Rattle.wire.specs.Frame.{frame_at}
use Rattle.wire.specs.declared.Frame.{Frame}
use Rattle.wire.specs.declared.Frame.TheVariants.{Whole, Broken}
use Rattle.wire.proofs.Frames.{whole}
use Rattle.layout.specs.declared.Counts.{Counts}
use Rattle.layout.specs.Layout.{
  common_kind,
  aachen_kind,
  long_of,
  area_body_of,
  factor_body,
  factor_size,
  stop_body,
  stop_size,
  most_areas,
  most_stops,
  kind_at,
  area_end,
}
use Rattle.layout.specs.Fields.{area_fields, long_fields, factor_fields, stop_fields}
use Rattle.layout.specs.Rules.{area_right, factors_due, factor_right, stop_right}
use Rattle.layout.specs.Scan.{
  area_entry,
  factor_entry,
  stop_entry,
  is_area,
  entry_at,
  AreaInPlace,
  FactorInPlace,
  StopInPlace,
  OutOfPlace,
  no_area,
  factor-due,
  wrong,
  area_value,
  factor_value,
  stop_value,
  FaultSays,
  one,
  two,
  three,
}
use Rattle.layout.specs.declared.Entry.{Entry}
use Rattle.layout.specs.declared.Entry.TheVariants.{End, Area, Factor, Stop, Faulty}
use Rattle.wire.proofs.Tests.{told, one_of}
use Rattle.layout.proofs.WrongValues.{area_wrong, factor_wrong, stop_wrong}

-- A faultless area record: its kind and body length, its order and number, its values, and that it ends within the bytes.
pub record AreaEntry (b : List ℕ) (at : ℕ) (so_far : Counts) (kind : ℕ) : Type 0 where
  pub here : AreaInPlace b at so_far kind
  pub kind_is : kind ≡ kind_at b at
  pub right : area_right b so_far kind (area_fields b at) (long_fields b at) ≡ true
  pub fits : area_end b at ≤ length b

-- A faultless factor record and a faultless stop record, likewise.
pub record FactorEntry (b : List ℕ) (at : ℕ) (so_far : Counts) : Type 0 where
  pub frame : frame_at b at ≡ Whole 5 factor_body
  pub no_stop : so_far.stops ≡ 0
  pub few : so_far.factors < factors_due b so_far
  pub right : factor_right (factor_fields b at) so_far.factors ≡ true
  pub fits : at + factor_size ≤ length b

pub record StopEntry (b : List ℕ) (at : ℕ) (so_far : Counts) : Type 0 where
  pub frame : frame_at b at ≡ Whole 2 stop_body
  pub some : 0 < so_far.areas
  pub all : so_far.factors ≡ factors_due b so_far
  pub few : so_far.stops < most_stops
  pub right : stop_right (stop_fields b at) so_far.areas ≡ true
  pub fits : at + stop_size ≤ length b

-- The tests of an area record's body length, order and number, of a factor record's and of a stop record's, with so many factor records due;
-- and whether at the tariff's end a record is still due.
abbrev pub area_due : ℕ → ℕ → Counts → Bool
area_due kind body so_far = eqb body (area_body_of kind) && eqb so_far.factors 0 && eqb so_far.stops 0 && ltb so_far.areas most_areas

abbrev pub factor_due : ℕ → Counts → ℕ → Bool
factor_due body so_far due = eqb body factor_body && eqb so_far.stops 0 && ltb so_far.factors due

abbrev pub stop_due : ℕ → Counts → ℕ → Bool
stop_due body so_far due = eqb body stop_body && ltb 0 so_far.areas && eqb so_far.factors due && ltb so_far.stops most_stops

abbrev pub still_due : Counts → ℕ → Bool
still_due so_far due = eqb so_far.areas 0 || ltb so_far.factors due

-- one of two tests that holds is enough
either_right : (t : Bool) → t || true ≡ true
either_right true = refl
either_right false = refl

-- a test that cannot hold fails
refused : (t : Bool) → (t ≡ true → ⊥) → t ≡ false
refused true never = absurd (never refl)
refused false never = refl

-- the kinds of an area record, by the test and by the rules' words
area_kinds : (kind : ℕ) → is_area kind ≡ true → (kind ≡ common_kind) ⊎ (kind ≡ aachen_kind)
area_kinds kind e =
    one_of (eqb kind common_kind) (eqb kind aachen_kind) e (λ is. inl (eqb-true kind common_kind is)) (λ is. inr (eqb-true kind aachen_kind is))

pub kinds_area : (kind : ℕ) → (kind ≡ common_kind) ⊎ (kind ≡ aachen_kind) → is_area kind ≡ true
kinds_area kind (inl is) = rw (eq-eqb kind common_kind is)
kinds_area kind (inr is) = rw (eq-eqb kind aachen_kind is) (either_right (eqb kind common_kind))

-- a kind is an area's, a factor record's, a stop's, or none of these
pub data KindCase (kind : ℕ) : Type 0 where
  of_area : is_area kind ≡ true → KindCase kind
  of_factor : kind ≡ 5 → KindCase kind
  of_stop : kind ≡ 2 → KindCase kind
  of_none : is_area kind ≡ false → (kind ≡ 5 → ⊥) → (kind ≡ 2 → ⊥) → KindCase kind

pub kind_case : (kind : ℕ) → KindCase kind
kind_case kind = go (is_area kind) refl
  where
    go : (t : Bool) → is_area kind ≡ t → KindCase kind
    go true is = of_area is
    go false no_kind =
        elim (ℕ_discrete kind 5) [
          | yes is ↦ of_factor is
          | no not_five ↦ elim (ℕ_discrete kind 2) [ yes is ↦ of_stop is | no not-two ↦ of_none no_kind not_five not-two ]
        ]

pub area_tests :
    (kind body : ℕ) (so_far : Counts) → area_due kind body so_far ≡ true
    → (body ≡ area_body_of kind) × (so_far.factors ≡ 0) × (so_far.stops ≡ 0) × (so_far.areas < most_areas)
area_tests kind body so_far e = search told

pub factor_tests :
    (body : ℕ) (so_far : Counts) (due : ℕ) → factor_due body so_far due ≡ true → (body ≡ factor_body) × (so_far.stops ≡ 0) × (so_far.factors < due)
factor_tests body so_far due e = search told

pub stop_tests :
    (body : ℕ) (so_far : Counts) (due : ℕ) → stop_due body so_far due ≡ true
    → (body ≡ stop_body) × (0 < so_far.areas) × (so_far.factors ≡ due) × (so_far.stops < most_stops)
stop_tests body so_far due e = search told

-- where no record is due, there is an area, and every factor record
pub none_due : (so_far : Counts) (due : ℕ) → still_due so_far due ≡ false → (0 < so_far.areas) × (due ≤ so_far.factors)
none_due so_far due e = (
  elim (ℕ_discrete so_far.areas 0) [
    | yes none ↦ absurd (false≢true (sym e ∙ rw (eq-eqb so_far.areas 0 none)))
    | no some ↦ omega arith
  ],
  elim (dec_lt so_far.factors due) [
    | yes fewer ↦ absurd (false≢true (sym e ∙ rw (lt-ltb so_far.factors due fewer) (either_right (eqb so_far.areas 0))))
    | no enough ↦ omega arith
  ],
)

-- Each way through `areaEntry`, `factorEntry` and `stopEntry`.
module _ (b : List ℕ) (at : ℕ) (so_far : Counts) (body : ℕ) where
  pub area_is_due :
      (kind : ℕ) {t : Bool} → area_due kind body so_far ≡ true → area_right b so_far kind (area_fields b at) (long_fields b at) ≡ t
      → area_entry b at so_far kind body ≡ cond t (Area kind) (Faulty 3)
  unfolding area_entry
  area_is_due kind tests right = rw (tests, right)

  pub area_not_due : (kind : ℕ) → area_due kind body so_far ≡ false → area_entry b at so_far kind body ≡ Faulty 2
  unfolding area_entry
  area_not_due kind e = rw e

  module _ (due : ℕ) (so-many : due ≡ factors_due b so_far) where
    pub factor_is_due :
        {t : Bool} → factor_due body so_far due ≡ true → factor_right (factor_fields b at) so_far.factors ≡ t
        → factor_entry b at so_far body ≡ cond t Factor (Faulty 3)
    unfolding factor_entry
    factor_is_due tests right = rw (rw so-many at tests, right)

    pub factor_not_due : factor_due body so_far due ≡ false → factor_entry b at so_far body ≡ Faulty 2
    unfolding factor_entry
    factor_not_due tests = rw (rw so-many at tests)

    pub stop_is_due :
        {t : Bool} → stop_due body so_far due ≡ true → stop_right (stop_fields b at) so_far.areas ≡ t
        → stop_entry b at so_far body ≡ cond t Stop (Faulty 3)
    unfolding stop_entry
    stop_is_due tests right = rw (rw so-many at tests, right)

    pub stop_not_due : stop_due body so_far due ≡ false → stop_entry b at so_far body ≡ Faulty 2
    unfolding stop_entry
    stop_not_due tests = rw (rw so-many at tests)

-- Each way through `entryAt`.
module _ (b : List ℕ) (at : ℕ) (so_far : Counts) where
  module _ (due : ℕ) (so-many : due ≡ factors_due b so_far) (over : length b ≤ at) where
    pub ended_early : still_due so_far due ≡ true → entry_at b at so_far ≡ Faulty 2
    unfolding entry_at
    ended_early still = rw (le-leb (length b) at over, rw so-many at still)

    pub ended : still_due so_far due ≡ false → entry_at b at so_far ≡ End
    unfolding entry_at
    ended still = rw (le-leb (length b) at over, rw so-many at still)

  pub broken-frame : at < length b → frame_at b at ≡ Broken → entry_at b at so_far ≡ Faulty 1
  unfolding entry_at
  broken-frame within e = rw (lt-leb (length b) at within, e)

  -- a whole frame ends within the bytes
  within : (kind body : ℕ) → frame_at b at ≡ Whole kind body → leb (length b) at ≡ false
  within kind body e =
      let facts = whole b at kind body e in
      lt-leb (length b) at (omega arith)

  pub area_frame : (kind body : ℕ) → is_area kind ≡ true → frame_at b at ≡ Whole kind body → entry_at b at so_far ≡ area_entry b at so_far kind body
  unfolding entry_at
  area_frame kind body is e = rw (within kind body e, e, is)

  pub factor_frame : (body : ℕ) → frame_at b at ≡ Whole 5 body → entry_at b at so_far ≡ factor_entry b at so_far body
  unfolding entry_at
  factor_frame body e = rw (within 5 body e, e)

  pub stop_frame : (body : ℕ) → frame_at b at ≡ Whole 2 body → entry_at b at so_far ≡ stop_entry b at so_far body
  unfolding entry_at
  stop_frame body e = rw (within 2 body e, e)

  pub other_frame :
      (kind body : ℕ) → frame_at b at ≡ Whole kind body → is_area kind ≡ false → (kind ≡ 5 → ⊥) → (kind ≡ 2 → ⊥) → entry_at b at so_far ≡ Faulty 2
  unfolding entry_at
  other_frame kind body e no_kind not_five not-two =
      rw (within kind body e, e, no_kind, ne_eqb kind 5 not_five, ne_eqb kind 2 not-two)

-- Kind, body length, order and number, by the tests and by the rules' words.
module _ (b : List ℕ) (at : ℕ) (so_far : Counts) where
  area_in : (kind body : ℕ) → is_area kind ≡ true → frame_at b at ≡ Whole kind body → area_due kind body so_far ≡ true → AreaInPlace b at so_far kind
  area_in kind body is frame due =
      let (long, no_factor, no_stop, few) = area_tests kind body so_far due in
      record { kinds = area_kinds kind is; frame = rw long at frame; no_factor = no_factor; no_stop = no_stop; few = few }

  pub area-holds : (kind : ℕ) → AreaInPlace b at so_far kind → area_due kind (area_body_of kind) so_far ≡ true
  area-holds kind here =
      rw (
        eq-eqb (area_body_of kind) (area_body_of kind) refl,
        eq-eqb so_far.factors 0 here.no_factor,
        eq-eqb so_far.stops 0 here.no_stop,
        lt-ltb so_far.areas most_areas here.few,
      )

  area_out : (kind body : ℕ) → frame_at b at ≡ Whole kind body → area_due kind body so_far ≡ false → AreaInPlace b at so_far kind → ⊥
  area_out kind body frame not-due here =
      let long : body ≡ area_body_of kind = cc in
      false≢true (sym not-due ∙ rw long (area-holds kind here))

  factor_in : (body : ℕ) → frame_at b at ≡ Whole 5 body → factor_due body so_far (factors_due b so_far) ≡ true → FactorInPlace b at so_far
  factor_in body frame due =
      let (long, no_stop, few) = factor_tests body so_far (factors_due b so_far) due in
      record { frame = rw long at frame; no_stop = no_stop; few = few }

  pub factor-holds : FactorInPlace b at so_far → factor_due factor_body so_far (factors_due b so_far) ≡ true
  factor-holds here = rw (eq-eqb so_far.stops 0 here.no_stop, lt-ltb so_far.factors (factors_due b so_far) here.few)

  factor_out : (body : ℕ) → frame_at b at ≡ Whole 5 body → factor_due body so_far (factors_due b so_far) ≡ false → FactorInPlace b at so_far → ⊥
  factor_out body frame not-due here =
      let long : body ≡ factor_body = cc in
      false≢true (sym not-due ∙ rw long (factor-holds here))

  stop_in : (body : ℕ) → frame_at b at ≡ Whole 2 body → stop_due body so_far (factors_due b so_far) ≡ true → StopInPlace b at so_far
  stop_in body frame due =
      let (long, some, all, few) = stop_tests body so_far (factors_due b so_far) due in
      record { frame = rw long at frame; some = some; all = all; few = few }

  pub stop-holds : StopInPlace b at so_far → stop_due stop_body so_far (factors_due b so_far) ≡ true
  stop-holds here =
      rw (
        lt-ltb 0 so_far.areas here.some,
        eq-eqb so_far.factors (factors_due b so_far) here.all,
        lt-ltb so_far.stops most_stops here.few,
      )

  stop_out : (body : ℕ) → frame_at b at ≡ Whole 2 body → stop_due body so_far (factors_due b so_far) ≡ false → StopInPlace b at so_far → ⊥
  stop_out body frame not-due here =
      let long : body ≡ stop_body = cc in
      false≢true (sym not-due ∙ rw long (stop-holds here))

-- what is an area's kind is no other
not_that : (kind other : ℕ) → is_area kind ≡ true → is_area other ≡ false → kind ≡ other → ⊥
not_that kind other is not e = false≢true (sym not ∙ rw e at is)

-- a record of another kind is not in place
other_area : (b : List ℕ) (at : ℕ) (so_far : Counts) (kind : ℕ) → is_area kind ≡ false → AreaInPlace b at so_far kind → ⊥
other_area b at so_far kind other here = false≢true (sym other ∙ kinds_area kind here.kinds)

other_factor : (b : List ℕ) (at : ℕ) (so_far : Counts) (kind body : ℕ) → frame_at b at ≡ Whole kind body → (kind ≡ 5 → ⊥) → FactorInPlace b at so_far → ⊥
other_factor b at so_far kind body frame other here = other (cc)

other_stop : (b : List ℕ) (at : ℕ) (so_far : Counts) (kind body : ℕ) → frame_at b at ≡ Whole kind body → (kind ≡ 2 → ⊥) → StopInPlace b at so_far → ⊥
other_stop b at so_far kind body frame other here = other (cc)

-- at the tariff's end, by the tests and by the rules' words
module _ (b : List ℕ) (at : ℕ) (so_far : Counts) (over : length b ≤ at) where
  still_out : still_due so_far (factors_due b so_far) ≡ true → OutOfPlace b at so_far
  still_out still =
      one_of (eqb so_far.areas 0) (ltb so_far.factors (factors_due b so_far)) still (λ none. no_area over (eqb-true so_far.areas 0 none))
      (λ fewer. factor-due over (ltb-true so_far.factors (factors_due b so_far) fewer))

  no-area-holds : so_far.areas ≡ 0 → still_due so_far (factors_due b so_far) ≡ true
  no-area-holds none = rw (eq-eqb so_far.areas 0 none)

  factor-still-holds : so_far.factors < factors_due b so_far → still_due so_far (factors_due b so_far) ≡ true
  factor-still-holds fewer = rw (lt-ltb so_far.factors (factors_due b so_far) fewer) (either_right (eqb so_far.areas 0))

-- an answer that two tests give, by their cases
answered :
    (P : Entry → Type 0) (due right : Bool) (good : Entry) → (due ≡ true → right ≡ true → P good) → (due ≡ true → right ≡ false → P (Faulty 3))
    → (due ≡ false → P (Faulty 2)) → P (cond due (cond right good (Faulty 3)) (Faulty 2))
answered P true true good whole-right value place = whole-right refl refl
answered P true false good whole-right value place = value refl refl
answered P false right good whole-right value place = place refl

-- What stands at a place, by the answer of `entryAt`.
data Stands (b : List ℕ) (at : ℕ) (so_far : Counts) : Entry → Type 0 where
  over : length b ≤ at → 0 < so_far.areas → factors_due b so_far ≤ so_far.factors → Stands b at so_far End
  area : {kind : ℕ} → AreaEntry b at so_far kind → Stands b at so_far (Area kind)
  factor : FactorEntry b at so_far → Stands b at so_far Factor
  stop : StopEntry b at so_far → Stands b at so_far Stop
  fault : {number : ℕ} → FaultSays b at so_far number → Stands b at so_far (Faulty number)

module _ (b : List ℕ) (at : ℕ) (so_far : Counts) where
  area_stands : (kind body : ℕ) → is_area kind ≡ true → frame_at b at ≡ Whole kind body → Stands b at so_far (area_entry b at so_far kind body)
  unfolding area_entry
  area_stands kind body is frame =
      answered (Stands b at so_far) (area_due kind body so_far) (area_right b so_far kind (area_fields b at) (long_fields b at)) (Area kind)
      (λ due right.
      let here = area_in b at so_far kind body is frame due in
      let facts = whole b at kind (area_body_of kind) here.frame in
      area (record { here = here; kind_is = facts.kind_is; right = right; fits = omega (arith, facts, ap long_of facts.kind_is) }))
      (λ due false-value.
      fault
      (three refl
      (area_value (area_in b at so_far kind body is frame due) ((area_wrong b so_far kind (area_fields b at) (long_fields b at)).0 false-value))))
      (λ not-due.
      fault
      (two refl
      (wrong kind body frame (area_out b at so_far kind body frame not-due)
      (other_factor b at so_far kind body frame (not_that kind 5 is refl)) (other_stop b at so_far kind body frame (not_that kind 2 is refl)))))

  factor_stands : (body : ℕ) → frame_at b at ≡ Whole 5 body → Stands b at so_far (factor_entry b at so_far body)
  unfolding factor_entry
  factor_stands body frame =
      answered (Stands b at so_far) (factor_due body so_far (factors_due b so_far)) (factor_right (factor_fields b at) so_far.factors) Factor
      (λ due right.
      let here = factor_in b at so_far body frame due in
      let facts = whole b at 5 factor_body here.frame in
      factor (record { frame = here.frame; no_stop = here.no_stop; few = here.few; right = right; fits = omega arith }))
      (λ due false-value.
      fault
      (three refl (factor_value (factor_in b at so_far body frame due) ((factor_wrong (factor_fields b at) so_far.factors).0 false-value))))
      (λ not-due.
      fault
      (two refl
      (wrong 5 body frame (other_area b at so_far 5 refl) (factor_out b at so_far body frame not-due)
      (other_stop b at so_far 5 body frame (λ e. omega arith)))))

  stop-stands : (body : ℕ) → frame_at b at ≡ Whole 2 body → Stands b at so_far (stop_entry b at so_far body)
  unfolding stop_entry
  stop-stands body frame =
      answered (Stands b at so_far) (stop_due body so_far (factors_due b so_far)) (stop_right (stop_fields b at) so_far.areas) Stop
      (λ due right.
      let here = stop_in b at so_far body frame due in
      let facts = whole b at 2 stop_body here.frame in
      stop (record { frame = here.frame; some = here.some; all = here.all; few = here.few; right = right; fits = omega arith }))
      (λ due false-value.
      fault (three refl (stop_value (stop_in b at so_far body frame due) ((stop_wrong (stop_fields b at) so_far.areas).0 false-value))))
      (λ not-due.
      fault
      (two refl
      (wrong 2 body frame (other_area b at so_far 2 refl) (other_factor b at so_far 2 body frame (λ e. omega arith))
      (stop_out b at so_far body frame not-due))))

  stands : Stands b at so_far (entry_at b at so_far)
  stands =
      elim (dec_lt at (length b)) [
        | yes inside ↦ framed inside (frame_at b at) refl
        | no past ↦ finished (omega arith) (still_due so_far (factors_due b so_far)) refl
      ]
    where
      finished : length b ≤ at → (t : Bool) → still_due so_far (factors_due b so_far) ≡ t → Stands b at so_far (entry_at b at so_far)
      finished past true still =
          rw (ended_early b at so_far (factors_due b so_far) refl past still) (fault (two refl (still_out b at so_far past still)))
      finished past false still =
          let (some, all) = none_due so_far (factors_due b so_far) still in
          rw (ended b at so_far (factors_due b so_far) refl past still) (over past some all)

      framed : at < length b → (f : Frame) → frame_at b at ≡ f → Stands b at so_far (entry_at b at so_far)
      framed inside Broken e =
          rw (broken-frame b at so_far inside e) (fault (one refl (record { going_on = inside; frame = e })))
      framed inside (Whole kind body) e = by_kind (kind_case kind)
        where
          by_kind : KindCase kind → Stands b at so_far (entry_at b at so_far)
          by_kind (of_area is) = rw (area_frame b at so_far kind body is e) (area_stands kind body is e)
          by_kind (of_factor is) =
              let e' : frame_at b at ≡ Whole 5 body = cc in
              rw (factor_frame b at so_far body e') (factor_stands body e')
          by_kind (of_stop is) =
              let e' : frame_at b at ≡ Whole 2 body = cc in
              rw (stop_frame b at so_far body e') (stop-stands body e')
          by_kind (of_none no_kind not_five not-two) =
              rw (other_frame b at so_far kind body e no_kind not_five not-two)
              (fault
              (two refl
              (wrong kind body e (other_area b at so_far kind no_kind) (other_factor b at so_far kind body e not_five)
              (other_stop b at so_far kind body e not-two))))

  pub area-entry : (kind : ℕ) → entry_at b at so_far ≡ Area kind → AreaEntry b at so_far kind
  area-entry kind e = meant (rw e at stands)
    where
      meant : Stands b at so_far (Area kind) → AreaEntry b at so_far kind
      meant (area facts) = facts

  pub factor-entry : entry_at b at so_far ≡ Factor → FactorEntry b at so_far
  factor-entry e = meant (rw e at stands)
    where
      meant : Stands b at so_far Factor → FactorEntry b at so_far
      meant (factor facts) = facts

  pub stop-entry : entry_at b at so_far ≡ Stop → StopEntry b at so_far
  stop-entry e = meant (rw e at stands)
    where
      meant : Stands b at so_far Stop → StopEntry b at so_far
      meant (stop facts) = facts

  pub end_entry : entry_at b at so_far ≡ End → (length b ≤ at) × (0 < so_far.areas) × (factors_due b so_far ≤ so_far.factors)
  end_entry e = meant (rw e at stands)
    where
      meant : Stands b at so_far End → (length b ≤ at) × (0 < so_far.areas) × (factors_due b so_far ≤ so_far.factors)
      meant (over past some all) = (past, some, all)

  pub fault_entry : (number : ℕ) → entry_at b at so_far ≡ Faulty number → FaultSays b at so_far number
  fault_entry number e = meant (rw e at stands)
    where
      meant : Stands b at so_far (Faulty number) → FaultSays b at so_far number
      meant (fault says) = says

  -- The number that a fault's meaning has is the one that is given.
  pub fault_given : {number : ℕ} → FaultSays b at so_far number → entry_at b at so_far ≡ Faulty number
  fault_given (one e broken) = rw e (broken-frame b at so_far broken.going_on broken.frame)
  fault_given (two e (no_area past none)) =
      rw e (ended_early b at so_far (factors_due b so_far) refl past (no-area-holds b at so_far past none))
  fault_given (two e (factor-due past fewer)) =
      rw e (ended_early b at so_far (factors_due b so_far) refl past (factor-still-holds b at so_far past fewer))
  fault_given (two e (wrong kind body frame not_area not-factor not-stop)) = rw e (by_kind (kind_case kind))
    where
      by_kind : KindCase kind → entry_at b at so_far ≡ Faulty 2
      by_kind (of_area is) =
          area_frame b at so_far kind body is frame
          ∙ area_not_due b at so_far body kind (refused (area_due kind body so_far) (λ due. not_area (area_in b at so_far kind body is frame due)))
      by_kind (of_factor is) =
          let frame' : frame_at b at ≡ Whole 5 body = cc in
          factor_frame b at so_far body frame'
          ∙ factor_not_due b at so_far body (factors_due b so_far) refl
          (refused (factor_due body so_far (factors_due b so_far)) (λ due. not-factor (factor_in b at so_far body frame' due)))
      by_kind (of_stop is) =
          let frame' : frame_at b at ≡ Whole 2 body = cc in
          stop_frame b at so_far body frame'
          ∙ stop_not_due b at so_far body (factors_due b so_far) refl
          (refused (stop_due body so_far (factors_due b so_far)) (λ due. not-stop (stop_in b at so_far body frame' due)))
      by_kind (of_none no_kind not_five not-two) = other_frame b at so_far kind body frame no_kind not_five not-two
  fault_given (three e (area_value {kind} here value)) =
      rw e
      (area_frame b at so_far kind (area_body_of kind) (kinds_area kind here.kinds) here.frame
      ∙ area_is_due b at so_far (area_body_of kind) kind (area-holds b at so_far kind here)
      ((area_wrong b so_far kind (area_fields b at) (long_fields b at)).1 value))
  fault_given (three e (factor_value here value)) =
      rw e
      (factor_frame b at so_far factor_body here.frame
      ∙ factor_is_due b at so_far factor_body (factors_due b so_far) refl (factor-holds b at so_far here)
      ((factor_wrong (factor_fields b at) so_far.factors).1 value))
  fault_given (three e (stop_value here value)) =
      rw e
      (stop_frame b at so_far stop_body here.frame
      ∙ stop_is_due b at so_far stop_body (factors_due b so_far) refl (stop-holds b at so_far here)
      ((stop_wrong (stop_fields b at) so_far.areas).1 value))
