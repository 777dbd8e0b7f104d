-- What stands where an edition has to begin, case by case: each way through `opening_at`, and what each of its answers means.
-- Assumes nothing.
use Prim.Native.Nat.{ℕ, ◌+◌, ◌-◌, ◌≤◌, ◌<◌}
use native.Mathlib.Omega.{arith}
use native.Mathlib.Decide.{dec_lt}
use native.Mathlib.Nat.{add_assoc}
use mathlib.Core.Path.{◌≡◌, refl, sym, ◌∙◌}
use mathlib.Core.Bool.{Bool, true, false, cond, ◌&&◌, false≢true}
use mathlib.Core.List.{List}
use borrow.Author.Tests.{le-leb, lt-leb, eq-eqb, eqb-true}
use lib.ListN.{length, drop, length-drop}
use lib.Dec.{eqb}
use Rattle.units.specs.declared.Minutes.{Minutes}
use Rattle.wire.specs.Frame.{broken, frame_at}
use Rattle.wire.specs.declared.Frame.{Frame}
use Rattle.wire.specs.declared.Frame.TheVariants.{Whole, Broken}
use Rattle.wire.proofs.Number.{get_drop}
use Rattle.wire.proofs.Frames.{whole}
use Rattle.wire.proofs.Tests.{both_left, both_right}
use Rattle.calendar.specs.Stamps.{is_date, last_minute}
use Rattle.calendar.specs.Moments.{first_minute}
use Rattle.calendar.proofs.Fields.{date_fields}
use Rattle.calendar.proofs.Days.{day_number_most}
use Rattle.editions.specs.declared.openings.Opening.{Opening}
use Rattle.editions.specs.declared.openings.Opening.TheVariants.{Faulty, Since}
use Rattle.editions.specs.Openings.{
  edition_kind,
  opening_body,
  opening_size,
  year_at,
  month_at,
  day_at,
  date_at,
  minute_at,
  opens_at,
  since_at,
  opening_at,
  Opened,
  OpeningSays,
  ended,
  broken_off,
  other-record,
  no_date,
  too-early,
}

-- a frame in the bytes behind a place is the frame so much later in the whole
pub frame_drop : (n : ℕ) (b : List ℕ) (p : ℕ) → frame_at (drop n b) p ≡ frame_at b (n + p)
unfolding frame_at broken
frame_drop n b p =
    let left : length (drop n b) - p ≡ length b - (n + p) = omega (arith, length-drop n b) in
    rw (left, get_drop 2 n b p, get_drop 2 n b (p + 2), sym (add_assoc n p 2))

module _ (file : List ℕ) (at : ℕ) where
  -- Each way through `opens_at`.
  pub opens_broken : frame_at file at ≡ Broken → opens_at file at ≡ false
  unfolding opens_at
  opens_broken e = rw (e, opens_at)

  pub opens_whole : (kind body : ℕ) → frame_at file at ≡ Whole kind body → opens_at file at ≡ eqb kind edition_kind
  unfolding opens_at
  opens_whole kind body e = rw (e, opens_at)

  -- A record of kind 9 stands there.
  pub opens_frame : opens_at file at ≡ true → (body : ℕ) × (frame_at file at ≡ Whole edition_kind body)
  opens_frame is = go (frame_at file at) refl
    where
      go : (f : Frame) → frame_at file at ≡ f → (body : ℕ) × (frame_at file at ≡ Whole edition_kind body)
      go Broken e = absurd (false≢true (sym (opens_broken e) ∙ is))
      go (Whole kind body) e =
          let nine : kind ≡ edition_kind = eqb-true kind edition_kind (sym (opens_whole kind body e) ∙ is) in
          (body, rw nine at e)

module _ (file : List ℕ) (at least : ℕ) where
  -- Each way through `since_at`.
  module _ (year month day : ℕ) (y : year ≡ year_at file at) (m : month ≡ month_at file at) (d : day ≡ day_at file at) where
    pub since_no_date : is_date year month day ≡ false → since_at file at least ≡ Faulty 3
    unfolding since_at
    since_no_date not-one = rw (rw (y, m, d) at not-one)

    module _ (one : is_date year month day ≡ true) (minute : ℕ) (is : minute ≡ first_minute year month day) where
      pub since_early : minute < least → since_at file at least ≡ Faulty 3
      unfolding since_at
      since_early early =
          rw (rw (y, m, d) at one, lt-leb least (minute_at file at) (rw (y, m, d) at (rw is at early)))

      pub since_late : least ≤ minute → since_at file at least ≡ Since (record { 0 = minute })
      unfolding since_at
      since_late late =
          let same : minute ≡ minute_at file at = rw (y, m, d) at is in
          rw (rw (y, m, d) at one, same, le-leb least (minute_at file at) (rw same at late))

  -- Each way through `opening_at`.
  pub opening_end : length file ≤ at → opening_at file at least ≡ Faulty 2
  unfolding opening_at
  opening_end over = rw (le-leb (length file) at over)

  pub opening_broken : at < length file → frame_at file at ≡ Broken → opening_at file at least ≡ Faulty 1
  unfolding opening_at
  opening_broken inside e = rw (lt-leb (length file) at inside, e)

  pub opening_whole :
      (kind body : ℕ) {t : Bool} → frame_at file at ≡ Whole kind body → eqb kind edition_kind && eqb body opening_body ≡ t
      → opening_at file at least ≡ cond t (since_at file at least) (Faulty 2)
  unfolding opening_at
  opening_whole kind body e is =
      let facts = whole file at kind body e in
      rw (lt-leb (length file) at (omega arith), e, is)

  pub opening_in_place : frame_at file at ≡ Whole edition_kind opening_body → opening_at file at least ≡ since_at file at least
  opening_in_place e = opening_whole edition_kind opening_body e refl

  -- What stands there, by the answer of `opening_at`.
  data Begins : Opening → Type 0 where
    faulty : {number : ℕ} → OpeningSays file at least number → Begins (Faulty number)
    opened : {since : Minutes} → Opened file at least since → Begins (Since since)

  dated : frame_at file at ≡ Whole edition_kind opening_body → (t : Bool) → date_at file at ≡ t → Begins (since_at file at least)
  dated frame false not-one =
      rw (since_no_date (year_at file at) (month_at file at) (day_at file at) refl refl refl not-one) (faulty (no_date refl frame not-one))
  dated frame true one =
      elim (dec_lt (minute_at file at) least) [
        | yes early ↦
            rw (since_early (year_at file at) (month_at file at) (day_at file at) refl refl refl one (minute_at file at) refl early)
            (faulty (too-early refl frame one early))
        | no late ↦
            rw (since_late (year_at file at) (month_at file at) (day_at file at) refl refl refl one (minute_at file at) refl (omega arith))
            (opened (record { frame = frame; date = one; first = refl; late = omega arith }))
      ]

  begins : Begins (opening_at file at least)
  begins =
      elim (dec_lt at (length file)) [
        | yes inside ↦ framed inside (frame_at file at) refl
        | no past ↦ rw (opening_end (omega arith)) (faulty (ended refl (omega arith)))
      ]
    where
      framed : at < length file → (f : Frame) → frame_at file at ≡ f → Begins (opening_at file at least)
      framed inside Broken e = rw (opening_broken inside e) (faulty (broken_off refl inside e))
      framed inside (Whole kind body) e = tested (eqb kind edition_kind && eqb body opening_body) refl
        where
          tested : (t : Bool) → eqb kind edition_kind && eqb body opening_body ≡ t → Begins (opening_at file at least)
          tested true is =
              let nine = eqb-true kind edition_kind (both_left (eqb kind edition_kind) (eqb body opening_body) is) in
              let four = eqb-true body opening_body (both_right (eqb kind edition_kind) (eqb body opening_body) is) in
              let frame : frame_at file at ≡ Whole edition_kind opening_body = rw (nine, four) at e in
              rw (opening_in_place frame) (dated frame (date_at file at) refl)
          tested false is =
              rw (opening_whole kind body e is)
              (faulty
              (other-record kind body refl e
              (λ nine four. false≢true (sym is ∙ rw (eq-eqb kind edition_kind nine, eq-eqb body opening_body four)))))

  pub opening_says : {number : ℕ} → opening_at file at least ≡ Faulty number → OpeningSays file at least number
  opening_says {number} e = meant (rw e at begins)
    where
      meant : Begins (Faulty number) → OpeningSays file at least number
      meant (faulty says) = says

  pub opening_opened : {since : Minutes} → opening_at file at least ≡ Since since → Opened file at least since
  opening_opened {since} e = meant (rw e at begins)
    where
      meant : Begins (Since since) → Opened file at least since
      meant (opened facts) = facts

  -- And what is so is answered so.
  pub opening_faulty : {number : ℕ} → OpeningSays file at least number → opening_at file at least ≡ Faulty number
  opening_faulty (broken_off e inside frame) = rw e (opening_broken inside frame)
  opening_faulty (ended e over) = rw e (opening_end over)
  opening_faulty (other-record kind body e frame other) = rw e (tested (eqb kind edition_kind && eqb body opening_body) refl)
    where
      tested : (t : Bool) → eqb kind edition_kind && eqb body opening_body ≡ t → opening_at file at least ≡ Faulty 2
      tested true is =
          absurd
          (other (eqb-true kind edition_kind (both_left (eqb kind edition_kind) (eqb body opening_body) is))
          (eqb-true body opening_body (both_right (eqb kind edition_kind) (eqb body opening_body) is)))
      tested false is = opening_whole kind body frame is
  opening_faulty (no_date e frame not-one) =
      rw e (opening_in_place frame ∙ since_no_date (year_at file at) (month_at file at) (day_at file at) refl refl refl not-one)
  opening_faulty (too-early e frame one early) =
      rw e
      (opening_in_place frame
      ∙ since_early (year_at file at) (month_at file at) (day_at file at) refl refl refl one (minute_at file at) refl early)

  pub opened_since : {since : Minutes} → Opened file at least since → opening_at file at least ≡ Since since
  opened_since {since} facts =
      opening_in_place facts.frame
      ∙ since_late (year_at file at) (month_at file at) (day_at file at) refl refl refl facts.date since.0 facts.first facts.late

  -- An opened edition's record ends within the file, and its first minute is one of a book's.
  pub opened_fits : {since : Minutes} → Opened file at least since → at + opening_size ≤ length file
  opened_fits facts = let w = whole file at edition_kind opening_body facts.frame in omega arith

  pub opened_minute : {since : Minutes} → Opened file at least since → since.0 ≤ last_minute
  opened_minute facts =
      let date = date_fields (year_at file at) (month_at file at) (day_at file at) facts.date in
      omega (arith, facts.first, day_number_most (year_at file at) (month_at file at) (day_at file at) date)

  pub opened_opens : {since : Minutes} → Opened file at least since → opens_at file at ≡ true
  opened_opens facts = opens_whole file at edition_kind opening_body facts.frame
