-- The moment of the stamp at a place, and a trip's two: each way through `momentAt` and `timesOf`; and 8, in the rules' words.
-- Assumes nothing.
use Prim.Native.Nat.{ℕ, ◌*◌, ◌≤◌}
use native.Mathlib.Omega.{arith}
use mathlib.Core.Path.{◌≡◌, refl, sym, ◌∙◌}
use mathlib.Core.Logic.{◌↔◌, ◌⊎◌, inl, inr}
use mathlib.Core.Bool.{Bool, true, false, cond, ◌&&◌, and-false, false≢true}
use mathlib.Core.List.{List}
use borrow.Author.Tests.{leb-false, lt-leb, ne_eqb}
use lib.Dec.{leb}
use Rattle.units.specs.declared.Minutes.{Minutes}
use Rattle.calendar.specs.Stamps.{is_date, is_clock, is_offset, local_minute, is_stamp, stamp_of, minute_number, last_minute}
use Rattle.calendar.specs.declared.Stamp.{Stamp}
use Rattle.calendar.specs.declared.Made.TheVariants.{Good, Refused}
use Rattle.calendar.proofs.Fields.{an_offset}
use Rattle.calendar.proofs.Order.{within}
use Rattle.wire.proofs.Tests.{both_left, both_right}
use Rattle.trip.specs.Record.{checkin_place, checkout_place}
use Rattle.trip.specs.Moments.{stamp_at, moment_at, checkin_of, checkout_of}
use Rattle.trip.specs.Trips.{stamps_right}
use Rattle.trip.specs.Conditions.{WrongStampAt, no_date, no_clock, other_offset, before_zero, WrongStamp, wrong_checkin, wrong_checkout}
use Rattle.trip.specs.Clauses.{made_at, times_of}
use Rattle.trip.specs.declared.Moment.TheVariants.{At, NoMoment}
use Rattle.trip.specs.declared.Times.TheVariants.{Of, NoTimes}

module _ (b : List ℕ) (at : ℕ) where
  -- It makes the stamp of these fields, where they are one.
  pub made_good : (s : Stamp) → made_at b at ≡ Good s → (is_stamp (stamp_at b at) ≡ true) × (stamp_at b at ≡ s)
  unfolding stamp_of
  made_good s e = go (is_stamp (stamp_at b at)) refl e
    where
      go : (t : Bool) → is_stamp (stamp_at b at) ≡ t → cond t (Good (stamp_at b at)) Refused ≡ Good s
          → (is_stamp (stamp_at b at) ≡ true) × (stamp_at b at ≡ s)
      go true is e' = (is, cc)
      go false is e' = absurd (let z : ◌≡◌ {A = ℕ} 0 1 = cc in omega arith)

  pub made_refused : made_at b at ≡ Refused → is_stamp (stamp_at b at) ≡ false
  unfolding stamp_of
  made_refused e = go (is_stamp (stamp_at b at)) refl e
    where
      go : (t : Bool) → is_stamp (stamp_at b at) ≡ t → cond t (Good (stamp_at b at)) Refused ≡ Refused → is_stamp (stamp_at b at) ≡ false
      go true is e' = absurd (let z : ◌≡◌ {A = ℕ} 0 1 = cc in omega arith)
      go false is e' = is

  -- Each way through `momentAt`.
  pub moment_is : is_stamp (stamp_at b at) ≡ true → moment_at b at ≡ At (record { 0 = minute_number (stamp_at b at) })
  unfolding moment_at
  moment_is e = rw e

  pub no_moment : is_stamp (stamp_at b at) ≡ false → moment_at b at ≡ NoMoment
  unfolding moment_at
  no_moment e = rw e

  -- What an answer of `momentAt` says of the stamp.
  pub moment-of : (m : Minutes) → moment_at b at ≡ At m → (is_stamp (stamp_at b at) ≡ true) × (minute_number (stamp_at b at) ≡ m.0)
  moment-of m e = go (is_stamp (stamp_at b at)) refl
    where
      go : (t : Bool) → is_stamp (stamp_at b at) ≡ t → (is_stamp (stamp_at b at) ≡ true) × (minute_number (stamp_at b at) ≡ m.0)
      go true is = (is, cc (moment_is is))
      go false is = absurd (let z : ◌≡◌ {A = ℕ} 0 1 = cc (no_moment is) in omega arith)

  pub moment_none : moment_at b at ≡ NoMoment → is_stamp (stamp_at b at) ≡ false
  moment_none e = go (is_stamp (stamp_at b at)) refl
    where
      go : (t : Bool) → is_stamp (stamp_at b at) ≡ t → is_stamp (stamp_at b at) ≡ false
      go true is = absurd (let z : ◌≡◌ {A = ℕ} 0 1 = cc (moment_is is) in omega arith)
      go false is = is

-- ---- 8: both stamps are right.

-- A stamp is wrong in one of the rules' ways, and in no other.
pub wrong_stamp : (s : Stamp) → is_stamp s ≡ false ↔ WrongStampAt s
wrong_stamp s =
    (there (is_date s.year s.month s.day) (is_clock s.hour s.minute) (is_offset s.offset) refl refl refl, back)
  where
    there : (d c o : Bool) → is_date s.year s.month s.day ≡ d → is_clock s.hour s.minute ≡ c → is_offset s.offset ≡ o
        → d && c && o && leb (60 * s.offset) (local_minute s) ≡ false → WrongStampAt s
    there false c o date clock offset e = no_date date
    there true false o date clock offset e = no_clock clock
    there true true false date clock offset e =
        let none : ((s.offset ≡ 1) ⊎ (s.offset ≡ 2)) → ⊥ = λ is. false≢true (sym offset ∙ an_offset s.offset is) in
        other_offset (λ one. none (inl one)) (λ two. none (inr two))
    there true true true date clock offset e = before_zero (leb-false (60 * s.offset) (local_minute s) e)

    back : WrongStampAt s → is_stamp s ≡ false
    back (no_date e) = rw e
    back (no_clock e) = rw (e, and-false (is_date s.year s.month s.day))
    back (other_offset one two) =
        rw (ne_eqb s.offset 1 one, ne_eqb s.offset 2 two, and-false (is_date s.year s.month s.day && is_clock s.hour s.minute))
    back (before_zero h) =
        rw (lt-leb (60 * s.offset) (local_minute s) h)
        (and-false (is_date s.year s.month s.day && is_clock s.hour s.minute && is_offset s.offset))

module _ (trip : List ℕ) where
  -- 8 in the rules' words.
  pub eight : stamps_right trip ≡ false ↔ WrongStamp trip
  unfolding stamps_right
  eight = (go (is_stamp (stamp_at trip checkin_place)) refl, back)
    where
      go : (t : Bool) → is_stamp (stamp_at trip checkin_place) ≡ t → t && is_stamp (stamp_at trip checkout_place) ≡ false → WrongStamp trip
      go true is e = wrong_checkout ((wrong_stamp _).0 e)
      go false is e = wrong_checkin ((wrong_stamp _).0 is)

      back : WrongStamp trip → is_stamp (stamp_at trip checkin_place) && is_stamp (stamp_at trip checkout_place) ≡ false
      back (wrong_checkin wrong) = rw ((wrong_stamp _).1 wrong)
      back (wrong_checkout wrong) = rw ((wrong_stamp _).1 wrong) (and-false (is_stamp (stamp_at trip checkin_place)))

  pub stamps : stamps_right trip ≡ true → (is_stamp (stamp_at trip checkin_place) ≡ true) × (is_stamp (stamp_at trip checkout_place) ≡ true)
  unfolding stamps_right
  stamps e =
      let from = is_stamp (stamp_at trip checkin_place) in
      let to = is_stamp (stamp_at trip checkout_place) in
      (both_left from to e, both_right from to e)

  -- The two minutes never pass the bound of a book's.
  pub times_range : stamps_right trip ≡ true → (checkin_of trip ≤ last_minute) × (checkout_of trip ≤ last_minute)
  unfolding checkin_of checkout_of
  times_range e =
      let (from, to) = stamps e in
      let start = within (stamp_at trip checkin_place) from in
      let end = within (stamp_at trip checkout_place) to in
      (omega arith, omega arith)

  -- Each way through `timesOf`.
  no_times : stamps_right trip ≡ false → times_of trip ≡ NoTimes
  unfolding times_of
  no_times e = rw e

  pub no_checkin : moment_at trip checkin_place ≡ NoMoment → times_of trip ≡ NoTimes
  no_checkin e = no_times (eight.1 (wrong_checkin ((wrong_stamp _).0 (moment_none trip checkin_place e))))

  pub no_checkout : moment_at trip checkout_place ≡ NoMoment → times_of trip ≡ NoTimes
  no_checkout e = no_times (eight.1 (wrong_checkout ((wrong_stamp _).0 (moment_none trip checkout_place e))))

  pub two_moments :
      (from to : Minutes) → moment_at trip checkin_place ≡ At from → moment_at trip checkout_place ≡ At to → times_of trip ≡ Of from to
  unfolding times_of stamps_right checkin_of checkout_of
  two_moments from to from_is to_is =
      let (one, start) = moment-of trip checkin_place from from_is in
      let (other, end) = moment-of trip checkout_place to to_is in
      rw (one, other, start, end)

  -- What an answer of `timesOf` says.
  pub times_are : (from to : Minutes) → times_of trip ≡ Of from to → (stamps_right trip ≡ true) × ((checkin_of trip ≡ from.0) × (checkout_of trip ≡ to.0))
  unfolding times_of
  times_are from to e = go (stamps_right trip) refl e
    where
      go : (t : Bool) → stamps_right trip ≡ t
          → cond t (Of (record { 0 = checkin_of trip }) (record { 0 = checkout_of trip })) NoTimes ≡ Of from to
          → (stamps_right trip ≡ true) × ((checkin_of trip ≡ from.0) × (checkout_of trip ≡ to.0))
      go true is e' = (is, (cc, cc))
      go false is e' = absurd (let z : ◌≡◌ {A = ℕ} 0 1 = cc in omega arith)

  pub times_none : times_of trip ≡ NoTimes → stamps_right trip ≡ false
  unfolding times_of
  times_none e = go (stamps_right trip) refl e
    where
      go : (t : Bool) → stamps_right trip ≡ t
          → cond t (Of (record { 0 = checkin_of trip }) (record { 0 = checkout_of trip })) NoTimes ≡ NoTimes → stamps_right trip ≡ false
      go true is e' = absurd (let z : ◌≡◌ {A = ℕ} 0 1 = cc in omega arith)
      go false is e' = is
