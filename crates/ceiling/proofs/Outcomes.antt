-- The ways through settling under a ceiling: 24, the file's fault, or what settling comes to, with the charges collected where it is accepted.
-- Assumes nothing.
use Prim.Native.Nat.{ℕ, ◌+◌, ◌^◌, ◌≤◌, ◌<◌}
use native.Mathlib.Omega.{arith}
use mathlib.Core.Path.{◌≡◌, refl, sym, ap, subst, ◌∙◌}
use mathlib.Core.Bool.{Bool, true, false}
use mathlib.Core.List.{List, ◌++◌}
use lib.ListN.{length, take, drop}
use lib.Seq.{length-take-le}
use Rattle.wire.specs.Number.{bytes_of}
use Rattle.editions.specs.declared.Editions.{Editions}
use Rattle.editions.specs.declared.FileReading.{FileReading}
use Rattle.editions.specs.declared.FileReading.TheVariants.{Fault, Faultless}
use Rattle.editions.specs.Reading.{read_file, ReadFile}
use Rattle.trip.specs.Moments.{checkin_of}
use Rattle.statement.specs.Record.{Part, most_parts}
use Rattle.statement.specs.Reading.{cents_over}
use Rattle.statement.specs.Clauses.{RecordsTo, CentsOver}
use Rattle.settle.specs.declared.Answer.{Answer}
use Rattle.settle.specs.declared.Answer.TheVariants.{Refused, Written}
use Rattle.settle.specs.Outcome.{Outcome, refused, accepted, settled_under, settled}
use Rattle.settle.specs.Clauses.{Told, UnderSettled}
use Rattle.settle.proofs.Ways.{fault_way, faultless_way, refusal_told}
use Rattle.settle.proofs.Parts.{Accepted, no_size, under_accepted}
use Rattle.ceiling.specs.Ceiling.{
  trip_month,
  kept_as,
  collected_in,
  due_size,
  charged_in,
  due_of,
  uncollectable,
  wrong_ceiling,
  room_for,
  settled_month,
  kept_after,
  due_after,
}
use Rattle.ceiling.specs.Clauses.{Collectable, Stamped, MonthIs, RoomIs, Collected, MonthTold}
use Rattle.ceiling.proofs.Kept.{collectable, short_room, whole_room, some_room}
use Rattle.ceiling.proofs.Trips.{taken, some_bytes, charges_there, charges_read, lent_told}

-- ---- The ways.

module _ (ceiling : ℕ) (kept file book trip : List ℕ) (room due : ℕ) where
  pub wrong_way : uncollectable ceiling kept ≡ true → settled_month ceiling kept file book trip room due ≡ refused wrong_ceiling 0
  unfolding settled_month
  wrong_way e = rw e

  module _ (ok : uncollectable ceiling kept ≡ false) where
    pub right_way : settled_month ceiling kept file book trip room due ≡ settled file book trip (room_for room due)
    unfolding settled_month
    right_way = rw ok

    -- Where what is due has its room, answer, book and statement are settling's;
    pub as_settled : due_size ≤ due → settled_month ceiling kept file book trip room due ≡ settled file book trip room
    as_settled long = right_way ∙ ap (settled file book trip) (sym (whole_room room due long).value)

    -- where it has not, the answer is settling's with no room for a statement.
    pub as_without_room : due < due_size → settled_month ceiling kept file book trip room due ≡ settled file book trip 0
    as_without_room short = right_way ∙ ap (settled file book trip) (sym (short_room room due short).value)

    pub fault_month : {number at : ℕ} → read_file file ≡ Fault number at → settled_month ceiling kept file book trip room due ≡ refused number at
    fault_month {number} {at} e = right_way ∙ fault_way file book trip (room_for room due) number at e

    pub read_month :
        (editions : Editions) → ReadFile file editions
        → settled_month ceiling kept file book trip room due ≡ settled_under file editions book trip (room_for room due)
    read_month editions read = right_way ∙ faultless_way file book trip (room_for room due) editions read

  -- What a trip that is accepted has passed: 24, and all of settling's refusals.
  module _ {new : List ℕ} {parts : List Part} (e : settled_month ceiling kept file book trip room due ≡ accepted new parts) where
    passed : uncollectable ceiling kept ≡ false
    passed = go (uncollectable ceiling kept) refl
      where
        go : (t : Bool) → uncollectable ceiling kept ≡ t → t ≡ false
        go true is = absurd (let z : ◌≡◌ {A = ℕ} 0 1 = cc (wrong_way is, e) in omega arith)
        go false is = refl

    pub settles : settled file book trip (room_for room due) ≡ accepted new parts
    settles = sym (right_way passed) ∙ e

    pub entered : Collectable ceiling kept × Stamped trip
    entered = (collectable ceiling kept passed, under (read_file file) refl)
      where
        under : (f : FileReading) → read_file file ≡ f → Stamped trip
        under (Fault number at) is = absurd (let z : ◌≡◌ {A = ℕ} 0 1 = cc (fault_month passed is, e) in omega arith)
        under (Faultless editions) is =
            (taken file editions is book trip (room_for room due) (sym (read_month passed editions is) ∙ e)).stamped

-- With no room no trip is accepted.
pub none_without_room :
    (file book trip : List ℕ) {new : List ℕ} {parts : List Part} → settled file book trip 0 ≡ accepted new parts → ⊥
none_without_room file book trip {new} {parts} e = go (read_file file) refl
  where
    go : (f : FileReading) → read_file file ≡ f → ⊥
    go (Fault number at) is = let z : ◌≡◌ {A = ℕ} 0 1 = cc (fault_way file book trip 0 number at is, e) in omega arith
    go (Faultless editions) is =
        let t = taken file editions is book trip 0 (sym (faultless_way file book trip 0 editions is) ∙ e) in
        omega (arith, t.fits, some_bytes t.few t.recordable)

-- ---- What is told.

-- A refusal leaves all four.
refused_month :
    (o : Outcome) {ceiling : ℕ} {trip kept book book' statement statement' due : List ℕ} {number place : ℕ}
    → Told o book book' statement statement' (Refused number place)
    → MonthTold o ceiling trip kept kept book book' statement statement' due due (Refused number place)
refused_month (refused number place) told = record { told = told; kept_is = refl; due_is = refl }
refused_month (accepted new parts) told = no_size (sym told.answer)

pub month_refused :
    {o : Outcome} {ceiling : ℕ} {trip kept book statement due : List ℕ} {number place : ℕ} → o ≡ refused number place → place < 2 ^ 32
    → MonthTold o ceiling trip kept kept book book statement statement due due (Refused number place)
month_refused {o} {book = book} {statement = statement} {number = number} {place} e near =
    refused_month o (refusal_told o book statement number place e near)

-- ---- Under a faultless file, with the statement lent up to the room for the records.

-- what was lent, and what settling told
pub record LentTold (file : List ℕ) (editions : Editions) (book trip statement due book' lent : List ℕ) (room : ℕ) (r : Answer) : Type 0 where
  pub read : ReadFile file editions
  pub there : RoomIs (length statement) (length due) room
  pub told : UnderSettled file editions book trip (take room statement) book' lent r

-- what settling comes to
abbrev pub within : List ℕ → Editions → List ℕ → List ℕ → List ℕ → List ℕ → Outcome
within file editions book trip statement due = settled_under file editions book trip (room_for (length statement) (length due))

-- What is told of the bytes that were lent is told of the whole statement.
whole :
    {file : List ℕ} {editions : Editions} {book trip statement due book' lent : List ℕ} {room : ℕ} {r : Answer}
    → LentTold file editions book trip statement due book' lent room r → Told (within file editions book trip statement due) book book' statement (lent ++ drop room statement) r
whole {file} {editions} {book} {trip} {statement} {due} {book'} {lent} {room} {r} l =
    let there = l.there in
    let rooms : length (take room statement) ≡ room_for (length statement) (length due) =
    length-take-le room statement there.range ∙ there.value
    in
    lent_told (within file editions book trip statement due) room statement
    (λ new parts e. omega (arith, (taken file editions l.read book trip (room_for (length statement) (length due)) e).fits, there.value))
    (subst (λ (n : ℕ). Told (settled_under file editions book trip n) book book' (take room statement) lent r) rooms l.told)

-- A refusal leaves all.
pub refused_within :
    {file : List ℕ} {editions : Editions} {book trip statement due book' lent : List ℕ} {room : ℕ} {r : Answer}
    {ceiling number place : ℕ} {kept : List ℕ} → LentTold file editions book trip statement due book' lent room r → r ≡ Refused number place
    → MonthTold (within file editions book trip statement due) ceiling trip kept kept book book' statement (lent ++ drop room statement) due due
    (Refused number place)
refused_within l is = refused_month _ (rw is at (whole l))

-- What was written: the records stand in the statement, and what is due has its room.
pub record Wrote (trip due bytes : List ℕ) (size : ℕ) (o : Outcome) : Type 0 where
  pub new : List ℕ
  pub parts : List Part
  pub is : o ≡ accepted new parts
  pub stamped : Stamped trip
  pub room_due : due_size ≤ length due
  pub records : RecordsTo bytes size most_parts 0
  pub charges : cents_over bytes size ≡ charged_in parts

pub written :
    (due : List ℕ) {file : List ℕ} {editions : Editions} {book trip statement book' lent : List ℕ} {room : ℕ} {r : Answer} {size : ℕ}
    → LentTold file editions book trip statement due book' lent room r → r ≡ Written size
    → Wrote trip due (lent ++ drop room statement) size (within file editions book trip statement due)
written due {file} {editions} {book} {trip} {statement} {book'} {lent} {room} {r} {size} l is =
    let all = room_for (length statement) (length due) in
    let it : Accepted (within file editions book trip statement due) (lent ++ drop room statement) size =
    under_accepted file editions book trip all (rw is at (whole l))
    in
    let t = taken file editions l.read book trip all it.is in
    record {
      new = it.new;
      parts = it.parts;
      is = it.is;
      stamped = t.stamped;
      room_due = some_room (length statement) (length due) (omega (arith, t.fits, some_bytes t.few t.recordable));
      records = charges_there it.few it.recordable it.stand it.size_is;
      charges = charges_read it.few it.recordable it.stand it.size_is;
    }

pub written_within :
    {file : List ℕ} {editions : Editions} {book trip statement due book' lent : List ℕ} {room : ℕ} {r : Answer} {size ceiling month charged : ℕ}
    {kept kept' due' : List ℕ} → LentTold file editions book trip statement due book' lent room r → r ≡ Written size → MonthIs (checkin_of trip) month
    → CentsOver (lent ++ drop room statement) size charged → Collected ceiling kept month charged due kept' due'
    → MonthTold (within file editions book trip statement due) ceiling trip kept kept' book book' statement (lent ++ drop room statement) due due'
    (Written size)
written_within {trip = trip} {due = due} {ceiling = ceiling} {charged = charged} {kept = kept} l is month-is charged-is c =
    let w = written due l is in
    let all : charged ≡ charged_in w.parts = charged-is.value ∙ w.charges in
    let m = trip_month trip in
    record {
      told = rw is at (whole l);
      kept_is =
          c.kept_is
          ∙ ap (λ (x : ℕ). kept_as x (collected_in kept x + due_of ceiling (collected_in kept x) charged)) month-is.value
          ∙ ap (λ (x : ℕ). kept_as m (collected_in kept m + due_of ceiling (collected_in kept m) x)) all
          ∙ sym (ap (λ (x : Outcome). kept_after ceiling trip x kept) w.is);
      due_is =
          c.due_is
          ∙ ap (λ (x : ℕ). bytes_of 4 (due_of ceiling (collected_in kept x) charged) ++ drop 4 due) month-is.value
          ∙ ap (λ (x : ℕ). bytes_of 4 (due_of ceiling (collected_in kept m) x) ++ drop 4 due) all
          ∙ sym (ap (λ (x : Outcome). due_after ceiling trip x kept due) w.is);
    }
