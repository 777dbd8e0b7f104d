-- A charge record read back, wherever it stands in a statement: each accessor gives the field or the charge that the record was made of.
-- Assumes nothing.
use Prim.Native.Nat.{ℕ, zero, suc, ◌+◌, ◌-◌, ◌*◌, ◌/◌, ◌%◌, ◌^◌, ◌≤◌, ◌<◌, min}
use native.Mathlib.Nat.{pow-suc, add_assoc, add-zero, le_refl}
use native.Mathlib.Omega.{arith}
use mathlib.Core.Path.{◌≡◌, refl, sym, ap, ◌∙◌}
use mathlib.Core.List.{List, [], ◌∷◌, ◌++◌, append_assoc, append-nil}
use lib.ListN.{length, get_or, take, drop, length-append, length-drop}
use lib.Seq.{get_or-append-add, take-suc, take_all, drop_at, drop-drop}
use Rattle.wire.specs.Number.{get_le, bytes_of}
use Rattle.wire.proofs.Number.{length_bytes, get_drop, get_front}
use Rattle.caps.specs.declared.Cut.{Cut}
use Rattle.trip.specs.declared.Party.{Party}
use Rattle.statement.specs.Record.{
  Part,
  head_size,
  person_size,
  long_with,
  persons_of,
  charge_kind,
  head_bytes,
  head_of,
  cut_bytes,
  person_bytes,
  charge_bytes,
  record_of,
  statement_of,
  uncut,
  CutFits,
  Recordable,
}
use Rattle.statement.specs.Reading.{
  long_in,
  kind_in,
  opening_in,
  area_in,
  km_in,
  minutes_in,
  adults_in,
  children_in,
  bicycles_in,
  size_in,
  persons_in,
  count_in,
  charge_place,
  charge_in,
  bicycle_in,
  cut_place,
  reduction_in,
  cap_area_in,
  cap_class_in,
  cents_up_to,
  cents_in,
  cents_from,
  sum_of,
  charged_for,
}
use Rattle.statement.specs.Clauses.{Recordables, none, more, StandsAt, StandFrom, over, then, RecordAt, RecordsTo, no_more, one_more}
use Rattle.statement.proofs.Head.{length_head, length_person}
use Rattle.statement.proofs.Charges.{length_record}
use Rattle.statement.proofs.Sums.{cents_go_on, cents_end}

-- ---- Bytes one after another.

-- a number behind some bytes
pub get_behind : (w n : ℕ) (front rest : List ℕ) (p : ℕ) → length front ≡ n → get_le w (front ++ rest) (n + p) ≡ get_le w rest p
unfolding get_le
get_behind zero n front rest p size = refl
get_behind (suc w) n front rest p size =
    let byte : get_or (front ++ rest) (n + p) 0 ≡ get_or rest p 0 = rw (← size) (get_or-append-add front rest p 0) in
    let more : get_le w (front ++ rest) (n + p + 1) ≡ get_le w rest (p + 1) =
    ap (get_le w (front ++ rest)) (add_assoc n p 1) ∙ get_behind w n front rest (p + 1) size
    in
    omega (arith, byte, more)

-- a number written first is read back, where its width holds it
pub get_first : (k v : ℕ) (rest : List ℕ) → v < 256 ^ k → get_le k (bytes_of k v ++ rest) 0 ≡ v
unfolding get_le bytes_of
get_first zero v rest small = omega arith
get_first (suc k) v rest small =
    let tail : get_le k (v % 256 ∷ (bytes_of k (v / 256) ++ rest)) 1 ≡ v / 256 =
    get_behind k 1 (v % 256 ∷ []) (bytes_of k (v / 256) ++ rest) 0 refl ∙ get_first k (v / 256) rest (omega (arith, pow-suc 256 k))
    in
    omega arith

-- a number behind another
pub get_next : (w k v : ℕ) (rest : List ℕ) (p : ℕ) → get_le w (bytes_of k v ++ rest) (k + p) ≡ get_le w rest p
get_next w k v rest p = get_behind w k (bytes_of k v) rest p (length_bytes k v)

-- ---- The charges.

-- charge i stands behind i others, and the cuts of those of them that are persons'
pub charge_among :
    (charges : List ℕ) (cuts : List Cut) (rest : List ℕ) (i : ℕ) → i < length charges → get_or charges i 0 < 2 ^ 32
    → get_le 4 (charge_bytes charges cuts ++ rest) (4 * i + 6 * min i (length cuts)) ≡ get_or charges i 0
unfolding charge_bytes person_bytes
charge_among [] cuts rest i there small = absurd (omega arith)
charge_among (c ∷ charges) [] rest zero there small =
    let place : 4 * zero + 6 * min zero (length {A = Cut} []) ≡ 0 = omega arith in
    rw (place, append_assoc (bytes_of 4 c) (charge_bytes charges []) rest) (get_first 4 c (charge_bytes charges [] ++ rest) small)
charge_among (c ∷ charges) [] rest (suc i) there small =
    let place : 4 * suc i + 6 * min (suc i) (length {A = Cut} []) ≡ 4 + (4 * i + 6 * min i (length {A = Cut} [])) = omega arith in
    rw (place, append_assoc (bytes_of 4 c) (charge_bytes charges []) rest)
    (get_next 4 4 c (charge_bytes charges [] ++ rest) _ ∙ charge_among charges [] rest i (omega arith) small)
charge_among (c ∷ charges) (k ∷ cuts) rest zero there small =
    let place : 4 * zero + 6 * min zero (length (k ∷ cuts)) ≡ 0 = omega arith in
    rw (
      place,
      append_assoc (person_bytes c k) (charge_bytes charges cuts) rest,
      append_assoc (bytes_of 4 c) (cut_bytes k) (charge_bytes charges cuts ++ rest),
    )
    (get_first 4 c (cut_bytes k ++ (charge_bytes charges cuts ++ rest)) small)
charge_among (c ∷ charges) (k ∷ cuts) rest (suc i) there small =
    let place : 4 * suc i + 6 * min (suc i) (length (k ∷ cuts)) ≡ 10 + (4 * i + 6 * min i (length cuts)) = omega arith in
    rw (place, append_assoc (person_bytes c k) (charge_bytes charges cuts) rest)
    (get_behind 4 10 (person_bytes c k) (charge_bytes charges cuts ++ rest) _ (length_person c k) ∙ charge_among charges cuts rest i (omega arith) small)

-- what is read within person i's bytes
person_among :
    (charges : List ℕ) (cuts : List Cut) (rest : List ℕ) (i w p : ℕ) → i < length cuts → length cuts ≤ length charges → p + w ≤ 10
    → get_le w (charge_bytes charges cuts ++ rest) (10 * i + p) ≡ get_le w (person_bytes (get_or charges i 0) (get_or cuts i uncut)) p
unfolding charge_bytes
person_among charges [] rest i w p there all fits = absurd (omega arith)
person_among [] (k ∷ cuts) rest i w p there all fits = absurd (omega arith)
person_among (c ∷ charges) (k ∷ cuts) rest zero w p there all fits =
    let place : 10 * zero + p ≡ p = omega arith in
    rw (place, append_assoc (person_bytes c k) (charge_bytes charges cuts) rest)
    (get_front w (person_bytes c k) (charge_bytes charges cuts ++ rest) p (omega (arith, length_person c k)))
person_among (c ∷ charges) (k ∷ cuts) rest (suc i) w p there all fits =
    let place : 10 * suc i + p ≡ 10 + (10 * i + p) = omega arith in
    rw (place, append_assoc (person_bytes c k) (charge_bytes charges cuts) rest)
    (get_behind w 10 (person_bytes c k) (charge_bytes charges cuts ++ rest) (10 * i + p) (length_person c k)
    ∙ person_among charges cuts rest i w p (omega arith) (omega arith) fits)

-- the three fields behind a person's charge
reduction_read : (c : ℕ) (k : Cut) → CutFits k → get_le 4 (person_bytes c k) 4 ≡ k.reduction.0
unfolding person_bytes cut_bytes
reduction_read c k fits = get_next 4 4 c _ 0 ∙ get_first 4 k.reduction.0 _ fits.reduction

area_read : (c : ℕ) (k : Cut) → CutFits k → get_le 1 (person_bytes c k) 8 ≡ k.area
unfolding person_bytes cut_bytes
area_read c k fits = get_next 1 4 c _ 4 ∙ get_next 1 4 k.reduction.0 _ 0 ∙ get_first 1 k.area _ fits.area

class_read : (c : ℕ) (k : Cut) → CutFits k → get_le 1 (person_bytes c k) 9 ≡ k.class
unfolding person_bytes cut_bytes
class_read c k fits =
    get_next 1 4 c _ 5
    ∙ get_next 1 4 k.reduction.0 _ 1
    ∙ get_next 1 1 k.area _ 0
    ∙ ap (λ (b : List ℕ). get_le 1 b 0) (sym (append-nil (bytes_of 1 k.class)))
    ∙ get_first 1 k.class [] fits.class

-- one charge more, added up
sum_more : (charges : List ℕ) (c : ℕ) → sum_of (charges ++ (c ∷ [])) ≡ sum_of charges + c
unfolding sum_of
sum_more [] c = omega arith
sum_more (d ∷ charges) c = let rest = sum_more charges c in omega arith

-- ---- The record.

module _ (part : Part) (statement : List ℕ) (place : ℕ) (stands : StandsAt part statement place) (ok : Recordable part) where
  -- what is read at a place of the record is read from the record alone
  read : (w p : ℕ) → get_le w statement (place + p) ≡ get_le w (record_of part ++ stands.rest) p
  read w p = sym (get_drop w place statement p) ∙ ap (λ (b : List ℕ). get_le w b p) stands.is

  abbrev party : Party
  party = part.ride.party

  abbrev persons : ℕ
  persons = persons_of party

  abbrev behind : List ℕ
  behind = charge_bytes part.charges part.cuts ++ stands.rest

  -- the record's fields one after another
  laid_out :
      record_of part ++ stands.rest
      ≡ bytes_of 2 (long_with persons party.bicycles)
      ++ (bytes_of 2 charge_kind
      ++ (bytes_of 4 part.opening
      ++ (bytes_of 1 part.ride.area
      ++ (bytes_of 2 part.ride.km.0
      ++ (bytes_of 2 part.ride.minutes.0 ++ (bytes_of 1 party.adults ++ (bytes_of 1 party.children ++ (bytes_of 1 party.bicycles ++ behind))))))))
  unfolding record_of head_of head_bytes
  laid_out = simp append_assoc

  pub long_is : long_in statement place ≡ long_with persons party.bicycles
  long_is =
      ap (get_le 2 statement) (sym (add-zero place))
      ∙ read 2 0
      ∙ rw laid_out (get_first 2 _ _ (omega (arith, ok.ride.adults, ok.ride.children, ok.ride.bicycles)))

  pub kind_is : kind_in statement place ≡ charge_kind
  kind_is = read 2 2 ∙ rw laid_out (get_next 2 2 _ _ 0 ∙ get_first 2 charge_kind _ (omega arith))

  pub opening_is : opening_in statement place ≡ part.opening
  opening_is = read 4 4 ∙ rw laid_out (get_next 4 2 _ _ 2 ∙ get_next 4 2 _ _ 0 ∙ get_first 4 part.opening _ ok.opening)

  pub area_is : area_in statement place ≡ part.ride.area
  area_is =
      read 1 8 ∙ rw laid_out (get_next 1 2 _ _ 6 ∙ get_next 1 2 _ _ 4 ∙ get_next 1 4 _ _ 0 ∙ get_first 1 part.ride.area _ ok.ride.area)

  pub km_is : km_in statement place ≡ part.ride.km.0
  km_is =
      read 2 9
      ∙ rw laid_out
      (get_next 2 2 _ _ 7 ∙ get_next 2 2 _ _ 5 ∙ get_next 2 4 _ _ 1 ∙ get_next 2 1 _ _ 0 ∙ get_first 2 part.ride.km.0 _ ok.ride.km)

  pub minutes_is : minutes_in statement place ≡ part.ride.minutes.0
  minutes_is =
      read 2 11
      ∙ rw laid_out
      (get_next 2 2 _ _ 9 ∙ get_next 2 2 _ _ 7 ∙ get_next 2 4 _ _ 3 ∙ get_next 2 1 _ _ 2 ∙ get_next 2 2 _ _ 0
      ∙ get_first 2 part.ride.minutes.0 _ ok.ride.minutes)

  pub adults_is : adults_in statement place ≡ party.adults
  adults_is =
      read 1 13
      ∙ rw laid_out
      (get_next 1 2 _ _ 11 ∙ get_next 1 2 _ _ 9 ∙ get_next 1 4 _ _ 5 ∙ get_next 1 1 _ _ 4 ∙ get_next 1 2 _ _ 2 ∙ get_next 1 2 _ _ 0
      ∙ get_first 1 party.adults _ (omega (arith, ok.ride.adults)))

  pub children_is : children_in statement place ≡ party.children
  children_is =
      read 1 14
      ∙ rw laid_out
      (get_next 1 2 _ _ 12 ∙ get_next 1 2 _ _ 10 ∙ get_next 1 4 _ _ 6 ∙ get_next 1 1 _ _ 5 ∙ get_next 1 2 _ _ 3 ∙ get_next 1 2 _ _ 1 ∙ get_next 1 1 _ _ 0
      ∙ get_first 1 party.children _ (omega (arith, ok.ride.children)))

  pub bicycles_is : bicycles_in statement place ≡ party.bicycles
  bicycles_is =
      read 1 15
      ∙ rw laid_out
      (get_next 1 2 _ _ 13 ∙ get_next 1 2 _ _ 11 ∙ get_next 1 4 _ _ 7 ∙ get_next 1 1 _ _ 6 ∙ get_next 1 2 _ _ 4 ∙ get_next 1 2 _ _ 2 ∙ get_next 1 1 _ _ 1
      ∙ get_next 1 1 _ _ 0 ∙ get_first 1 party.bicycles behind (omega (arith, ok.ride.bicycles)))

  pub persons_is : persons_in statement place ≡ persons
  persons_is = rw (adults_is, children_is)

  pub count_is : count_in statement place ≡ length part.charges
  count_is = rw (persons_is, bicycles_is) (sym ok.complete.charges)

  -- what is read behind the head is read from the charges and cuts
  behind_head : (w p : ℕ) → get_le w statement (place + (head_size + p)) ≡ get_le w behind p
  unfolding record_of
  behind_head w p =
      read w (head_size + p)
      ∙ rw (append_assoc (head_of part.opening part.ride) (charge_bytes part.charges part.cuts) stands.rest)
      (get_behind w head_size (head_of part.opening part.ride) behind p (length_head part.opening part.ride))

  pub charge_is : (i : ℕ) → i < length part.charges → charge_in statement place i ≡ get_or part.charges i 0
  charge_is i there =
      let at : charge_place place (persons_in statement place) i ≡ place + (head_size + (4 * i + 6 * min i (length part.cuts))) =
      rw (persons_is, ok.complete.cuts) (omega arith)
      in
      ap (get_le 4 statement) at ∙ behind_head 4 _ ∙ charge_among part.charges part.cuts stands.rest i there (ok.charges i)

  -- Person j's charge stands behind the persons before.
  pub person_is : (j : ℕ) → j < persons → get_le 4 statement (place + head_size + person_size * j) ≡ get_or part.charges j 0
  person_is j there =
      let at : place + head_size + person_size * j ≡ charge_place place (persons_in statement place) j = rw persons_is (omega arith) in
      ap (get_le 4 statement) at ∙ charge_is j (omega (arith, ok.complete.charges))

  -- Bicycle k's charge stands behind those of all persons.
  pub bicycle_is : (k : ℕ) → k < party.bicycles → bicycle_in statement place k ≡ get_or part.charges (persons + k) 0
  bicycle_is k there = ap (charge_in statement place) (ap (◌+ k) persons_is) ∙ charge_is (persons + k) (omega (arith, ok.complete.charges))

  -- what is read within person i's bytes
  at_person :
      (i w p : ℕ) → i < length part.cuts → p + w ≤ 10
      → get_le w statement (place + (head_size + (10 * i + p))) ≡ get_le w (person_bytes (get_or part.charges i 0) (get_or part.cuts i uncut)) p
  at_person i w p there fits =
      behind_head w (10 * i + p)
      ∙ person_among part.charges part.cuts stands.rest i w p there (omega (arith, ok.complete.charges, ok.complete.cuts)) fits

  pub reduction_is : (i : ℕ) → i < length part.cuts → reduction_in statement place i ≡ (get_or part.cuts i uncut).reduction.0
  reduction_is i there =
      let at : cut_place place i ≡ place + (head_size + (10 * i + 4)) = omega arith in
      ap (get_le 4 statement) at ∙ at_person i 4 4 there (omega arith) ∙ reduction_read _ _ (ok.cuts i there)

  pub cap_area_is : (i : ℕ) → i < length part.cuts → cap_area_in statement place i ≡ (get_or part.cuts i uncut).area
  cap_area_is i there =
      let at : cut_place place i + 4 ≡ place + (head_size + (10 * i + 8)) = omega arith in
      ap (get_le 1 statement) at ∙ at_person i 1 8 there (omega arith) ∙ area_read _ _ (ok.cuts i there)

  pub cap_class_is : (i : ℕ) → i < length part.cuts → cap_class_in statement place i ≡ (get_or part.cuts i uncut).class
  cap_class_is i there =
      let at : cut_place place i + 5 ≡ place + (head_size + (10 * i + 9)) = omega arith in
      ap (get_le 1 statement) at ∙ at_person i 1 9 there (omega arith) ∙ class_read _ _ (ok.cuts i there)

  -- The record's charges add up to the part's: what caps took off is not among them.
  pub cents_is : cents_in statement place ≡ sum_of part.charges
  unfolding cents_up_to sum_of
  cents_is = rw count_is (up_to (length part.charges) (le_refl _) ∙ ap sum_of (take_all (length part.charges) part.charges (le_refl _)))
    where
      up_to : (n : ℕ) → n ≤ length part.charges → cents_up_to statement place n ≡ sum_of (take n part.charges)
      up_to zero h = refl
      up_to (suc n) h =
          rw (take-suc part.charges n 0 (omega arith), sum_more (take n part.charges) (get_or part.charges n 0))
          (rw (up_to n (omega arith), charge_is n (omega arith)))

-- Such a record can be read.
pub record_at : {part : Part} {statement : List ℕ} {place : ℕ} → StandsAt part statement place → Recordable part → RecordAt statement place
record_at {part} {statement} {place} stands ok =
    let long = long_is part statement place stands ok in
    let adults = adults_is part statement place stands ok in
    let children = children_is part statement place stands ok in
    let bicycles = bicycles_is part statement place stands ok in
    let size = length_record part ok.complete in
    let whole : length (record_of part) + length stands.rest ≡ length statement - place =
    sym (length-append (record_of part) stands.rest) ∙ ap length (sym stands.is) ∙ length-drop place statement
    in
    record {
      adults = omega (arith, ok.ride.adults);
      children = omega (arith, ok.ride.children);
      bicycles = omega (arith, ok.ride.bicycles);
      long = omega arith;
      inside = omega arith;
    }

-- It says how long it is.
pub size_is : {part : Part} {statement : List ℕ} {place : ℕ} → StandsAt part statement place → Recordable part → size_in statement place ≡ length (record_of part)
size_is {part} {statement} {place} stands ok = omega (arith, long_is part statement place stands ok, length_record part ok.complete)

-- The first of a statement's parts stands at its start, and the others behind it.
pub first_stands : (part : Part) (others : List Part) (rest : List ℕ) → StandsAt part (statement_of (part ∷ others) ++ rest) 0
unfolding statement_of
first_stands part others rest = record { rest = statement_of others ++ rest; is = append_assoc (record_of part) (statement_of others) rest }

-- The second stands behind the first one's bytes.
pub second_stands :
    (one other : Part) (others : List Part) (rest : List ℕ)
    → StandsAt other (statement_of (one ∷ other ∷ others) ++ rest) (length (record_of one))
unfolding statement_of
second_stands one other others rest =
    record {
      rest = statement_of others ++ rest;
      is =
          ap (drop (length (record_of one))) (append_assoc (record_of one) (record_of other ++ statement_of others) rest)
          ∙ drop_at (record_of one) ((record_of other ++ statement_of others) ++ rest) (length (record_of one)) refl
          ∙ append_assoc (record_of other) (statement_of others) rest;
    }

-- ---- Records one behind the other.

-- The records that a statement goes on with from a place stand from there on.
pub stand_from :
    (parts : List Part) (statement rest : List ℕ) (place : ℕ) → drop place statement ≡ statement_of parts ++ rest → StandFrom statement parts place
unfolding statement_of
stand_from [] statement rest place is = over
stand_from (part ∷ parts) statement rest place is =
    let apart : drop place statement ≡ record_of part ++ (statement_of parts ++ rest) = is ∙ append_assoc (record_of part) (statement_of parts) rest in
    then (record { rest = statement_of parts ++ rest; is = apart })
    (stand_from parts statement rest (place + length (record_of part))
    (sym (drop-drop (length (record_of part)) place statement) ∙ ap (drop (length (record_of part))) apart
    ∙ drop_at (record_of part) (statement_of parts ++ rest) (length (record_of part)) refl))

-- Such records can be read up to their end, and their charges add up to those of the parts.
module _ (statement : List ℕ) where
  pub records_to :
      (most : ℕ) (parts : List Part) {place end : ℕ} → length parts ≤ most → Recordables parts → StandFrom statement parts place
      → end ≡ place + length (statement_of parts) → RecordsTo statement end most place
  unfolding statement_of
  records_to most [] {place} few none over is = no_more (sym (is ∙ add-zero place))
  records_to zero (part ∷ parts) few (more ok all) (then stands rest) is = absurd (omega (arith, few))
  records_to (suc most) (part ∷ parts) {place} few (more ok all) (then stands rest) is =
      let size = size_is stands ok in
      one_more {most = most} (record_at stands ok)
      (rw size (records_to most parts (omega arith) all rest (omega (arith, is, length-append (record_of part) (statement_of parts)))))

  pub cents-over :
      (most : ℕ) (parts : List Part) {place end : ℕ} → length parts ≤ most → Recordables parts → StandFrom statement parts place
      → end ≡ place + length (statement_of parts) → cents_from most statement place end ≡ charged_for parts
  unfolding statement_of charged_for
  cents-over most [] few none over is = cents_end statement most (omega (arith, is))
  cents-over zero (part ∷ parts) few (more ok all) (then stands rest) is = absurd (omega (arith, few))
  cents-over (suc most) (part ∷ parts) {place} {end} few (more ok all) (then stands rest) is =
      let size = size_is stands ok in
      let some = length_record part ok.complete in
      let long = length-append (record_of part) (statement_of parts) in
      let ends : end ≡ place + length (record_of part) + length (statement_of parts) = omega (arith, is, long) in
      cents_go_on statement most (omega (arith, is, long, some))
      ∙ rw (size, cents_is part statement place stands ok, cents-over most parts (omega arith) all rest ends)
