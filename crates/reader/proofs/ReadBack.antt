-- Reading and writing are each other's inverses. What is written is read back, field by field; what is accepted is the writing of fields in
-- range; and each refusal is given exactly under its own condition, in order. So a reading is determined by the bytes and the place.
-- Assumes nothing.
use Prim.Native.Nat.{ℕ, ◌+◌, ◌-◌, ◌*◌, ◌^◌, ◌≤◌, ◌<◌, min}
use native.Mathlib.Nat.{add-zero, not-suc-le-zero}
use native.Mathlib.Decide.{dec_lt}
use native.Mathlib.Omega.{arith}
use mathlib.Core.Path.{◌≡◌, refl, sym, ap, subst, ◌∙◌}
use mathlib.Core.Logic.{◌↔◌, ⊎_elim}
use mathlib.Core.Bool.{Bool, true, false, ◌&&◌, false≢true}
use mathlib.Core.List.{List, [], ◌++◌, append_assoc}
use lib.ListN.{length, get_or, drop, length-append, length-drop, get_or-eq_default}
use lib.Seq.{drop_at}
use lib.Dec.{leb, eqb}
use borrow.Author.Tests.{le-leb, eq-eqb}
use Rattle.wire.specs.Number.{get_le, bytes_of, Bytes}
use Rattle.wire.specs.Frame.{broken, frame_at}
use Rattle.wire.specs.declared.Frame.TheVariants.{Whole}
use Rattle.wire.proofs.Number.{get_drop}
use Rattle.wire.proofs.Frames.{WholeAt, unbroken, unbroken_given, broken_back, broken_is, whole, whole_back}
use Rattle.caps.specs.declared.Cut.{Cut}
use Rattle.trip.specs.declared.Party.{Party}
use Rattle.statement.specs.Record.{Part, long_with, persons_of, count_of, charge_kind, head_bytes, charge_bytes, record_of, uncut, CutFits, Recordable}
use Rattle.statement.specs.Record as record-of
use Rattle.statement.specs.Kind4.{charges_kind, charges_long, charges_head, charges_record_of}
use Rattle.statement.specs.Reading.{long_in, kind_in, size_in, charge_place}
use Rattle.statement.specs.Clauses as parts
use Rattle.statement.proofs.Charges.{length_charges}
use Rattle.statement.proofs.Records.{
  get_behind,
  get_first,
  get_next,
  charge_among,
  long_is,
  kind_is,
  opening_is,
  area_is,
  km_is,
  minutes_is,
  adults_is,
  children_is,
  bicycles_is,
  persons_is,
  charge_is,
  reduction_is,
  cap_area_is,
  cap_class_is,
  record_at,
  size_is,
}
use Rattle.reader.specs.declared.Head.{Head}
use Rattle.reader.specs.declared.Whose.{Whose}
use Rattle.reader.specs.declared.Whose.TheVariants.{Unsaid, Of}
use Rattle.reader.specs.declared.charges.Fit.{Fit}
use Rattle.reader.specs.declared.charges.Fit.TheVariants.{Fits, Unfit}
use Rattle.reader.specs.Fields.{Fields, kind4, kind6, Complete, written, fields_of, charges_alone}
use Rattle.reader.specs.Ranges.{InRange, CutInRange, in_range}
use Rattle.reader.specs.Reading.{
  head_at,
  party_at,
  cut_at,
  kind4_charge,
  listed,
  fields_for,
  kind4_charges,
  kind4_fit,
  whose_at,
  Reading,
  refused,
  told,
  ranged,
  read_at,
}
use Rattle.reader.specs.Conditions.{
  OtherRecord,
  other_kind,
  no_charges,
  no_party,
  RefusedBy,
  broken-frame,
  other-record,
  out-of-range,
  StandsAt,
}
use Rattle.reader.specs.declared.Read.{Read}
use Rattle.reader.specs.declared.fields.Filled.{Filled}
use Rattle.reader.specs.Clauses.{FittedAt, read_as}
use Rattle.reader.specs.Filling.{Filling, FilledIn}
use Rattle.reader.proofs.Listed.{length_listed, listed_back}
use Rattle.reader.proofs.Places.{kind4_is, kind4_fits, kind6_is, kind6_fits}
use Rattle.reader.proofs.Ranges.{range_told, range_tests}
use Rattle.reader.proofs.Accepted.{
  FitSays,
  fit_says,
  whole_unbroken,
  broken_way,
  unfit_way,
  fit_way,
  View,
  broken_view,
  unfit_view,
  wrong_view,
  right_view,
  view,
}
use Rattle.reader.proofs.Peeled.{CutReads, peeled, charges_peeled}

-- ---- What settling writes.

-- A part's record is the writing of its fields, in kind 6 and in kind 4.
pub written_part : (part : Part) → written (fields_of part) ≡ record_of part
unfolding written record_of record-of.head_of
written_part part = refl

pub written_alone : (part : Part) → written (charges_alone part) ≡ charges_record_of part
unfolding written charges_record_of
written_alone part = refl

-- ---- Reading.

-- where kind and length fit and the fields in range are those that stand there, they are told
told_way :
    (s : List ℕ) (p kind body : ℕ) (whose : Whose) (fields : Fields) → WholeAt s p kind body → whose_at s p ≡ Fits whose
    → fields_for s p whose ≡ fields → InRange fields → read_at s p ≡ told fields (4 + body)
unfolding ranged
told_way s p kind body whose fields framed fits same ok =
    let size : size_in s p ≡ 4 + body = omega (arith, framed.length_is) in
    fit_way s p (whole_unbroken s p kind body (whole_back s p kind body framed)) whose fits ∙ rw (same, size, range_tests fields ok)

-- a charge of fields in range is a number of four bytes
small_charge : (charges : List ℕ) → ((i : ℕ) → i < length charges → get_or charges i 0 < 2 ^ 32) → (i : ℕ) → get_or charges i 0 < 2 ^ 32
small_charge charges each i =
    elim (dec_lt i (length charges)) [ yes h ↦ each i h | no h ↦ rw (get_or-eq_default charges 0 {n = i} (omega arith)) (omega arith) ]

-- a cut in range fits its fields
pub cut_fits : (cut : Cut) → CutInRange cut → cut.reduction.0 ≤ 3790000 → CutFits cut
cut_fits cut ok most = go (dec_lt 0 cut.reduction.0)
  where
    go : Dec (0 < cut.reduction.0) → CutFits cut
    go (yes some) =
        let (area, class) = ok.named (λ e. omega arith) in
        record { reduction = omega arith; area = omega arith; class = ⊎_elim (λ e. omega arith) (λ e. omega arith) class }
    go (no none) =
        let (area, class) = ok.unnamed (omega arith) in
        record { reduction = omega arith; area = omega arith; class = omega arith }

-- the fields that stand there, field by field
same6 :
    (s : List ℕ) (p : ℕ) {head : Head} {party : Party} {charges : List ℕ} {cuts : List Cut} → head_at s p ≡ head
    → listed (count_of party) (λ (i : ℕ). get_le 4 s (charge_place p (persons_of party) i)) ≡ charges → listed (persons_of party) (cut_at s p) ≡ cuts
    → fields_for s p (Of party) ≡ kind6 head party charges cuts
unfolding fields_for
same6 s p h c k = rw (h, c, k)

same4 :
    (s : List ℕ) (p : ℕ) (head : Head) (charges : List ℕ) → head_at s p ≡ head → listed (length charges) (kind4_charge s p) ≡ charges
    → fields_for s p (Unsaid (length charges)) ≡ kind4 head charges
unfolding fields_for
same4 s p head charges h c = rw (h, c)

kind4_so : (long n : ℕ) → 1 ≤ n → n ≤ 31 → long ≡ charges_long n → kind4_fit long ≡ Fits (Unsaid n)
kind4_so long n least most is =
    let so-many : kind4_charges long ≡ n = omega arith in
    let tested : (leb 1 (kind4_charges long) && leb (kind4_charges long) 31 && eqb long (charges_long (kind4_charges long))) ≡ true =
    rw (so-many, le-leb 1 n least, le-leb n 31 most, eq-eqb long (charges_long n) is)
    in
    sym (kind4_fits long tested) ∙ ap (λ (m : ℕ). Fits (Unsaid m)) so-many

front_size : (head : Head) (long : ℕ) → length (charges_head long head.opening.0 head.area head.km.0 head.minutes.0) ≡ 13
unfolding charges_head bytes_of
front_size head long = refl

-- ---- Kind 6.

module _ (head : Head) (party : Party) (charges : List ℕ) (cuts : List Cut) where
  abbrev fields6 : Fields
  fields6 = kind6 head party charges cuts

  -- a part with these fields; class and ticket level are not told
  abbrev part6 : Part
  part6 =
      record {
        opening = head.opening.0;
        ride = record { area = head.area; km = head.km; minutes = head.minutes; class = 2; level = 0; party = party };
        charges = charges;
        cuts = cuts;
      }

  recordable6 : Complete fields6 → InRange fields6 → Recordable part6
  recordable6 complete ok =
      record {
        opening = omega (arith, ok.head.opening);
        ride =
            record {
              area = omega (arith, ok.head.area);
              km = omega (arith, ok.head.km);
              minutes = omega (arith, ok.head.minutes);
              adults = ok.whose.0;
              children = ok.whose.1.0;
              bicycles = ok.whose.1.1;
            };
        complete = record { charges = complete.0; cuts = complete.1 };
        charges = small_charge charges (λ i h. let one = ok.amounts i (omega (arith, complete.0)) in omega (arith, one.price));
        cuts = λ i h.
            let one = ok.amounts i (omega (arith, complete.1)) in
            cut_fits (get_or cuts i uncut) one.cut (omega (arith, one.price));
      }

  read6 : (s : List ℕ) (p : ℕ) → StandsAt fields6 s p → read_at s p ≡ told fields6 (length (written fields6))
  read6 s p stands =
      let ok = recordable6 stands.complete stands.range in
      let there : parts.StandsAt part6 s p = record { rest = stands.rest; is = stands.is ∙ ap (◌++ stands.rest) (written_part part6) } in
      let long = long_is part6 s p there ok in
      let inside = (record_at there ok).inside in
      let size : size_in s p ≡ length (written fields6) = size_is there ok ∙ ap length (sym (written_part part6)) in
      let of_party : party_at s p ≡ party = rw (adults_is part6 s p there ok, children_is part6 s p there ok, bicycles_is part6 s p there ok) in
      let fitting : long_in s p ≡ long_with (persons_of (party_at s p)) (party_at s p).bicycles =
      rw (adults_is part6 s p there ok, children_is part6 s p there ok, bicycles_is part6 s p there ok) long
      in
      let framed : WholeAt s p charge_kind (long_in s p - 2) =
      record {
        kind_is = sym (kind_is part6 s p there ok);
        length_is = omega arith;
        fits = omega arith;
        short = omega (arith, long, ok.ride.adults, ok.ride.children, ok.ride.bicycles);
      }
      in
      let head_same : head_at s p ≡ head =
      rw (opening_is part6 s p there ok, area_is part6 s p there ok, km_is part6 s p there ok, minutes_is part6 s p there ok)
      in
      let charges_same : listed (count_of party) (λ (i : ℕ). get_le 4 s (charge_place p (persons_of party) i)) ≡ charges =
      rw (← stands.complete.0)
      (listed_back charges 0 (λ (i : ℕ). get_le 4 s (charge_place p (persons_of party) i))
      (λ i h. rw (← persons_is part6 s p there ok) (charge_is part6 s p there ok i h)))
      in
      let cuts_same : listed (persons_of party) (cut_at s p) ≡ cuts =
      rw (← stands.complete.1)
      (listed_back cuts uncut (cut_at s p)
      (λ i h. rw (reduction_is part6 s p there ok i h, cap_area_is part6 s p there ok i h, cap_class_is part6 s p there ok i h)))
      in
      told_way s p charge_kind (long_in s p - 2) (Of party) fields6 framed
      (kind6_is s p (kind_is part6 s p there ok) ∙ kind6_fits s p fitting ∙ ap (λ (q : Party). Fits (Of q)) of_party)
      (same6 s p head_same charges_same cuts_same) stands.range
      ∙ ap (told fields6) (let whole-size : 4 + (long_in s p - 2) ≡ length (written fields6) = omega arith in whole-size)

-- ---- Kind 4.

-- the record's fields one after another
laid4 :
    (head : Head) (charges rest : List ℕ)
    → written (kind4 head charges) ++ rest
    ≡ bytes_of 2 (charges_long (length charges))
    ++ (bytes_of 2 charges_kind
    ++ (bytes_of 4 head.opening.0
    ++ (bytes_of 1 head.area ++ (bytes_of 2 head.km.0 ++ (bytes_of 2 head.minutes.0 ++ (charge_bytes charges [] ++ rest))))))
unfolding written charges_head
laid4 head charges rest = simp append_assoc

length4 : (head : Head) (charges : List ℕ) → length (written (kind4 head charges)) ≡ 13 + 4 * length charges
unfolding written charges_head bytes_of
length4 head charges =
    let front = charges_head (charges_long (length charges)) head.opening.0 head.area head.km.0 head.minutes.0 in
    let short : length front ≡ 13 = refl in
    length-append front (charge_bytes charges []) ∙ omega (arith, short, length_charges charges [] (omega arith))

module _ (head : Head) (charges : List ℕ) (s : List ℕ) (p : ℕ) (stands : StandsAt (kind4 head charges) s p) where
  abbrev fields4 : Fields
  fields4 = kind4 head charges

  abbrev behind : List ℕ
  behind = charge_bytes charges [] ++ stands.rest

  -- what is read at a place of the record is read from its fields
  laid :
      (w q : ℕ)
      → get_le w s (p + q)
      ≡ get_le w
      (bytes_of 2 (charges_long (length charges))
      ++ (bytes_of 2 charges_kind
      ++ (bytes_of 4 head.opening.0 ++ (bytes_of 1 head.area ++ (bytes_of 2 head.km.0 ++ (bytes_of 2 head.minutes.0 ++ behind)))))) q
  laid w q = sym (get_drop w p s q) ∙ ap (λ (b : List ℕ). get_le w b q) (stands.is ∙ laid4 head charges stands.rest)

  long4 : long_in s p ≡ charges_long (length charges)
  long4 =
      ap (get_le 2 s) (sym (add-zero p)) ∙ laid 2 0 ∙ get_first 2 (charges_long (length charges)) _ (omega (arith, stands.complete.1))

  kind_4 : kind_in s p ≡ charges_kind
  kind_4 = laid 2 2 ∙ get_next 2 2 _ _ 0 ∙ get_first 2 charges_kind _ (omega arith)

  head_4 : head_at s p ≡ head
  head_4 =
      let ok = stands.range.head in
      rw (
        laid 4 4 ∙ get_next 4 2 _ _ 2 ∙ get_next 4 2 _ _ 0 ∙ get_first 4 head.opening.0 _ (omega (arith, ok.opening)),
        laid 1 8 ∙ get_next 1 2 _ _ 6 ∙ get_next 1 2 _ _ 4 ∙ get_next 1 4 _ _ 0 ∙ get_first 1 head.area _ (omega (arith, ok.area)),
        laid 2 9
            ∙ get_next 2 2 _ _ 7
            ∙ get_next 2 2 _ _ 5
            ∙ get_next 2 4 _ _ 1
            ∙ get_next 2 1 _ _ 0
            ∙ get_first 2 head.km.0 _ (omega (arith, ok.km)),
        laid 2 11
            ∙ get_next 2 2 _ _ 9
            ∙ get_next 2 2 _ _ 7
            ∙ get_next 2 4 _ _ 3
            ∙ get_next 2 1 _ _ 2
            ∙ get_next 2 2 _ _ 0
            ∙ get_first 2 head.minutes.0 _ (omega (arith, ok.minutes)),
      )

  charge_4 : (i : ℕ) → i < length charges → kind4_charge s p i ≡ get_or charges i 0
  unfolding written
  charge_4 i h =
      let front = charges_head (charges_long (length charges)) head.opening.0 head.area head.km.0 head.minutes.0 in
      let at : p + 13 + 4 * i ≡ p + (13 + (4 * i + 6 * min i (length {A = Cut} []))) = omega arith in
      let small = (stands.range.amounts i h).price in
      ap (get_le 4 s) at
      ∙ sym (get_drop 4 p s _)
      ∙ ap (λ (b : List ℕ). get_le 4 b (13 + (4 * i + 6 * min i (length {A = Cut} []))))
      (stands.is ∙ append_assoc front (charge_bytes charges []) stands.rest)
      ∙ get_behind 4 13 front behind _ (front_size head (charges_long (length charges)))
      ∙ charge_among charges [] stands.rest i h (omega (arith, small))

  read4 : read_at s p ≡ told fields4 (length (written fields4))
  read4 =
      let n = length charges in
      let size = length4 head charges in
      let inside : length (written fields4) + length stands.rest ≡ length s - p =
      sym (length-append (written fields4) stands.rest) ∙ ap length (sym stands.is) ∙ length-drop p s
      in
      let long = long4 in
      let few = stands.complete in
      let framed : WholeAt s p charges_kind (long_in s p - 2) =
      record { kind_is = sym kind_4; length_is = omega arith; fits = omega (arith, few.0); short = omega (arith, few.1) }
      in
      let whole-size : 4 + (long_in s p - 2) ≡ length (written fields4) = omega arith in
      told_way s p charges_kind (long_in s p - 2) (Unsaid n) fields4 framed (kind4_is s p kind_4 ∙ kind4_so (long_in s p) n few.0 few.1 long)
      (same4 s p head charges head_4 (listed_back charges 0 (kind4_charge s p) charge_4)) stands.range
      ∙ ap (told fields4) whole-size

-- ---- Both kinds.

-- A record of fields in range, wherever it stands, is read back with exactly these fields, and with its own bytes.
pub read_standing : (fields : Fields) (s : List ℕ) (p : ℕ) → StandsAt fields s p → read_at s p ≡ told fields (length (written fields))
read_standing (kind4 head charges) s p stands = read4 head charges s p stands
read_standing (kind6 head party charges cuts) s p stands = read6 head party charges cuts s p stands

-- So reading what was written gives back every field, behind any bytes and before any others.
pub read_written :
    (fields : Fields) → Complete fields → InRange fields → (before rest : List ℕ)
    → read_at (before ++ (written fields ++ rest)) (length before) ≡ told fields (length (written fields))
read_written fields complete ok before rest =
    read_standing fields (before ++ (written fields ++ rest)) (length before)
    (record { complete = complete; range = ok; rest = rest; is = drop_at before (written fields ++ rest) (length before) refl })

-- ---- Accepted records.

laid6 :
    (head : Head) (party : Party) (charges : List ℕ) (cuts : List Cut) (rest : List ℕ)
    → written (kind6 head party charges cuts) ++ rest
    ≡ bytes_of 2 (long_with (persons_of party) party.bicycles)
    ++ (bytes_of 2 charge_kind
    ++ (bytes_of 4 head.opening.0
    ++ (bytes_of 1 head.area
    ++ (bytes_of 2 head.km.0
    ++ (bytes_of 2 head.minutes.0
    ++ (bytes_of 1 party.adults ++ (bytes_of 1 party.children ++ (bytes_of 1 party.bicycles ++ (charge_bytes charges cuts ++ rest)))))))))
unfolding written head_bytes
laid6 head party charges cuts rest = simp append_assoc

-- a record is the writing of the fields that stand there, and so many bytes
pub record Writes (s : List ℕ) (p size : ℕ) (fields : Fields) : Type 0 where
  pub complete : Complete fields
  pub is : drop p s ≡ written fields ++ drop (p + size) s
  pub size_is : size ≡ length (written fields)

module _ (s : List ℕ) (p : ℕ) (bytes : Bytes s) where
  -- from its size and bytes
  writes : (size : ℕ) (fields : Fields) → p + size ≤ length s → Complete fields → drop p s ≡ written fields ++ drop (p + size) s → Writes s p size fields
  writes size fields inside complete is =
      let all : length s - p ≡ length (written fields) + length (drop (p + size) s) =
      sym (length-drop p s) ∙ ap length is ∙ length-append (written fields) (drop (p + size) s)
      in
      record { complete = complete; is = is; size_is = omega (arith, length-drop (p + size) s) }

  writes4 : (n : ℕ) → p + size_in s p ≤ length s → FitSays s p (Fits (Unsaid n)) → Writes s p (size_in s p) (fields_for s p (Unsaid n))
  unfolding fields_for listed
  writes4 n inside says =
      let f : ℕ → ℕ = kind4_charge s p in
      let head = head_at s p in
      let size = length_listed n f in
      let next = p + size_in s p in
      let long : long_in s p ≡ charges_long (length (listed n f)) = says.1.1.1 ∙ ap charges_long (sym size) in
      let last : next ≡ p + 13 + 4 * n + 6 * 0 = omega (arith, says.1.1.1) in
      let at : (i : ℕ) → p + 13 + 4 * i + 6 * min i 0 ≡ p + 13 + 4 * i = λ i. omega arith in
      let apart : drop p s ≡ written (kind4 head (listed n f)) ++ drop next s =
      peeled s bytes 2 p (p + 2) _ long refl (omega arith)
      ∙ ap (bytes_of 2 (charges_long (length (listed n f))) ++◌)
      (peeled s bytes 2 (p + 2) (p + 4) charges_kind says.0 (omega arith) (omega arith)
      ∙ ap (bytes_of 2 charges_kind ++◌)
      (peeled s bytes 4 (p + 4) (p + 8) _ refl (omega arith) (omega arith)
      ∙ ap (bytes_of 4 head.opening.0 ++◌)
      (peeled s bytes 1 (p + 8) (p + 9) _ refl (omega arith) (omega arith)
      ∙ ap (bytes_of 1 head.area ++◌)
      (peeled s bytes 2 (p + 9) (p + 11) _ refl (omega arith) (omega arith)
      ∙ ap (bytes_of 2 head.km.0 ++◌)
      (peeled s bytes 2 (p + 11) (p + 13) _ refl (omega arith) (omega arith)
      ∙ ap (bytes_of 2 head.minutes.0 ++◌)
      (charges_peeled s bytes n 0 (p + 13) next f (λ (i : ℕ). uncut) (omega arith) (λ i. ap (get_le 4 s) (at i)) (λ i h. absurd (not-suc-le-zero h)) last
      inside))))))
      ∙ sym (laid4 head (listed n f) (drop next s))
      in
      writes (size_in s p) (kind4 head (listed n f)) inside (omega (arith, size, says.1.0), omega (arith, size, says.1.1.0)) apart

  writes6 :
      p + size_in s p ≤ length s → long_in s p ≡ long_with (persons_of (party_at s p)) (party_at s p).bicycles → kind_in s p ≡ charge_kind
      → Writes s p (size_in s p) (fields_for s p (Of (party_at s p)))
  unfolding fields_for
  writes6 inside long kind =
      let party = party_at s p in
      let head = head_at s p in
      let n = count_of party in
      let m = persons_of party in
      let f : ℕ → ℕ = λ (i : ℕ). get_le 4 s (charge_place p m i) in
      let g : ℕ → Cut = cut_at s p in
      let next = p + size_in s p in
      let last : next ≡ p + 16 + 4 * n + 6 * m = omega arith in
      let cut : (i : ℕ) → i < m → CutReads s (p + 16 + 10 * i + 4) (g i) =
      λ i h. record { reduction = refl; area = refl; class = refl }
      in
      let apart : drop p s ≡ written (kind6 head party (listed n f) (listed m g)) ++ drop next s =
      peeled s bytes 2 p (p + 2) _ long refl (omega arith)
      ∙ ap (bytes_of 2 (long_with m party.bicycles) ++◌)
      (peeled s bytes 2 (p + 2) (p + 4) charge_kind kind (omega arith) (omega arith)
      ∙ ap (bytes_of 2 charge_kind ++◌)
      (peeled s bytes 4 (p + 4) (p + 8) _ refl (omega arith) (omega arith)
      ∙ ap (bytes_of 4 head.opening.0 ++◌)
      (peeled s bytes 1 (p + 8) (p + 9) _ refl (omega arith) (omega arith)
      ∙ ap (bytes_of 1 head.area ++◌)
      (peeled s bytes 2 (p + 9) (p + 11) _ refl (omega arith) (omega arith)
      ∙ ap (bytes_of 2 head.km.0 ++◌)
      (peeled s bytes 2 (p + 11) (p + 13) _ refl (omega arith) (omega arith)
      ∙ ap (bytes_of 2 head.minutes.0 ++◌)
      (peeled s bytes 1 (p + 13) (p + 14) _ refl (omega arith) (omega arith)
      ∙ ap (bytes_of 1 party.adults ++◌)
      (peeled s bytes 1 (p + 14) (p + 15) _ refl (omega arith) (omega arith)
      ∙ ap (bytes_of 1 party.children ++◌)
      (peeled s bytes 1 (p + 15) (p + 16) _ refl (omega arith) (omega arith)
      ∙ ap (bytes_of 1 party.bicycles ++◌)
      (charges_peeled s bytes n m (p + 16) next f g (omega arith) (λ i. refl) cut last inside)))))))))
      ∙ sym (laid6 head party (listed n f) (listed m g) (drop next s))
      in
      writes (size_in s p) (kind6 head party (listed n f) (listed m g)) inside (length_listed n f, length_listed m g) apart

  fitted_writes : (whose : Whose) → FittedAt s p whose → Writes s p (size_in s p) (fields_for s p whose)
  fitted_writes whose fitted = go whose (subst (FitSays s p) fitted.fits (fit_says s p))
    where
      inside : p + size_in s p ≤ length s
      inside = let frame = unbroken s p fitted.whole in omega (arith, frame)

      go : (w : Whose) → FitSays s p (Fits w) → Writes s p (size_in s p) (fields_for s p w)
      go (Unsaid n) says = writes4 n inside says
      go (Of party) says =
          let own = says.1.0 in
          subst (λ (q : Party). Writes s p (size_in s p) (fields_for s p (Of q))) (sym own) (writes6 inside (rw own at says.1.1) says.0)

  -- Each accepted record is the writing of the fields that are told, which are in range; its bytes are as many as are told, and those behind
  -- it are left alone.
  pub accepted_written : (fields : Fields) (size : ℕ) → read_at s p ≡ told fields size → Writes s p size fields × InRange fields
  accepted_written fields size e = go (read_at s p) (view s p) e
    where
      go : (r : Reading) → View s p r → r ≡ told fields size → Writes s p size fields × InRange fields
      go (refused n) v e' = absurd (let z : ◌≡◌ {A = ℕ} 0 1 = cc in omega arith)
      go (told f n) (right_view whose fitted right) e' =
          let same : fields_for s p whose ≡ fields = cc in
          let same_size : size_in s p ≡ size = cc in (
            subst (Writes s p size) same (subst (λ (m : ℕ). Writes s p m (fields_for s p whose)) same_size (fitted_writes whose fitted)),
            subst InRange same (range_told (fields_for s p whose) right),
          )

  -- A record is accepted exactly where one of fields in range stands, and these are told.
  pub accepted_exactly :
      (fields : Fields) (size : ℕ) → read_at s p ≡ told fields size ↔ (StandsAt fields s p × (size ≡ length (written fields)))
  accepted_exactly fields size = (
    λ e.
        let (out, ok) = accepted_written fields size e in
        (record { complete = out.complete; range = ok; rest = drop (p + size) s; is = out.is }, out.size_is),
    λ w. read_standing fields s p w.0 ∙ ap (told fields) (sym w.1),
  )

-- ---- Refusals.

module _ (s : List ℕ) (p : ℕ) where
  unfit_other : OtherRecord s p (kind_in s p) → whose_at s p ≡ Unfit
  unfit_other other = go (whose_at s p) (fit_says s p)
    where
      not4 : (n : ℕ) → FitSays s p (Fits (Unsaid n)) → OtherRecord s p (kind_in s p) → ⊥
      not4 n says (other_kind other4 other6) = other4 says.0
      not4 n says (no_charges is none) = none n says.1.0 says.1.1.0 says.1.1.1
      not4 n says (no_party is none) = omega (arith, says.0, is)

      not6 : (party : Party) → FitSays s p (Fits (Of party)) → OtherRecord s p (kind_in s p) → ⊥
      not6 party says (other_kind other4 other6) = other6 says.0
      not6 party says (no_charges is none) = omega (arith, says.0, is)
      not6 party says (no_party is none) = none (rw says.1.0 at says.1.1)

      go : (f : Fit) → FitSays s p f → f ≡ Unfit
      go Unfit says = refl
      go (Fits (Unsaid n)) says = absurd (not4 n says other)
      go (Fits (Of party)) says = absurd (not6 party says other)

  framed : broken s p ≡ false → frame_at s p ≡ Whole (kind_in s p) (long_in s p - 2)
  framed = unbroken_given s p

  -- Each of 14 to 16 is given exactly under its own condition: 15 only where 14 is not, and 16 only where neither is.
  pub read_refused_exactly : (n : ℕ) → read_at s p ≡ refused n ↔ RefusedBy s p n
  unfolding ranged
  read_refused_exactly n = (λ e. there (read_at s p) (view s p) e, back n)
    where
      there : (r : Reading) → View s p r → r ≡ refused n → RefusedBy s p n
      there (told fields size) v e = absurd (let z : ◌≡◌ {A = ℕ} 0 1 = cc in omega arith)
      there (refused m) v e = let same : m ≡ n = cc in subst (RefusedBy s p) same (by m v)
        where
          by : (m : ℕ) → View s p (refused m) → RefusedBy s p m
          by m (broken_view is) = broken-frame (broken_back s p is)
          by m (unfit_view whole unfit) = other-record _ _ (framed whole) (subst (FitSays s p) unfit (fit_says s p))
          by m (wrong_view whose fitted wrong) =
              out-of-range _ _ (framed fitted.whole) whose fitted.fits (λ ok. false≢true (sym wrong ∙ range_tests (fields_for s p whose) ok))

      back : (m : ℕ) → RefusedBy s p m → read_at s p ≡ refused m
      back m (broken-frame is) = broken_way s p (broken_is s p is)
      back m (other-record kind body is other) =
          unfit_way s p (whole_unbroken s p kind body is)
          (unfit_other (subst (OtherRecord s p) (whole s p kind body is).kind_is other))
      back m (out-of-range kind body is whose fits wrong) =
          fit_way s p (whole_unbroken s p kind body is) whose fits ∙ go (in_range (fields_for s p whose)) refl
        where
          go : (t : Bool) → in_range (fields_for s p whose) ≡ t → ranged (fields_for s p whose) (size_in s p) ≡ refused 16
          go true e = absurd (wrong (range_told (fields_for s p whose) e))
          go false e = rw e

-- ---- One answer.

-- Two answers that the reader's contract allows for the same bytes and place are equal.
pub read_alike : (s : List ℕ) (p : ℕ) {r r' : Read} → r ≡ read_as (read_at s p) → r' ≡ read_as (read_at s p) → r ≡ r'
read_alike s p is is' = is ∙ sym is'

-- And so are two answers of reading into a slice, and the bytes that they leave in it.
pub fillings_alike :
    {filling : Filling} {before after after' : List ℕ} {r r' : Filled} → FilledIn filling before after r → FilledIn filling before after' r'
    → (r ≡ r') × (after ≡ after')
fillings_alike one other = (one.answer ∙ sym other.answer, one.fields_are ∙ sym other.fields_are)
