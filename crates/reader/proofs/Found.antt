-- Every field is found in the bytes that reading leaves: each stands behind those before it, and its width holds it, since it is in range.
-- Assumes nothing.
use Prim.Native.Nat.{ℕ, zero, suc, ◌+◌, ◌*◌, ◌≤◌, ◌<◌}
use native.Mathlib.Decide.{dec_lt}
use native.Mathlib.Omega.{arith}
use mathlib.Core.Path.{◌≡◌, refl, sym, ap, subst, ◌∙◌}
use mathlib.Core.Bool.{Bool, true, false, cond}
use mathlib.Core.List.{List, ◌++◌, append_assoc}
use lib.Dec.{ltb}
use Rattle.wire.specs.Number.{get_le, bytes_of}
use Rattle.statement.specs.Record.{most_charges, cut_bytes, person_bytes}
use Rattle.statement.proofs.Records.{get_behind, get_first, get_next}
use Rattle.reader.specs.declared.Whose.{Whose}
use Rattle.reader.specs.declared.Whose.TheVariants.{Unsaid, Of}
use Rattle.reader.specs.Fields.{Fields, head_in, whose_in, charges_of, amount_of}
use Rattle.reader.specs.Ranges.{WhoseInRange, InRange}
use Rattle.reader.specs.Reading.{head_at, fields_for, Reading, refused, told, read_at}
use Rattle.reader.specs.Filling.{kind_of, party_of, whose_bytes, ride_bytes, amount_bytes, field_bytes, field_size, unfilled, filled, filling_from, filling_of, AmountFound, FieldsFound}
use Rattle.reader.proofs.Places.{fields_whose}
use Rattle.reader.proofs.Ranges.{range_told}
use Rattle.reader.proofs.Accepted.{View, right_view, view, AcceptedAt, accepted_few}
use Rattle.reader.proofs.Filled.{length_amounts}
use Rattle.reader.proofs.ReadBack.{cut_fits}

-- ---- The charges.

-- charge i's bytes stand behind those of the i charges before it
amount_laid :
    (fields : Fields) (n i : ℕ) (rest : List ℕ) → i < n
    → (behind : List ℕ)
    × ((w p : ℕ)
    → get_le w (amount_bytes fields n ++ rest) (10 * i + p) ≡ get_le w (person_bytes (amount_of fields i).charge.0 (amount_of fields i).cut ++ behind) p)
unfolding amount_bytes
amount_laid fields zero i rest there = absurd (omega arith)
amount_laid fields (suc n) i rest there =
    let last = person_bytes (amount_of fields n).charge.0 (amount_of fields n).cut in
    let apart = append_assoc (amount_bytes fields n) last rest in
    elim (dec_lt i n) [
      | yes before ↦
          let (behind, is) = amount_laid fields n i (last ++ rest) before in
          (behind, λ w p. ap (λ (b : List ℕ). get_le w b (10 * i + p)) apart ∙ is w p)
      | no past ↦
          let same : i ≡ n = omega arith in (
            rest,
            λ w p.
                rw same
                (ap (λ (b : List ℕ). get_le w b (10 * n + p)) apart
                ∙ get_behind w (10 * n) (amount_bytes fields n) (last ++ rest) p (length_amounts fields n)),
          )
    ]

-- ---- All of the fields.

module _ (fields : Fields) (few : charges_of (whose_in fields) ≤ most_charges) (ok : InRange fields) (rest : List ℕ) where
  abbrev whose : Whose
  whose = whose_in fields

  abbrev bytes : List ℕ
  bytes = field_bytes fields ++ rest

  abbrev charges : List ℕ
  charges = amount_bytes fields (charges_of whose) ++ rest

  -- one behind the other
  laid :
      bytes
      ≡ bytes_of 1 (kind_of whose)
      ++ (bytes_of 1 (charges_of whose)
      ++ (bytes_of 1 (party_of whose).adults
      ++ (bytes_of 1 (party_of whose).children
      ++ (bytes_of 1 (party_of whose).bicycles
      ++ (bytes_of 1 (head_in fields).area
      ++ (bytes_of 2 (head_in fields).km.0 ++ (bytes_of 2 (head_in fields).minutes.0 ++ (bytes_of 4 (head_in fields).opening.0 ++ charges))))))))
  unfolding field_bytes whose_bytes ride_bytes
  laid = simp append_assoc

  charges_at : (w p : ℕ) → get_le w bytes (14 + p) ≡ get_le w charges p
  unfolding field_bytes whose_bytes ride_bytes bytes_of
  charges_at w p =
      let party = whose_bytes whose in
      let ride = ride_bytes (head_in fields) in
      let all = amount_bytes fields (charges_of whose) in
      let apart : bytes ≡ (party ++ ride) ++ charges =
      append_assoc party (ride ++ all) rest ∙ ap (party ++◌) (append_assoc ride all rest) ∙ sym (append_assoc party ride charges)
      in
      ap (λ (b : List ℕ). get_le w b (14 + p)) apart ∙ get_behind w 14 (party ++ ride) charges p refl

  amount_found : (i : ℕ) → i < charges_of whose → AmountFound (amount_of fields i) bytes (14 + 10 * i)
  unfolding person_bytes cut_bytes
  amount_found i there =
      let amount = amount_of fields i in
      let range = ok.amounts i there in
      let fits = cut_fits amount.cut range.cut (omega (arith, range.price)) in
      let (behind, is) = amount_laid fields (charges_of whose) i rest there in
      let parts : person_bytes amount.charge.0 amount.cut ++ behind
      ≡ bytes_of 4 amount.charge.0
      ++ (bytes_of 4 amount.cut.reduction.0 ++ (bytes_of 1 amount.cut.area ++ (bytes_of 1 amount.cut.class ++ behind))) =
      simp append_assoc
      in
      let read : (w p q : ℕ) → q ≡ 14 + (10 * i + p)
      → get_le w bytes q
      ≡ get_le w (bytes_of 4 amount.charge.0
      ++ (bytes_of 4 amount.cut.reduction.0 ++ (bytes_of 1 amount.cut.area ++ (bytes_of 1 amount.cut.class ++ behind)))) p =
      λ w p q at. ap (get_le w bytes) at ∙ charges_at w (10 * i + p) ∙ is w p ∙ ap (λ (b : List ℕ). get_le w b p) parts
      in
      record {
        charge = read 4 0 _ (omega arith) ∙ get_first 4 _ _ (omega (arith, range.price));
        reduction = read 4 4 _ (omega arith) ∙ get_next 4 4 _ _ 0 ∙ get_first 4 _ _ fits.reduction;
        cap-area = read 1 8 _ (omega arith) ∙ get_next 1 4 _ _ 4 ∙ get_next 1 4 _ _ 0 ∙ get_first 1 _ _ fits.area;
        cap-class = read 1 9 _ (omega arith) ∙ get_next 1 4 _ _ 5 ∙ get_next 1 4 _ _ 1 ∙ get_next 1 1 _ _ 0 ∙ get_first 1 _ _ fits.class;
      }

  -- kind and party are small
  kind_small : (w : Whose) → kind_of w < 256
  kind_small (Unsaid n) = omega arith
  kind_small (Of party) = omega arith

  party_small : (w : Whose) → WhoseInRange w → ((party_of w).adults < 256) × (((party_of w).children < 256) × ((party_of w).bicycles < 256))
  party_small (Unsaid n) range = (omega arith, (omega arith, omega arith))
  party_small (Of party) range = (omega (arith, range.0), (omega (arith, range.1.0), omega (arith, range.1.1)))

  -- Fields in range are found, each at its place, whatever stands behind them.
  pub fields_found : FieldsFound fields bytes
  fields_found =
      let head = ok.head in
      let party = party_small whose ok.whose in
      let read : (w q : ℕ) → get_le w bytes q ≡ _ = λ w q. ap (λ (b : List ℕ). get_le w b q) laid in
      record {
        kind = read 1 0 ∙ get_first 1 _ _ (kind_small whose);
        charges = read 1 1 ∙ get_next 1 1 _ _ 0 ∙ get_first 1 _ _ (omega (arith, few));
        adults = read 1 2 ∙ get_next 1 1 _ _ 1 ∙ get_next 1 1 _ _ 0 ∙ get_first 1 _ _ party.0;
        children = read 1 3 ∙ get_next 1 1 _ _ 2 ∙ get_next 1 1 _ _ 1 ∙ get_next 1 1 _ _ 0 ∙ get_first 1 _ _ party.1.0;
        bicycles =
            read 1 4 ∙ get_next 1 1 _ _ 3 ∙ get_next 1 1 _ _ 2 ∙ get_next 1 1 _ _ 1 ∙ get_next 1 1 _ _ 0 ∙ get_first 1 _ _ party.1.1;
        area =
            read 1 5 ∙ get_next 1 1 _ _ 4 ∙ get_next 1 1 _ _ 3 ∙ get_next 1 1 _ _ 2 ∙ get_next 1 1 _ _ 1 ∙ get_next 1 1 _ _ 0
            ∙ get_first 1 _ _ (omega (arith, head.area));
        km =
            read 2 6 ∙ get_next 2 1 _ _ 5 ∙ get_next 2 1 _ _ 4 ∙ get_next 2 1 _ _ 3 ∙ get_next 2 1 _ _ 2 ∙ get_next 2 1 _ _ 1
            ∙ get_next 2 1 _ _ 0 ∙ get_first 2 _ _ (omega (arith, head.km));
        minutes =
            read 2 8 ∙ get_next 2 1 _ _ 7 ∙ get_next 2 1 _ _ 6 ∙ get_next 2 1 _ _ 5 ∙ get_next 2 1 _ _ 4 ∙ get_next 2 1 _ _ 3
            ∙ get_next 2 1 _ _ 2 ∙ get_next 2 2 _ _ 0 ∙ get_first 2 _ _ (omega (arith, head.minutes));
        opening =
            read 4 10 ∙ get_next 4 1 _ _ 9 ∙ get_next 4 1 _ _ 8 ∙ get_next 4 1 _ _ 7 ∙ get_next 4 1 _ _ 6 ∙ get_next 4 1 _ _ 5
            ∙ get_next 4 1 _ _ 4 ∙ get_next 4 2 _ _ 2 ∙ get_next 4 2 _ _ 0 ∙ get_first 4 _ _ (omega (arith, head.opening));
        amounts = amount_found;
      }

-- ---- What filling leaves.

-- The fields of an accepted record are found in the slice, whatever it had.
pub filled_found :
    (s : List ℕ) (p room : ℕ) {fields : Fields} {size : ℕ} → filling_of s p room ≡ filled fields size
    → (rest : List ℕ) → (read_at s p ≡ told fields size) × FieldsFound fields (field_bytes fields ++ rest)
unfolding filling_from
filled_found s p room {fields} {size} e rest = go (read_at s p) (view s p) refl e
  where
    go :
        (r : Reading) → View s p r → read_at s p ≡ r → filling_from r room ≡ filled fields size
        → (read_at s p ≡ told fields size) × FieldsFound fields (field_bytes fields ++ rest)
    go (refused n) v is e' = absurd (let z : ◌≡◌ {A = ℕ} 0 1 = cc in omega arith)
    go (told f n) (right_view whose fitted right) is e' =
        enough (ltb room (field_size (charges_of (whose_in (fields_for s p whose))))) e'
      where
        at : AcceptedAt s p n (head_at s p) whose
        at = record { fitted = fitted; size_is = refl; head_is = refl; right = right; read = is }

        found : FieldsFound (fields_for s p whose) (field_bytes (fields_for s p whose) ++ rest)
        found =
            fields_found (fields_for s p whose) (rw (fields_whose s p whose) (accepted_few at)) (range_told (fields_for s p whose) right) rest

        enough :
            (t : Bool) → cond t (unfilled 12) (filled (fields_for s p whose) n) ≡ filled fields size
            → (read_at s p ≡ told fields size) × FieldsFound fields (field_bytes fields ++ rest)
        enough true e'' = absurd (let z : ◌≡◌ {A = ℕ} 0 1 = cc in omega arith)
        enough false e'' =
            let same : fields_for s p whose ≡ fields = cc in
            let same_size : n ≡ size = cc in
            (is ∙ rw (same, same_size), subst (λ (f : Fields). FieldsFound f (field_bytes f ++ rest)) same found)
