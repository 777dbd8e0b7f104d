-- The first 15,549 bytes of a tariff decide what reading it comes to: 32 areas, 31 of kind 8, with a factor record each, 1,000 stops, and the
-- frame of one record too many.
-- Assumes nothing.
use Rattle.std.proofs.Common.{◌≡◌, ℕ, zero, suc, ◌+◌, ◌*◌, ◌<◌, ◌≤◌, List, length, take, sym, refl, ap, ◌∙◌, arith, length-take-le, take_all, le-ltb}
use native.Mathlib.Decide.{dec_lt}
use lib.Count.{ones}
use Rattle.wire.specs.Frame.{longest_record, frame_at}
use Rattle.wire.specs.declared.Frame.{Frame}
use Rattle.wire.specs.declared.Frame.TheVariants.{Whole, Broken}
use Rattle.wire.proofs.Number.{get_take}
use Rattle.wire.proofs.Frames.{frame_take}
use Rattle.layout.specs.declared.Counts.{Counts}
use Rattle.layout.specs.declared.fields.AreaFields.{AreaFields}
use Rattle.layout.specs.declared.Reading.{Reading}
use Rattle.layout.specs.Layout.{
  area_size,
  long_more,
  factor_size,
  stop_size,
  most_areas,
  deciding_bytes,
  kind_at,
  area_place,
  long_bits,
  factor_place,
  stop_place,
  areas_before,
  factors_before,
  stops_before,
}
use Rattle.layout.specs.Fields.{area_fields, long_fields, factor_fields, stop_fields}
use Rattle.layout.specs.Rules.{place_right, level_of, flat_of, kind_of, factors_due}
use Rattle.layout.specs.Scan.{area_entry, factor_entry, stop_entry, entry_at, read_tariff, FaultlessUntil}
use Rattle.layout.proofs.Entries.{
  KindCase,
  of_area,
  of_factor,
  of_stop,
  of_none,
  kind_case,
  broken-frame,
  area_frame,
  factor_frame,
  stop_frame,
  other_frame,
  end_entry,
}
use Rattle.layout.proofs.Places.{place_is, long_few}
use Rattle.layout.proofs.Wide.{wide_same}
use Rattle.layout.proofs.FaultlessUntil.{Ends, fault, finish, ends, at_fault, few_factors, few_stops, early}

-- ---- What stands at a place is decided by the longest record's bytes from there on, and by the areas before it.

module _ (n : ℕ) (b : List ℕ) (there : n ≤ length b) where
  pub first_length : length (take n b) ≡ n
  first_length = length-take-le n b there

  pub first_area : (at : ℕ) → at + area_size ≤ n → area_fields (take n b) at ≡ area_fields b at
  unfolding area_fields
  first_area at fits =
      rw (
        get_take 1 n b (at + 4) (omega arith),
        get_take 1 n b (at + 5) (omega arith),
        get_take 2 n b (at + 6) (omega arith),
        get_take 2 n b (at + 8) (omega arith),
        get_take 2 n b (at + 10) (omega arith),
        get_take 1 n b (at + 12) (omega arith),
        get_take 1 n b (at + 13) (omega arith),
        get_take 1 n b (at + 14) (omega arith),
        get_take 2 n b (at + 15) (omega arith),
        get_take 2 n b (at + 17) (omega arith),
        get_take 2 n b (at + 19) (omega arith),
        get_take 2 n b (at + 21) (omega arith),
        get_take 2 n b (at + 23) (omega arith),
        get_take 2 n b (at + 25) (omega arith),
        get_take 2 n b (at + 27) (omega arith),
      )

  pub first_long : (at : ℕ) → at + (area_size + long_more) ≤ n → long_fields (take n b) at ≡ long_fields b at
  unfolding long_fields
  first_long at fits =
      rw (
        get_take 2 n b (at + 29) (omega arith),
        get_take 2 n b (at + 31) (omega arith),
        get_take 2 n b (at + 33) (omega arith),
        get_take 2 n b (at + 35) (omega arith),
        get_take 2 n b (at + 37) (omega arith),
        get_take 2 n b (at + 39) (omega arith),
        get_take 1 n b (at + 41) (omega arith),
      )

  pub first_factor : (at : ℕ) → at + factor_size ≤ n → factor_fields (take n b) at ≡ factor_fields b at
  unfolding factor_fields
  first_factor at fits = rw (get_take 1 n b (at + 4) (omega arith), get_take 1 n b (at + 5) (omega arith))

  pub first_stop : (at : ℕ) → at + stop_size ≤ n → stop_fields (take n b) at ≡ stop_fields b at
  unfolding stop_fields
  first_stop at fits =
      rw (
        get_take 1 n b (at + 4) (omega arith),
        get_take 4 n b (at + 5) (omega arith),
        get_take 4 n b (at + 9) (omega arith),
      )

  -- areas that stand there stand at the same places, with the same fields and kinds
  module _ (areas : ℕ) (stand : (i : ℕ) → i < areas → area_place b i + area_size ≤ n) where
    pub first_kind : (i : ℕ) → i < areas → kind_at (take n b) (area_place b i) ≡ kind_at b (area_place b i)
    first_kind i few = get_take 2 n b (area_place b i + 2) (omega (arith, stand i few))

    pub first_places : (i : ℕ) → i ≤ areas → area_place (take n b) i ≡ area_place b i
    unfolding area_place
    first_places zero few = refl
    first_places (suc i) few = rw (first_places i (omega arith), first_kind i few)

    pub first_longs : (i : ℕ) → i ≤ areas → long_bits (take n b) i ≡ long_bits b i
    unfolding long_bits
    first_longs zero few = refl
    first_longs (suc i) few = rw (first_longs i (omega arith), first_places i (omega arith), first_kind i few)

    first_fields : (i : ℕ) → i < areas → area_fields (take n b) (area_place (take n b) i) ≡ area_fields b (area_place b i)
    first_fields i few =
        rw (first_places i (omega arith)) (first_area (area_place b i) (stand i few))

    -- the parent is looked at only where it is an earlier area
    pub first-place :
        (so_far : Counts) (kind : ℕ) (f : AreaFields) → so_far.areas ≤ areas → place_right (take n b) so_far kind f ≡ place_right b so_far kind f
    unfolding place_right
    first-place so_far kind f few =
        elim (dec_lt f.parent so_far.areas) [
          | yes earlier ↦
              let there : f.parent < areas = omega arith in
              let parent = first_fields f.parent there in
              let level : level_of (take n b) f.parent ≡ level_of b f.parent = ap (λ (g : AreaFields). g.level) parent in
              let flat : flat_of (take n b) f.parent ≡ flat_of b f.parent = ap (λ (g : AreaFields). g.bicycle_flat) parent in
              let kinds : kind_of (take n b) f.parent ≡ kind_of b f.parent =
              rw (first_places f.parent (omega arith)) (first_kind f.parent there)
              in
              rw (level, flat, kinds)
          | no later ↦ rw (le-ltb f.parent so_far.areas (omega arith))
        ]

    pub first_due : (so_far : Counts) → so_far.areas ≤ areas → factors_due (take n b) so_far ≡ factors_due b so_far
    first_due so_far few =
        wide_same (level_of (take n b)) (level_of b) so_far.areas
        (λ i h. ap (λ (g : AreaFields). g.level) (first_fields i (omega arith)))

  -- all areas that there may be
  wide_stand : (area_size + long_more) * most_areas ≤ n → (i : ℕ) → i < most_areas → area_place b i + area_size ≤ n
  wide_stand wide i few = omega (arith, place_is b i, long_few b i)

  module _ (at : ℕ) (so_far : Counts) (fits : at + longest_record ≤ n) (few : so_far.areas ≤ most_areas) (wide : (area_size + long_more) * most_areas ≤ n) where
    first_area_entry : (kind body : ℕ) → area_entry (take n b) at so_far kind body ≡ area_entry b at so_far kind body
    unfolding area_entry
    first_area_entry kind body =
        rw (first_area at (omega arith), first_long at (omega arith), first-place most_areas (wide_stand wide) so_far kind (area_fields b at) few)

    first_factor_entry : (body : ℕ) → factor_entry (take n b) at so_far body ≡ factor_entry b at so_far body
    unfolding factor_entry
    first_factor_entry body = rw (first_factor at (omega arith), first_due most_areas (wide_stand wide) so_far few)

    first_stop_entry : (body : ℕ) → stop_entry (take n b) at so_far body ≡ stop_entry b at so_far body
    unfolding stop_entry
    first_stop_entry body = rw (first_stop at (omega arith), first_due most_areas (wide_stand wide) so_far few)

    first_entry : entry_at (take n b) at so_far ≡ entry_at b at so_far
    first_entry = go (frame_at b at) refl
      where
        go : (f : Frame) → frame_at b at ≡ f → entry_at (take n b) at so_far ≡ entry_at b at so_far
        go Broken e =
            broken-frame (take n b) at so_far (omega (arith, first_length)) (frame_take n b at there fits ∙ e)
            ∙ sym (broken-frame b at so_far (omega arith) e)
        go (Whole kind body) e = by_kind (kind_case kind)
          where
            by_kind : KindCase kind → entry_at (take n b) at so_far ≡ entry_at b at so_far
            by_kind (of_area is) =
                area_frame (take n b) at so_far kind body is (frame_take n b at there fits ∙ e) ∙ first_area_entry kind body
                ∙ sym (area_frame b at so_far kind body is e)
            by_kind (of_factor is) =
                let e' : frame_at b at ≡ Whole 5 body = cc in
                factor_frame (take n b) at so_far body (frame_take n b at there fits ∙ e') ∙ first_factor_entry body
                ∙ sym (factor_frame b at so_far body e')
            by_kind (of_stop is) =
                let e' : frame_at b at ≡ Whole 2 body = cc in
                stop_frame (take n b) at so_far body (frame_take n b at there fits ∙ e') ∙ first_stop_entry body
                ∙ sym (stop_frame b at so_far body e')
            by_kind (of_none no_kind not_five not-two) =
                other_frame (take n b) at so_far kind body (frame_take n b at there fits ∙ e) no_kind not_five not-two
                ∙ sym (other_frame b at so_far kind body e no_kind not_five not-two)

-- ---- The places that faultless records reach lie early enough.

module _ (n : ℕ) (b : List ℕ) (there : n ≤ length b) (wide : deciding_bytes ≤ n) (at : ℕ) (so_far : Counts) (p : FaultlessUntil b at so_far) where
  first_passed : FaultlessUntil (take n b) at so_far
  first_passed =
      let few = p.reached.few in
      let few-of = few_stops b at so_far p in
      let few-between = few_factors b at so_far p in
      let few-longs : ones so_far.longs ≤ so_far.areas = omega (arith, ap ones p.reached.longs, long_few b so_far.areas) in
      record {
        reached =
            record {
              place = p.reached.place;
              inside = omega (arith, first_length n b there, early b at so_far p);
              few = few;
              longs = p.reached.longs ∙ sym (first_longs n b there most_areas (wide_stand n b there (omega arith)) so_far.areas few);
            };
        area = λ i h.
            rw (
              first_places n b there most_areas (wide_stand n b there (omega arith)) i (omega arith),
              first_longs n b there most_areas (wide_stand n b there (omega arith)) i (omega arith),
              first_kind n b there most_areas (wide_stand n b there (omega arith)) i (omega arith),
            )
            (first_entry n b there (area_place b i) (areas_before b i) (omega (arith, place_is b i, long_few b i)) (omega arith) (omega arith)
            ∙ p.area i h);
        factor = λ k h. first_entry n b there (factor_place so_far k) (factors_before so_far k) (omega arith) few (omega arith) ∙ p.factor k h;
        stop = λ j h. first_entry n b there (stop_place so_far j) (stops_before so_far j) (omega arith) few (omega arith) ∙ p.stop j h;
      }

-- So many bytes decide, and any more.
pub enough_bytes_decide : (n : ℕ) (b : List ℕ) → deciding_bytes ≤ n → read_tariff b ≡ read_tariff (take n b)
enough_bytes_decide n b wide =
    elim (dec_lt n (length b)) [
      | yes longer ↦ decided (omega arith) (ends b)
      | no all ↦ rw (take_all n b (omega arith))
    ]
  where
    decided : n ≤ length b → {reading : Reading} → Ends b reading → reading ≡ read_tariff (take n b)
    decided there (fault {number} {at} so_far first) =
        let p = first.passed in
        sym
        (at_fault (take n b) number at so_far
        (record {
          passed = first_passed n b there wide at so_far p;
          faulty =
              first_entry n b there at so_far (omega (arith, early b at so_far p)) p.reached.few (omega arith)
              ∙ first.faulty;
        }))
    decided there (finish {counts} at p is) =
        let over = end_entry b at counts is in
        absurd (omega (arith, early b at counts p))

pub first_bytes_decide : (b : List ℕ) → read_tariff b ≡ read_tariff (take deciding_bytes b)
first_bytes_decide b = enough_bytes_decide deciding_bytes b (omega arith)
