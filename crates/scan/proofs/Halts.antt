-- What stands before a place that faultless records reach is a faultless tariff alone, unless an area or a factor record is still due; so it is
-- told where the reading of a tariff stops.
-- Assumes nothing.
use Rattle.std.proofs.Common.{◌≡◌, ℕ, ◌+◌, ◌<◌, ◌≤◌, Bool, true, false, ◌⊎◌, List, length, take, sym, refl, ap, ◌∙◌, inl, inr, arith}
use lib.Count.{ones}
use Rattle.wire.proofs.Frames.{whole_take}
use Rattle.layout.specs.declared.Counts.{Counts}
use Rattle.layout.specs.declared.Reading.{Reading}
use Rattle.layout.specs.declared.Reading.TheVariants.{Fault, Faultless}
use Rattle.layout.specs.declared.Entry.TheVariants.{Area, Factor, Stop}
use Rattle.layout.specs.Layout.{
  area_size,
  common_kind,
  aachen_kind,
  long_of,
  area_body_of,
  factor_body,
  factor_size,
  stop_body,
  stop_size,
  kind_at,
  area_end,
  area_place,
  factor_place,
  stop_place,
  areas_before,
  factors_before,
  stops_before,
}
use Rattle.layout.specs.Fields.{area_fields, long_fields}
use Rattle.layout.specs.Rules.{area_right, kind_of, factors_due}
use Rattle.layout.specs.Scan.{entry_at, read_tariff, FaultlessUntil, FirstFault}
use Rattle.layout.proofs.Entries.{
  still_due,
  area_frame,
  factor_frame,
  stop_frame,
  area_is_due,
  factor_is_due,
  stop_is_due,
  area-holds,
  factor-holds,
  stop-holds,
  kinds_area,
  AreaEntry,
  area-entry,
  factor-entry,
  stop-entry,
  ended,
  ended_early,
}
use Rattle.layout.proofs.Places.{place_is, place_before, long_is}
use Rattle.layout.proofs.FaultlessUntil.{at_end, at_fault}
use Rattle.scan.specs.declared.Halt.{Halt}
use Rattle.scan.specs.declared.Halt.TheVariants.{End, Behind, Amid}
use Rattle.scan.specs.Halts.{halt_of, halt_with, stopped_at, fault_at}
use Rattle.scan.proofs.Prefix.{
  first_length,
  first_area,
  first_long,
  first_factor,
  first_stop,
  first_kind,
  first_places,
  first_longs,
  first-place,
  first_due,
}

-- ---- A faultless record that ends within the first bytes is faultless in these alone, if the areas before it stand there.

module _
    (n : ℕ) (b : List ℕ) (there : n ≤ length b) (areas : ℕ) (stand : (i : ℕ) → i < areas → area_place b i + area_size ≤ n) (at : ℕ) (so_far : Counts)
    (few : so_far.areas ≤ areas) where
  -- of an area of kind 1 no more is looked at than is there
  right_stays :
      (kind : ℕ) → AreaEntry b at so_far kind → area_end b at ≤ n
      → area_right (take n b) so_far kind (area_fields (take n b) at) (long_fields (take n b) at) ≡ true
  right_stays kind facts fits = by_kind facts.here.kinds
    where
      by_kind : (kind ≡ common_kind) ⊎ (kind ≡ aachen_kind) → area_right (take n b) so_far kind (area_fields (take n b) at) (long_fields (take n b) at) ≡ true
      by_kind (inl is) =
          rw (first_area n b there at (omega arith), first-place n b there areas stand so_far kind (area_fields b at) few, is) (rw is at facts.right)
      by_kind (inr is) =
          let long : long_of (kind_at b at) ≡ 1 = long_is (kind_at b at) (sym facts.kind_is ∙ is) in
          rw (
            first_area n b there at (omega arith),
            first_long n b there at (omega arith),
            first-place n b there areas stand so_far kind (area_fields b at) few,
          )
          facts.right

  area_stays : (kind : ℕ) → entry_at b at so_far ≡ Area kind → area_end b at ≤ n → entry_at (take n b) at so_far ≡ Area kind
  area_stays kind e fits =
      let facts = area-entry b at so_far kind e in
      let ends : at + 4 + area_body_of kind ≤ n = rw facts.kind_is fits in
      area_frame (take n b) at so_far kind (area_body_of kind) (kinds_area kind facts.here.kinds)
      (whole_take n b at kind (area_body_of kind) there ends facts.here.frame)
      ∙ area_is_due (take n b) at so_far (area_body_of kind) kind (area-holds b at so_far kind facts.here) (right_stays kind facts fits)

  module _ (due : factors_due b so_far ≡ factors_due (take n b) so_far) where
    factor_stays : entry_at b at so_far ≡ Factor → at + factor_size ≤ n → entry_at (take n b) at so_far ≡ Factor
    factor_stays e fits =
        let facts = factor-entry b at so_far e in
        factor_frame (take n b) at so_far factor_body (whole_take n b at 5 factor_body there (omega arith) facts.frame)
        ∙ factor_is_due (take n b) at so_far factor_body (factors_due b so_far) due {t = true}
        (factor-holds b at so_far (record { frame = facts.frame; no_stop = facts.no_stop; few = facts.few }))
        (rw (first_factor n b there at fits) facts.right)

    stop_stays : entry_at b at so_far ≡ Stop → at + stop_size ≤ n → entry_at (take n b) at so_far ≡ Stop
    stop_stays e fits =
        let facts = stop-entry b at so_far e in
        stop_frame (take n b) at so_far stop_body (whole_take n b at 2 stop_body there (omega arith) facts.frame)
        ∙ stop_is_due (take n b) at so_far stop_body (factors_due b so_far) due {t = true}
        (stop-holds b at so_far (record { frame = facts.frame; some = facts.some; all = facts.all; few = facts.few }))
        (rw (first_stop n b there at fits) facts.right)

-- ---- So all records before a place are faultless in what stands before it alone.

module _ (b : List ℕ) (at : ℕ) (so_far : Counts) (p : FaultlessUntil b at so_far) where
  areas-end : area_place b so_far.areas ≤ at
  areas-end = omega (arith, p.reached.place, place_is b so_far.areas, ap ones p.reached.longs)

  area_ends : (i : ℕ) → i < so_far.areas → area_end b (area_place b i) ≤ at
  area_ends i h = omega (arith, areas-end, place_before b i so_far.areas h)

  areas_stand : (i : ℕ) → i < so_far.areas → area_place b i + area_size ≤ at
  areas_stand i h = omega (arith, area_ends i h)

  inside : at ≤ length b
  inside = p.reached.inside

  due_before : (counts : Counts) → counts.areas ≤ so_far.areas → factors_due b counts ≡ factors_due (take at b) counts
  due_before counts few = sym (first_due at b inside so_far.areas areas_stand counts few)

  pub passed_before : FaultlessUntil (take at b) at so_far
  passed_before =
      record {
        reached =
            record {
              place = p.reached.place;
              inside = omega (arith, first_length at b inside);
              few = p.reached.few;
              longs = p.reached.longs ∙ sym (first_longs at b inside so_far.areas areas_stand so_far.areas (omega arith));
            };
        area = λ i h.
            rw (
              first_places at b inside so_far.areas areas_stand i (omega arith),
              first_longs at b inside so_far.areas areas_stand i (omega arith),
              first_kind at b inside so_far.areas areas_stand i h,
            )
            (area_stays at b inside so_far.areas areas_stand (area_place b i) (areas_before b i) (omega arith) (kind_of b i) (p.area i h)
            (area_ends i h));
        factor = λ k h.
            factor_stays at b inside so_far.areas areas_stand (factor_place so_far k) (factors_before so_far k) (omega arith)
            (due_before (factors_before so_far k) (omega arith)) (p.factor k h) (omega (arith, p.reached.place));
        stop = λ j h.
            stop_stays at b inside so_far.areas areas_stand (stop_place so_far j) (stops_before so_far j) (omega arith)
            (due_before (stops_before so_far j) (omega arith)) (p.stop j h) (omega (arith, p.reached.place));
      }

  -- Where nothing is due any more, what stands before is faultless alone, with the counts so far; else it lacks a record at its end.
  pub faultless_before : still_due so_far (factors_due b so_far) ≡ false → read_tariff (take at b) ≡ Faultless so_far
  faultless_before none =
      at_end (take at b) at so_far passed_before
      (ended (take at b) at so_far (factors_due b so_far) (due_before so_far (omega arith)) (omega (arith, first_length at b inside)) none)

  pub short_before : still_due so_far (factors_due b so_far) ≡ true → read_tariff (take at b) ≡ Fault 2 at
  short_before some =
      at_fault (take at b) 2 at so_far
      (record {
        passed = passed_before;
        faulty =
            ended_early (take at b) at so_far (factors_due b so_far) (due_before so_far (omega arith)) (omega (arith, first_length at b inside)) some;
      })

-- ---- Where the reading stops.

module _ (b : List ℕ) where
  pub halt_end : {counts : Counts} → read_tariff b ≡ Faultless counts → halt_of b ≡ End counts
  unfolding halt_of halt_with stopped_at
  halt_end e = rw e

  pub halt_behind :
      {number at : ℕ} {before : Counts} → read_tariff b ≡ Fault number at → read_tariff (take at b) ≡ Faultless before → halt_of b ≡ Behind number at before
  unfolding halt_of halt_with stopped_at
  halt_behind e f = rw (e, f)

  pub halt_amid :
      {number at other place : ℕ} → read_tariff b ≡ Fault number at → read_tariff (take at b) ≡ Fault other place → halt_of b ≡ Amid number at
  unfolding halt_of halt_with stopped_at
  halt_amid e f = rw (e, f)

  -- by the records so far
  pub halt_fault :
      (number at : ℕ) (so_far : Counts) (due : ℕ) → FirstFault b number at so_far → due ≡ factors_due b so_far → fault_at number at so_far due ≡ halt_of b
  unfolding fault_at
  halt_fault number at so_far due first so-many = go (still_due so_far due) refl
    where
      go : (t : Bool) → still_due so_far due ≡ t → fault_at number at so_far due ≡ halt_of b
      go true is =
          rw is (sym (halt_amid (at_fault b number at so_far first) (short_before b at so_far first.passed (rw so-many at is))))
      go false is =
          rw is (sym (halt_behind (at_fault b number at so_far first) (faultless_before b at so_far first.passed (rw so-many at is))))

  -- What the reading comes to, by where it stops.
  pub data Halts : Halt → Type 0 where
    end : {counts : Counts} → read_tariff b ≡ Faultless counts → Halts (End counts)
    behind : {number at : ℕ} {before : Counts} → read_tariff b ≡ Fault number at → read_tariff (take at b) ≡ Faultless before → Halts (Behind number at before)
    amid : {number at other place : ℕ} → read_tariff b ≡ Fault number at → read_tariff (take at b) ≡ Fault other place → Halts (Amid number at)

  pub halts : Halts (halt_of b)
  halts = go (read_tariff b) refl
    where
      go : (r : Reading) → read_tariff b ≡ r → Halts (halt_of b)
      go (Faultless counts) e = rw (halt_end e) (end e)
      go (Fault number at) e = before (read_tariff (take at b)) refl
        where
          before : (r : Reading) → read_tariff (take at b) ≡ r → Halts (halt_of b)
          before (Faultless counts) f = rw (halt_behind e f) (behind e f)
          before (Fault other place) f = rw (halt_amid e f) (amid e f)

  pub end_read : {counts : Counts} → halt_of b ≡ End counts → read_tariff b ≡ Faultless counts
  end_read {counts} e = meant (rw e at halts)
    where
      meant : Halts (End counts) → read_tariff b ≡ Faultless counts
      meant (end is) = is

  pub behind_read :
      {number at : ℕ} {before : Counts} → halt_of b ≡ Behind number at before
      → (read_tariff b ≡ Fault number at) × (read_tariff (take at b) ≡ Faultless before)
  behind_read {number} {at} {before} e = meant (rw e at halts)
    where
      meant : Halts (Behind number at before) → (read_tariff b ≡ Fault number at) × (read_tariff (take at b) ≡ Faultless before)
      meant (behind is alone) = (is, alone)

  pub amid_read : {number at : ℕ} → halt_of b ≡ Amid number at → read_tariff b ≡ Fault number at
  amid_read {number} {at} e = meant (rw e at halts)
    where
      meant : Halts (Amid number at) → read_tariff b ≡ Fault number at
      meant (amid is short) = is
