-- Places before which every record is faultless: the first, and after each faultless record the next. The reading of a tariff comes
-- to each of them with turns enough to go on, and ends at one: with its first fault, or at its end.
-- Assumes nothing.
use Prim.Native.Nat.{ℕ, zero, suc, ◌+◌, ◌≤◌, ◌<◌}
use native.Mathlib.Omega.{arith}
use native.Mathlib.Numerals.{add-one}
use native.Mathlib.Decide.{dec_lt}
use mathlib.Core.Path.{◌≡◌, refl, sym, ap, ◌∙◌}
use mathlib.Core.List.{List}
use borrow.Author.Count.{below_none, below_more}
use lib.ListN.{length}
use lib.Count.{ones}
use Rattle.layout.specs.declared.Counts.{Counts}
use Rattle.layout.specs.declared.Reading.{Reading}
use Rattle.layout.specs.declared.Reading.TheVariants.{Fault, Faultless}
use Rattle.layout.specs.declared.Entry.{Entry}
use Rattle.layout.specs.declared.Entry.TheVariants.{End, Area, Factor, Stop, Faulty}
use Rattle.layout.specs.Layout.{
  factor_size,
  stop_size,
  most_stops,
  longest_tariff,
  kind_at,
  area_end,
  area_place,
  long_bits,
  factor_place,
  stop_place,
  areas_before,
  factors_before,
  stops_before,
  one_area,
  more_factors,
  more_stops,
}
use Rattle.layout.specs.Rules.{level_of, kind_of, factors_due}
use Rattle.layout.specs.Scan.{entry_at, read_from, read_tariff, FaultlessUntil, FirstFault}
use Rattle.layout.proofs.Places.{place_none, place_next, bits_next, long_none, place_is, long_few, long_fewer}
use Rattle.layout.proofs.PlaceLaws.{state_kind}
use Rattle.layout.proofs.Turns.{turn_end, turn_fault, turn_area, turn_factor, turn_stop}
use Rattle.layout.proofs.Entries.{area-entry, factor-entry, stop-entry, end_entry}
use Rattle.layout.proofs.Wide.{wide_most}

pub passed_none : (b : List ℕ) → FaultlessUntil b 0 (areas_before b 0)
passed_none b =
    record {
      reached = record { place = omega (arith, long_none b); inside = omega arith; few = omega arith; longs = refl };
      area = below_none _;
      factor = below_none _;
      stop = below_none _;
    }

module _ (b : List ℕ) (at : ℕ) (so_far : Counts) (p : FaultlessUntil b at so_far) where
  -- an area stands where those before it end
  pub at_area : (kind : ℕ) → entry_at b at so_far ≡ Area kind → at ≡ area_place b so_far.areas
  at_area kind e =
      let facts = area-entry b at so_far kind e in omega (arith, ap ones p.reached.longs, place_is b so_far.areas)

  pub passed_area : (kind : ℕ) → entry_at b at so_far ≡ Area kind → FaultlessUntil b (area_end b at) (one_area so_far kind)
  passed_area kind e =
      let facts = area-entry b at so_far kind e in
      let here = at_area kind e in
      let kinds : kind ≡ kind_at b (area_place b so_far.areas) = facts.kind_is ∙ ap (kind_at b) here in
      let longs : (one_area so_far kind).longs ≡ long_bits b (so_far.areas + 1) = rw (kinds, p.reached.longs) (sym (bits_next b so_far.areas)) in
      record {
        reached =
            record {
              place = omega (arith, ap ones longs, place_is b (so_far.areas + 1), place_next b so_far.areas, ap (area_end b) here);
              inside = facts.fits;
              few = omega arith;
              longs = longs;
            };
        area = below_more _ _ p.area (rw (facts.kind_is, here, p.reached.longs, facts.here.no_factor, facts.here.no_stop) at e);
        factor = λ k h. absurd (omega arith);
        stop = λ j h. absurd (omega arith);
      }

  pub passed_factor : entry_at b at so_far ≡ Factor → FaultlessUntil b (at + factor_size) (more_factors so_far 1)
  passed_factor e =
      let facts = factor-entry b at so_far e in
      let here : at ≡ factor_place so_far so_far.factors = omega arith in
      record {
        reached = record { place = omega arith; inside = facts.fits; few = p.reached.few; longs = p.reached.longs };
        area = p.area;
        factor = below_more _ _ p.factor (rw (here, facts.no_stop) at e);
        stop = λ j h. absurd (omega arith);
      }

  pub passed_stop : entry_at b at so_far ≡ Stop → FaultlessUntil b (at + stop_size) (more_stops so_far 1)
  passed_stop e =
      let facts = stop-entry b at so_far e in
      record {
        reached = record { place = omega arith; inside = facts.fits; few = p.reached.few; longs = p.reached.longs };
        area = p.area;
        factor = p.factor;
        stop = below_more _ _ p.stop (rw p.reached.place at e);
      }

-- where each of so many has a number below a bound, they are at most so many
most : (n bound : ℕ) → ((j : ℕ) → j < n → j < bound) → n ≤ bound
most zero bound each = omega arith
most (suc n) bound each = each n (omega arith)

-- Not all areas are of kind 8, and at most so many factor records as are due and 1,000 stops go before a place, so it lies at 14,523 or
-- before: where 32 areas, 31 of kind 8, with a factor record each and 1,000 stops end.
module _ (b : List ℕ) (at : ℕ) (so_far : Counts) (p : FaultlessUntil b at so_far) where
  pub few_long : 0 < so_far.areas → ones so_far.longs < so_far.areas
  few_long some =
      let first = area-entry b (area_place b 0) (areas_before b 0) (kind_of b 0) (p.area 0 some) in
      let common = rw (place_none b) at (state_kind b so_far first.right) in
      omega (arith, ap ones p.reached.longs, long_fewer b common so_far.areas some)

  pub due_factors : so_far.factors ≤ factors_due b so_far
  due_factors =
      most so_far.factors (factors_due b so_far) (λ k h. (factor-entry b (factor_place so_far k) (factors_before so_far k) (p.factor k h)).few)

  pub few_factors : so_far.factors ≤ so_far.areas
  few_factors = omega (arith, due_factors, wide_most (level_of b) so_far.areas)

  pub few_stops : so_far.stops ≤ most_stops
  few_stops = most so_far.stops most_stops (λ j h. (stop-entry b (stop_place so_far j) (stops_before so_far j) (p.stop j h)).few)

  pub early : at ≤ longest_tariff
  early =
      elim (dec_lt 0 so_far.areas) [
        | yes some ↦ omega (arith, p.reached.place, p.reached.few, few_long some, few_factors, few_stops)
        | no none ↦
            omega (arith, p.reached.place, p.reached.few, ap ones p.reached.longs, long_few b so_far.areas, few_factors, few_stops)
      ]

-- The reading of the tariff comes to a place, with so many turns left and one more.
record Comes (b : List ℕ) (at : ℕ) (so_far : Counts) : Type 0 where
  turns : ℕ
  same : read_tariff b ≡ read_from (suc turns) b at so_far
  enough : length b ≤ at + turns

-- a turn goes past a record that has a byte at least and ends within the bytes
past :
    (b : List ℕ) (at : ℕ) (so_far : Counts) (next : ℕ) (soFar' : Counts) → at < next → next ≤ length b
    → ((turns : ℕ) → read_from (suc turns) b at so_far ≡ read_from turns b next soFar')
    → Comes b at so_far → Comes b next soFar'
past b at so_far next soFar' on within turn c = go c.turns c.same c.enough
  where
    go : (turns : ℕ) → read_tariff b ≡ read_from (suc turns) b at so_far → length b ≤ at + turns → Comes b next soFar'
    go zero same enough = absurd (omega arith)
    go (suc turns) same enough = record { turns = turns; same = same ∙ turn (suc turns); enough = omega arith }

-- so many records of one sort stand one after another: the reading comes past all of them
after_many :
    (b : List ℕ) (place : ℕ → ℕ) (before : ℕ → Counts) (many : ℕ)
    → ((n : ℕ) → n < many
    → (place n < place (n + 1))
    × (place (n + 1) ≤ length b)
    × ((turns : ℕ) → read_from (suc turns) b (place n) (before n) ≡ read_from turns b (place (n + 1)) (before (n + 1))))
    → Comes b (place 0) (before 0) → Comes b (place many) (before many)
after_many b place before zero each c = c
after_many b place before (suc many) each c =
    let (on, fits, turn) = each many (omega arith) in
    rw (add-one many)
    at (past b (place many) (before many) (place (many + 1)) (before (many + 1)) on fits turn
    (after_many b place before many (λ n h. each n (omega arith)) c))

-- all of one length
after_equal :
    (b : List ℕ) (size : ℕ) → 0 < size → (place : ℕ → ℕ) → ((n : ℕ) → place n + size ≡ place (n + 1)) → (before : ℕ → Counts) (many : ℕ)
    → ((n : ℕ) → n < many
    → (place n + size ≤ length b)
    × ((turns : ℕ) → read_from (suc turns) b (place n) (before n) ≡ read_from turns b (place n + size) (before (n + 1))))
    → Comes b (place 0) (before 0) → Comes b (place many) (before many)
after_equal b size some place next before many each =
    after_many b place before many
    (λ n h. let (fits, turn) = each n h in let e = next n in (omega arith, omega arith, λ turns. rw e at (turn turns)))

comes_first : (b : List ℕ) → Comes b 0 (areas_before b 0)
unfolding read_tariff
comes_first b = record { turns = length b; same = refl; enough = omega arith }

comes : (b : List ℕ) (at : ℕ) (so_far : Counts) → FaultlessUntil b at so_far → Comes b at so_far
comes b at so_far p =
    let areas =
    after_many b (area_place b) (areas_before b) so_far.areas
    (λ i h.
    let kind = kind_of b i in
    let is = p.area i h in
    let facts = area-entry b (area_place b i) (areas_before b i) kind is in (
      omega (arith, place_next b i),
      omega (arith, place_next b i),
      λ turns. rw (place_next b i, bits_next b i) (turn_area turns b (area_place b i) (areas_before b i) kind is),
    ))
    (rw (place_none b) (comes_first b))
    in
    let first_factor : area_place b so_far.areas ≡ factor_place so_far 0 = omega (arith, place_is b so_far.areas, ap ones p.reached.longs) in
    let factors =
    after_equal b factor_size (omega arith) (factor_place so_far) (λ n. omega arith) (factors_before so_far) so_far.factors
    (λ k h.
    let is = p.factor k h in (
      (factor-entry b (factor_place so_far k) (factors_before so_far k) is).fits,
      λ turns. turn_factor turns b (factor_place so_far k) (factors_before so_far k) is,
    ))
    (rw (first_factor, sym p.reached.longs) at areas)
    in
    let first_stop : factor_place so_far so_far.factors ≡ stop_place so_far 0 = omega arith in
    rw p.reached.place
    (after_equal b stop_size (omega arith) (stop_place so_far) (λ n. omega arith) (stops_before so_far) so_far.stops
    (λ j h.
    let is = p.stop j h in
    ((stop-entry b (stop_place so_far j) (stops_before so_far j) is).fits, λ turns. turn_stop turns b (stop_place so_far j) (stops_before so_far j) is))
    (rw first_stop at factors))

-- Where all before is faultless, the end gives the counts, and a fault is what is given.
pub at_end : (b : List ℕ) (at : ℕ) (so_far : Counts) → FaultlessUntil b at so_far → entry_at b at so_far ≡ End
    → read_tariff b ≡ Faultless so_far
at_end b at so_far p e =
    let c = comes b at so_far p in
    c.same ∙ turn_end c.turns b at so_far e

pub at_fault : (b : List ℕ) (number at : ℕ) (so_far : Counts) → FirstFault b number at so_far → read_tariff b ≡ Fault number at
at_fault b number at so_far f =
    let c = comes b at so_far f.passed in
    c.same ∙ turn_fault c.turns b at so_far number f.faulty

-- What the reading of a tariff ends with: its first fault, or its end.
pub data Ends (b : List ℕ) : Reading → Type 0 where
  fault : {number at : ℕ} (so_far : Counts) → FirstFault b number at so_far → Ends b (Fault number at)
  finish : {counts : Counts} (at : ℕ) → FaultlessUntil b at counts → entry_at b at counts ≡ End
      → Ends b (Faultless counts)

reads :
    (turns : ℕ) (b : List ℕ) (at : ℕ) (so_far : Counts) → FaultlessUntil b at so_far → length b < at + turns
    → Ends b (read_from turns b at so_far)
reads zero b at so_far p enough = absurd (omega arith)
reads (suc turns) b at so_far p enough = go (reads turns b) (entry_at b at so_far) refl
  where
    go :
        ((at' : ℕ) (soFar' : Counts) → FaultlessUntil b at' soFar' → length b < at' + turns → Ends b (read_from turns b at' soFar'))
        → (entry : Entry) → entry_at b at so_far ≡ entry → Ends b (read_from (suc turns) b at so_far)
    go on End is = rw (turn_end turns b at so_far is) (finish at p is)
    go on (Area kind) is =
        let facts = area-entry b at so_far kind is in
        rw (turn_area turns b at so_far kind is)
        (on (area_end b at) (one_area so_far kind) (passed_area b at so_far p kind is) (omega arith))
    go on Factor is =
        let facts = factor-entry b at so_far is in
        rw (turn_factor turns b at so_far is)
        (on (at + factor_size) (more_factors so_far 1) (passed_factor b at so_far p is) (omega arith))
    go on Stop is =
        let facts = stop-entry b at so_far is in
        rw (turn_stop turns b at so_far is)
        (on (at + stop_size) (more_stops so_far 1) (passed_stop b at so_far p is) (omega arith))
    go on (Faulty number) is =
        rw (turn_fault turns b at so_far number is) (fault so_far (record { passed = p; faulty = is }))

pub ends : (b : List ℕ) → Ends b (read_tariff b)
unfolding read_tariff
ends b = reads (suc (length b)) b 0 (areas_before b 0) (passed_none b) (omega arith)

-- The counts are given at the tariff's end, every record before it faultless, an area among them, and each factor record that is due.
pub finished :
    (b : List ℕ) (counts : Counts) → read_tariff b ≡ Faultless counts
    → FaultlessUntil b (length b) counts × (0 < counts.areas) × (counts.factors ≡ factors_due b counts)
finished b counts e = meant (rw e at (ends b))
  where
    meant : Ends b (Faultless counts) → FaultlessUntil b (length b) counts × (0 < counts.areas) × (counts.factors ≡ factors_due b counts)
    meant (finish at p is) =
        let (over, some, all) = end_entry b at counts is in
        let here : at ≡ length b = omega arith in
        (rw here at p, some, omega (arith, due_factors b at counts p))
