-- Rules, section 4: a tariff is 1 to 32 area records, then a factor record for the state and for each region, then 0 to 1,000 stop records,
-- nothing else; the first faulty record decides.
use Rattle.std.specs.Prelude.{ℕ, zero, suc, ◌+◌, ◌≤◌, ◌<◌, ◌≡◌, ◌⊎◌, List, Bool, cond, ◌&&◌, ◌||◌, length, leb, ltb, eqb}
use Rattle.wire.specs.Frame.{frame_at}
use Rattle.wire.specs.declared.Frame.TheVariants.{Whole, Broken}
use Rattle.layout.specs.declared.Counts.{Counts}
use Rattle.layout.specs.declared.Entry.{Entry}
use Rattle.layout.specs.declared.Entry.TheVariants.{End, Area, Factor, Stop, Faulty}
use Rattle.layout.specs.declared.Reading.{Reading}
use Rattle.layout.specs.declared.Reading.TheVariants.{Fault, Faultless}
use Rattle.layout.specs.Layout.{
  common_kind,
  aachen_kind,
  area_body_of,
  factor_body,
  factor_size,
  stop_body,
  stop_size,
  most_areas,
  most_stops,
  area_end,
  area_place,
  long_bits,
  factor_place,
  stop_place,
  areas_before,
  factors_before,
  stops_before,
  one_area,
  more_factors,
  more_stops,
}
use Rattle.layout.specs.Fields.{area_fields, long_fields, factor_fields, stop_fields}
use Rattle.layout.specs.Rules.{kind_of, area_right, factors_due, factor_right, stop_right}
use Rattle.layout.specs.WrongValues.{WrongArea, WrongFactor, WrongStop}

-- a place that so many areas, those of kind 8 among them, factor records and stops reach
pub record Reached (b : List ℕ) (at : ℕ) (so_far : Counts) : Type 0 where
  pub place : at ≡ stop_place so_far so_far.stops
  pub inside : at ≤ length b
  pub few : so_far.areas ≤ most_areas
  pub longs : so_far.longs ≡ long_bits b so_far.areas

-- an area record of one of its kinds: its body is 25 bytes in kind 1, 38 in kind 8, no factor record and no stop goes before it and fewer
-- than 32 areas do, or it is 2; its values are right, or it is 3
unfoldable pub area_entry : List ℕ → ℕ → Counts → ℕ → ℕ → Entry
area_entry b at so_far kind body =
    cond (eqb body (area_body_of kind) && eqb so_far.factors 0 && eqb so_far.stops 0 && ltb so_far.areas most_areas)
    (cond (area_right b so_far kind (area_fields b at) (long_fields b at)) (Area kind) (Faulty 3))
    (Faulty 2)

-- a factor record: its body is 2 bytes, no stop goes before it and fewer factor records do than are due, or it is 2; its values are right,
-- or it is 3
unfoldable pub factor_entry : List ℕ → ℕ → Counts → ℕ → Entry
factor_entry b at so_far body =
    cond (eqb body factor_body && eqb so_far.stops 0 && ltb so_far.factors (factors_due b so_far))
    (cond (factor_right (factor_fields b at) so_far.factors) Factor (Faulty 3))
    (Faulty 2)

-- a stop record: its body is 9 bytes, an area goes before it, as many factor records do as are due and fewer than 1,000 stops do, or it is 2;
-- its values are right, or it is 3
unfoldable pub stop_entry : List ℕ → ℕ → Counts → ℕ → Entry
stop_entry b at so_far body =
    cond (eqb body stop_body && ltb 0 so_far.areas && eqb so_far.factors (factors_due b so_far) && ltb so_far.stops most_stops)
    (cond (stop_right (stop_fields b at) so_far.areas) Stop (Faulty 3))
    (Faulty 2)

-- the kinds of an area record
abbrev pub is_area : ℕ → Bool
is_area kind = eqb kind common_kind || eqb kind aachen_kind

-- what stands at a place, after so many areas, factor records and stops. At the tariff's end an area or a factor record may still be due: 2.
-- A broken frame is 1. A kind that is neither an area's nor a factor record's nor a stop's is 2
unfoldable pub entry_at : List ℕ → ℕ → Counts → Entry
entry_at b at so_far =
    cond (leb (length b) at) (cond (eqb so_far.areas 0 || ltb so_far.factors (factors_due b so_far)) (Faulty 2) End)
    (elim (frame_at b at) [
      | Broken ↦ Faulty 1
      | Whole kind body ↦
          cond (is_area kind) (area_entry b at so_far kind body)
          (cond (eqb kind 5) (factor_entry b at so_far body)
          (cond (eqb kind 2) (stop_entry b at so_far body) (Faulty 2)))
    ])

-- the records from a place on, one after another, until the first fault or the end. A record is at least a byte long, so as many
-- turns as the tariff has bytes, and one more for its end, are enough
unfoldable pub read_from : ℕ → List ℕ → ℕ → Counts → Reading
read_from zero b at so_far = Fault 1 at
read_from (suc turns) b at so_far =
    elim (entry_at b at so_far) [
      | End ↦ Faultless so_far
      | Faulty number ↦ Fault number at
      | Area kind ↦ read_from turns b (area_end b at) (one_area so_far kind)
      | Factor ↦ read_from turns b (at + factor_size) (more_factors so_far 1)
      | Stop ↦ read_from turns b (at + stop_size) (more_stops so_far 1)
    ]

unfoldable pub read_tariff : List ℕ → Reading
read_tariff b = read_from (suc (length b)) b 0 (areas_before b 0)

-- the tariff is faultless, with these counts
abbrev pub Read : List ℕ → Counts → Type 0
Read b counts = read_tariff b ≡ Faultless counts

-- every record before a place that so many areas, factor records and stops reach is faultless
pub record FaultlessUntil (b : List ℕ) (at : ℕ) (so_far : Counts) : Type 0 where
  pub reached : Reached b at so_far
  pub area : (i : ℕ) → i < so_far.areas → entry_at b (area_place b i) (areas_before b i) ≡ Area (kind_of b i)
  pub factor : (k : ℕ) → k < so_far.factors → entry_at b (factor_place so_far k) (factors_before so_far k) ≡ Factor
  pub stop : (j : ℕ) → j < so_far.stops → entry_at b (stop_place so_far j) (stops_before so_far j) ≡ Stop

-- the first faulty record, or the place of a record that is due and missing: all before it is faultless, and it is not
pub record FirstFault (b : List ℕ) (number at : ℕ) (so_far : Counts) : Type 0 where
  pub passed : FaultlessUntil b at so_far
  pub faulty : entry_at b at so_far ≡ Faulty number

-- kind, body length, order and number of an area record are right
pub record AreaInPlace (b : List ℕ) (at : ℕ) (so_far : Counts) (kind : ℕ) : Type 0 where
  pub kinds : (kind ≡ common_kind) ⊎ (kind ≡ aachen_kind)
  pub frame : frame_at b at ≡ Whole kind (area_body_of kind)
  pub no_factor : so_far.factors ≡ 0
  pub no_stop : so_far.stops ≡ 0
  pub few : so_far.areas < most_areas

-- kind, body length, order and number of a factor record are right
pub record FactorInPlace (b : List ℕ) (at : ℕ) (so_far : Counts) : Type 0 where
  pub frame : frame_at b at ≡ Whole 5 factor_body
  pub no_stop : so_far.stops ≡ 0
  pub few : so_far.factors < factors_due b so_far

-- kind, body length, order and number of a stop record are right
pub record StopInPlace (b : List ℕ) (at : ℕ) (so_far : Counts) : Type 0 where
  pub frame : frame_at b at ≡ Whole 2 stop_body
  pub some : 0 < so_far.areas
  pub all : so_far.factors ≡ factors_due b so_far
  pub few : so_far.stops < most_stops

-- fault 1: the tariff has not ended, and the frame is broken
pub record BrokenFrame (b : List ℕ) (at : ℕ) : Type 0 where
  pub going_on : at < length b
  pub frame : frame_at b at ≡ Broken

-- fault 2: the tariff has ended with no area at all, or with a factor record still due; or the frame is whole, and kind, body length, order
-- or number is wrong
pub data OutOfPlace (b : List ℕ) (at : ℕ) (so_far : Counts) : Type 0 where
  no_area : length b ≤ at → so_far.areas ≡ 0 → OutOfPlace b at so_far
  factor-due : length b ≤ at → so_far.factors < factors_due b so_far → OutOfPlace b at so_far
  wrong : (kind body : ℕ) → frame_at b at ≡ Whole kind body → (AreaInPlace b at so_far kind → ⊥) → (FactorInPlace b at so_far → ⊥)
      → (StopInPlace b at so_far → ⊥) → OutOfPlace b at so_far

-- fault 3: the frame is whole, kind, body length, order and number are right, and a value breaks a rule
pub data WrongValue (b : List ℕ) (at : ℕ) (so_far : Counts) : Type 0 where
  area_value :
      {kind : ℕ} → AreaInPlace b at so_far kind → WrongArea b so_far kind (area_fields b at) (long_fields b at) → WrongValue b at so_far
  factor_value : FactorInPlace b at so_far → WrongFactor (factor_fields b at) so_far.factors → WrongValue b at so_far
  stop_value : StopInPlace b at so_far → WrongStop (stop_fields b at) so_far.areas → WrongValue b at so_far

-- what the number of a fault says; there is no other number
pub data FaultSays (b : List ℕ) (at : ℕ) (so_far : Counts) (number : ℕ) : Type 0 where
  one : number ≡ 1 → BrokenFrame b at → FaultSays b at so_far number
  two : number ≡ 2 → OutOfPlace b at so_far → FaultSays b at so_far number
  three : number ≡ 3 → WrongValue b at so_far → FaultSays b at so_far number
