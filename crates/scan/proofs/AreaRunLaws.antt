-- Areas one after another: what their lengths and kinds tell as one number, and that a faultless area takes the reading on.
-- Assumes nothing.
use Rattle.std.proofs.Common.{◌≡◌, ℕ, ◌+◌, ◌*◌, ◌<◌, ◌≤◌, true, cond, ltb, List, length, sym, refl, ap, ◌∙◌, inl, inr, arith}
use lib.Count.{ones}
use Rattle.wire.specs.Number.{get_le, Bytes}
use Rattle.wire.proofs.Number.{get_range}
use Rattle.wire.proofs.Frames.{whole, whole_back}
use Rattle.layout.specs.declared.Counts.{Counts}
use Rattle.scan.specs.declared.area_run.Run.{Run}
use Rattle.layout.specs.declared.Entry.TheVariants.{Area}
use Rattle.layout.specs.Layout.{common_kind, aachen_kind, area_size, long_more, long_of, area_body_of, most_areas, area_end, one_area}
use Rattle.layout.specs.Fields.{area_fields, long_fields}
use Rattle.layout.specs.Rules.{level_of, area_right}
use Rattle.layout.specs.Scan.{entry_at, Reached, AreaInPlace}
use Rattle.layout.specs.Clauses.{AreasThere}
use Rattle.scan.specs.AreaRuns.{AreasPassed, AreaNext, KindFound}
use Rattle.scan.proofs.Words.{four_word}
use Rattle.layout.proofs.Places.{place_is}
use Rattle.layout.proofs.Entries.{kinds_area, area_frame, area_is_due, area-holds, area-entry}
use Rattle.layout.proofs.FaultlessUntil.{at_area, passed_area}
use Rattle.layout.proofs.Wide.{wide_next}

-- The length and the kind of an area record as one number: 27 and 1, or 40 and 8.
module _ (b : List ℕ) (at : ℕ) where
  pub none_found : KindFound b at 0
  none_found = record { told = λ some. absurd (omega arith) }

  pub common_found : Bytes b → at + area_size ≤ length b → get_le 4 b at ≡ 65563 → KindFound b at common_kind
  unfolding long_of
  common_found bytes fits head =
      let low = get_range 2 b at bytes in
      let words = four_word b at in
      let frame =
      whole_back b at common_kind (area_body_of common_kind)
      (record { kind_is = omega arith; length_is = omega arith; fits = omega arith; short = omega arith })
      in
      record { told = λ some. (inl refl, frame) }

  pub aachen_found : Bytes b → at + (area_size + long_more) ≤ length b → get_le 4 b at ≡ 524328 → KindFound b at aachen_kind
  unfolding long_of
  aachen_found bytes fits head =
      let low = get_range 2 b at bytes in
      let words = four_word b at in
      let frame =
      whole_back b at aachen_kind (area_body_of aachen_kind)
      (record { kind_is = omega arith; length_is = omega arith; fits = omega arith; short = omega arith })
      in
      record { told = λ some. (inr refl, frame) }

-- where areas end that are all that went before, there are as many
pub areas_there : (b : List ℕ) (at : ℕ) (soFar : Counts) → Reached b at soFar → AreasThere b soFar
areas_there b at soFar reached =
    record { few = reached.few; inside = omega (arith, reached, ap ones reached.longs, place_is b soFar.areas); longs = reached.longs }

module _ (b : List ℕ) (run : Run) (kind : ℕ) where
  module _ (found : KindFound b run.at kind) (some : 0 < kind) where
    -- a record that was found ends within the bytes
    pub found_fits : run.at + 4 + area_body_of kind ≤ length b
    found_fits = (whole b run.at kind (area_body_of kind) (found.told some).1).fits

    -- and is a faultless area, where its values are right and fewer than 32 areas, and nothing else, went before
    pub found_faultless :
        AreasPassed b run → run.so_far.areas < most_areas
        → area_right b run.so_far kind (area_fields b run.at) (long_fields b run.at) ≡ true → entry_at b run.at run.so_far ≡ Area kind
    found_faultless passed few right =
        let (kinds, frame) = found.told some in
        let here : AreaInPlace b run.at run.so_far kind =
        record { kinds = kinds; frame = frame; no_factor = passed.no_factor; no_stop = passed.no_stop; few = few }
        in
        area_frame b run.at run.so_far kind (area_body_of kind) (kinds_area kind kinds) frame
        ∙ area_is_due b run.at run.so_far (area_body_of kind) kind (area-holds b run.at run.so_far kind here) right

  -- Past a faultless area all records are faultless, and areas.
  pub passed_on :
      AreaNext b run kind → (at due : ℕ) → at ≡ run.at + area_size + long_more * long_of kind
      → due ≡ run.due + cond (ltb (area_fields b run.at).level 2) 1 0
      → AreasPassed b (record { at = at; so_far = one_area run.so_far kind; due = due }) × (run.at < at)
  passed_on next at due at-is due_is =
      let soFar = run.so_far in
      let facts = area-entry b run.at soFar kind next.here in
      let place = at_area b run.at soFar next.passed kind next.here in
      let end : area_end b run.at ≡ at = omega (arith, ap long_of facts.kind_is) in (
        record {
          passed = rw end at (passed_area b run.at soFar next.passed kind next.here);
          due = rw (due_is, next.due, place) (sym (wide_next (level_of b) soFar.areas));
          some = omega arith;
          no_factor = facts.here.no_factor;
          no_stop = facts.here.no_stop;
        },
        omega arith,
      )
