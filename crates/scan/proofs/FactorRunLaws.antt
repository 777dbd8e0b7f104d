-- Factor records one after another: what length and kind tell as one number, and that a faultless factor record takes the reading on.
-- Assumes nothing.
use Rattle.std.proofs.Common.{◌≡◌, ℕ, ◌+◌, ◌-◌, ◌<◌, ◌≤◌, true, ◌&&◌, eqb, ltb, leb, List, length, ◌∙◌, arith, lt-ltb, eq-eqb}
use Rattle.wire.specs.Number.{get_le, Bytes}
use Rattle.wire.specs.Frame.{frame_at}
use Rattle.wire.specs.declared.Frame.TheVariants.{Whole}
use Rattle.wire.proofs.Number.{get_range}
use Rattle.wire.proofs.Frames.{whole_back}
use Rattle.wire.proofs.Tests.{told}
use Rattle.scan.specs.declared.area_run.Run.{Run}
use Rattle.layout.specs.declared.Entry.TheVariants.{Factor}
use Rattle.layout.specs.Layout.{factor_body, factor_size, more_factors}
use Rattle.layout.specs.Fields.{factor_fields}
use Rattle.layout.specs.Rules.{factor_right}
use Rattle.layout.specs.Scan.{entry_at}
use Rattle.scan.specs.FactorRuns.{FactorsPassed, FactorNext}
use Rattle.scan.proofs.Words.{four_word}
use Rattle.layout.proofs.Entries.{factor_due, factor_frame, factor_is_due, factor-entry}
use Rattle.layout.proofs.FaultlessUntil.{passed_factor}

-- what the tests before a record is looked at tell: one is still due, and there is room for it
pub due_and_room : (b : List ℕ) (run : Run) → ltb run.so_far.factors run.due && leb factor_size (length b - run.at) ≡ true
    → (run.so_far.factors < run.due) × (run.at + factor_size ≤ length b)
due_and_room b run e =
    let tests : (run.so_far.factors < run.due) × (factor_size ≤ length b - run.at) = search told in
    (tests.0, omega arith)

module _ (b : List ℕ) (run : Run) where
  -- length 4 and kind 5 are a whole factor record's
  factor_head : Bytes b → run.at + factor_size ≤ length b → get_le 4 b run.at ≡ 327684 → frame_at b run.at ≡ Whole 5 factor_body
  factor_head bytes fits head =
      let low = get_range 2 b run.at bytes in
      let words = four_word b run.at in
      whole_back b run.at 5 factor_body
      (record { kind_is = omega arith; length_is = omega arith; fits = omega arith; short = omega arith })

  -- a record with these, whose values are right, is a faultless factor record, where one is still due and no stop went before
  pub found_factor :
      FactorsPassed b run → Bytes b → run.so_far.factors < run.due → run.at + factor_size ≤ length b
      → eqb (get_le 4 b run.at) 327684 && factor_right (factor_fields b run.at) run.so_far.factors ≡ true
      → entry_at b run.at run.so_far ≡ Factor
  found_factor passed bytes few fits e =
      let soFar = run.so_far in
      let head : get_le 4 b run.at ≡ 327684 = search told in
      let right : factor_right (factor_fields b run.at) soFar.factors ≡ true = search told in
      let tests : factor_due factor_body soFar run.due ≡ true = rw (eq-eqb soFar.stops 0 passed.no_stop, lt-ltb soFar.factors run.due few) in
      factor_frame b run.at soFar factor_body (factor_head bytes fits head)
      ∙ factor_is_due b run.at soFar factor_body run.due passed.due tests right

  -- Past a faultless factor record all records are faultless, and none is a stop.
  pub passed_on :
      FactorNext b run
      → FactorsPassed b (record { at = run.at + factor_size; so_far = more_factors run.so_far 1; due = run.due }) × (run.at < run.at + factor_size)
  passed_on next =
      let facts = factor-entry b run.at run.so_far next.here in
      (record { passed = passed_factor b run.at run.so_far next.passed next.here; due = next.due; no_stop = facts.no_stop }, omega arith)
