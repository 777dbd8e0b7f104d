-- A record of the wrong kind is refused with 5 and passed over.
-- Assumes nothing.
use Prim.Native.Nat.{ℕ, ◌+◌}
use native.Mathlib.Omega.{arith}
use mathlib.Core.Path.{◌≡◌, sym, ◌∙◌}
use mathlib.Core.Bool.{Bool, true}
use mathlib.Core.List.{List}
use lib.ListN.{take}
use lib.Seq.{length-take-le}
use Rattle.wire.specs.Frame.{frame_at}
use Rattle.wire.specs.declared.Frame.TheVariants as frame
use Rattle.wire.proofs.Number.{get_take}
use Rattle.wire.proofs.Frames.{whole, whole_back}
use Rattle.editions.specs.declared.Editions.{Editions}
use Rattle.editions.specs.Reading.{ReadFile}
use Rattle.trip.specs.Record.{trip_kind}
use Rattle.trip.specs.Conditions.{other_kind, no_record}
use Rattle.trip.proofs.Shapes.{five}
use Rattle.statement.specs.Record.{largest_statement}
use Rattle.deciding.specs.Refusals.{sound_in, rows}
use Rattle.settle.specs.Outcome.{refused}
use Rattle.deciding.proofs.Rows.{skip, stop}
use Rattle.deciding.proofs.Decisions.{refused_first}
use Rattle.settle.proofs.Ways.{refused_way}
use Rattle.roll.specs.declared.Line.TheVariants.{Refused}
use Rattle.roll.specs.declared.Step.TheVariants.{Record}
use Rattle.roll.specs.Lines.{line_of}
use Rattle.roll.specs.Pieces.{outcome_at, step_of, book_step}
use Rattle.roll.proofs.Starts.{whole_way, whole_finished}

-- the record alone has the frame that it has in the piece
frame_alone : (piece : List ℕ) (kind body : ℕ) → frame_at piece 0 ≡ frame.Whole kind body → frame_at (take (4 + body) piece) 0 ≡ frame.Whole kind body
frame_alone piece kind body e =
    let facts = whole piece 0 kind body e in
    let size = length-take-le (4 + body) piece (omega arith) in
    whole_back (take (4 + body) piece) 0 kind body
    (record {
      kind_is = facts.kind_is ∙ sym (get_take 2 (4 + body) piece 2 (omega arith));
      length_is = get_take 2 (4 + body) piece 0 (omega arith) ∙ facts.length_is;
      fits = omega arith;
      short = facts.short;
    })

module _ (file : List ℕ) (editions : Editions) (book piece : List ℕ) (more : Bool) (read : ReadFile file editions) (is : sound_in editions book ≡ true) where
  refused_alone : (kind body : ℕ) → frame_at piece 0 ≡ frame.Whole kind body → (kind ≡ trip_kind → ⊥) → outcome_at file book piece (4 + body) ≡ refused 5 0
  unfolding outcome_at rows
  refused_alone kind body e other =
      let alone = take (4 + body) piece in
      let no-trip = (five alone).1 (no_record (other_kind kind body (frame_alone piece kind body e) other)) in
      refused_way file book alone largest_statement editions read (refused_first file editions book alone largest_statement (skip _ _ (rw is) ∙ stop _ _ (rw no-trip)))

  pub wrong_kind :
      (kind body : ℕ) → frame_at piece 0 ≡ frame.Whole kind body → (kind ≡ trip_kind → ⊥)
      → (step_of file book piece more ≡ Record (Refused 5) (4 + body)) × (book_step file book piece more ≡ book)
  unfolding line_of
  wrong_kind kind body e other =
      let way = whole_way file book piece more (whole_finished piece more kind body e) kind body e in
      let five = refused_alone kind body e other in
      (rw five at way.0, rw five at way.1)
