-- `turns::take_turn` meets its contract, whether a whole record stands at the start of the piece or none.
use native.Mathlib.Omega.{arith}
use mathlib.Core.Path.{sym, ◌∙◌}
use lib.Seq.{length-take-le}
use Rattle.wire.proofs.Frames.{whole}
use Rattle.csv_table.proofs.Taken.{record_turned, rest_turned}
use Rattle.csv_table.proofs.turns.take_turn.Goals as goal

pub overflow_add-used : goal.overflow_add-used
overflow_add-used g c = let facts = whole c.args.piece.now 0 _ _ (sym c.frame_at.ensures ∙ c.in-Whole.is) in omega arith

pub slice_bounds-take_record-end : goal.slice_bounds-take_record-end
slice_bounds-take_record-end g c =
    let facts = whole c.args.piece.now 0 _ _ (sym c.frame_at.ensures ∙ c.in-Whole.is) in
    sym (length-take-le _ c.args.piece.now (omega arith))

pub returns-in-Whole : goal.returns-in-Whole
returns-in-Whole g c =
    let args = c.args in
    record_turned args.piece.now args.more args.number _ _ (sym c.frame_at.ensures ∙ c.in-Whole.is)
    c.requires.1 c.take_record.ensures

pub returns-in-Broken : goal.returns-in-Broken
returns-in-Broken g c =
    let args = c.args in
    rest_turned args.piece.now args.more args.number (sym c.frame_at.ensures ∙ c.in-Broken.is)
    c.take_rest.ensures
