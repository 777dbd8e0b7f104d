-- `hand_over` is safe: what is kept ends within the roll that is lent.
use mathlib.Core.Path.{sym}
use lib.Seq.{length-take-le}
use Rattle.salvage_roll.proofs.Ends.{kept_ends}
use Rattle.salvage_roll.proofs.hand_over.Goals as goal

pub slice_bounds-save-end : goal.slice_bounds-save-end
slice_bounds-save-end g c = (kept_ends c.args.roll.now c.salvage.new.roll c.salvage.new.lines c.salvage.result c.salvage.ensures c.in-Some.is).0

pub slice_bounds-save-end-in-Some : goal.slice_bounds-save-end-in-Some
slice_bounds-save-end-in-Some g c =
    sym (length-take-le _ _ (kept_ends c.args.roll.now c.salvage.new.roll c.salvage.new.lines c.salvage.result c.salvage.ensures c.in-Some.is).0)
