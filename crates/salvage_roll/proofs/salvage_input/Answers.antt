-- `salvage_input` is safe: the bytes that came lie within the room.
use mathlib.Core.Path.{sym}
use lib.Seq.{length-take-le}
use Rattle.streams.proofs.Pieces.{come_within}
use Rattle.salvage_roll.proofs.salvage_input.Goals as goal

pub slice_bounds-hand_over-end : goal.slice_bounds-hand_over-end
slice_bounds-hand_over-end g c = sym (length-take-le _ _ (come_within c.read_roll.ensures c.in-Ok.is))
