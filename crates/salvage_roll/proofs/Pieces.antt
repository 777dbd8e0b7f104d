-- Whatever the pieces in which a roll comes: what stands in the room is the pieces one behind the other, so what comes of it is what comes of the roll.
-- Assumes nothing.
use Prim.Native.Nat.{ℕ}
use mathlib.Core.Path.{◌≡◌, ap}
use mathlib.Core.List.{List}
use lib.ListN.{take}
use Rattle.streams.specs.Pieces.{together, Fills}
use Rattle.streams.proofs.Pieces.{came_together}
use Rattle.salvage.specs.Salvage.{outcome_of}

pub whatever_pieces : {room : List ℕ} {count : ℕ} {pieces : List (List ℕ)} → Fills room count pieces → outcome_of (take count room) ≡ outcome_of (together pieces)
whatever_pieces fills = ap outcome_of (came_together fills)
