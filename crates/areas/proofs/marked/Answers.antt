-- `areas::marked` meets its contract: each arm is one of the definition's cases.
use Rattle.areas.specs.Areas.{is_marked}
use Rattle.areas.proofs.marked.Goals as goal

pub returns-in-Unmarked : goal.returns-in-Unmarked
unfolding is_marked
returns-in-Unmarked c = rw c.in-Unmarked.is

pub returns-in-BaseDropped : goal.returns-in-BaseDropped
unfolding is_marked
returns-in-BaseDropped c = rw c.in-BaseDropped.is

pub returns-in-KmDropped : goal.returns-in-KmDropped
unfolding is_marked
returns-in-KmDropped c = rw c.in-KmDropped.is
