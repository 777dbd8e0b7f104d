-- `areas::area_of` meets its contract: the two caps are what their functions ensure, and every other field is copied.
use native.Mathlib.Omega.{arith}
use Rattle.areas.specs.Areas.{area_of}
use Rattle.areas.proofs.area_of.Goals as goal

pub overflow_cast-result-4 : goal.overflow_cast-result-4
overflow_cast-result-4 c = omega (arith, c.struct_known-4-1.given)

pub returns : goal.returns
unfolding area_of
returns c = rw (c.trip_cap_of.ensures, c.day_cap_of.ensures)
