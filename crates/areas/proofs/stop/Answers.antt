-- A stop of a faultless tariff is read at its place before the tariff's end, which lies within the tariff, and put in its units.
use native.Mathlib.Omega.{arith}
use Rattle.areas.specs.Areas.{stop_at}
use Rattle.areas.proofs.Faultless.{faultless, stop_inside}
use Rattle.areas.proofs.stop.Goals as goal

pub stop_place-requires : goal.stop_place-requires
stop_place-requires c = ((faultless c.args.tariff.now c.args.counts c.requires.0).size, c.requires.1)

pub stop_fields-f-requires : goal.stop_fields-f-requires
stop_fields-f-requires c = omega (arith, c.stop_place.ensures, stop_inside _ c.args.counts _ c.requires)

pub returns : goal.returns
unfolding stop_at
returns c = rw (c.stop_fields-f.ensures, c.stop_place.ensures)
