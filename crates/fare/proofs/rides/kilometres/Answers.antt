-- The longer of the two gaps is handed over first; the sum of their squares is the same either way.
use Rattle.fare.specs.Distance.{apart}
use Rattle.fare.proofs.Distance.{sorted}
use Rattle.fare.proofs.rides.kilometres.Goals as goal

pub returns : goal.returns
unfolding apart
returns c =
    rw (
      ← c.gap_between-east.ensures,
      ← c.gap_between-north.ensures,
      ← sorted c.gap_between-east.result c.gap_between-north.result,
      ← c.longer_of.ensures,
      ← c.shorter_of.ensures,
    )
    c.least_km.ensures
