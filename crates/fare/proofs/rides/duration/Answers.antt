-- Check-out is not before check-in, so the minutes are a difference.
use native.Mathlib.Omega.{arith}
use mathlib.Core.Path.{refl}
use Rattle.fare.proofs.Stops.{times}
use Rattle.fare.proofs.rides.duration.Goals as goal

pub overflow_sub-result : goal.overflow_sub-result
overflow_sub-result c = omega (arith, (times c.args.trip c.requires).0)

pub returns : goal.returns
returns c = record { value = refl; range = omega (arith, (times c.args.trip c.requires).1) }
