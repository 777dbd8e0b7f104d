-- `turns::take_broken` meets its contract: the tail stands behind the broken frame's line.
use native.Mathlib.Omega.{arith}
use mathlib.Core.Path.{refl}
use mathlib.Core.Bool.{true}
use Rattle.roll.specs.declared.Line.TheVariants.{Refused}
use Rattle.text.proofs.Puts.{put_same}
use Rattle.lines.proofs.Taken.{last_taken}
use Rattle.lines.proofs.turns.take_broken.Goals as goal

pub returns : goal.returns
returns g c =
    let after = c.count-after in
    let args = c.args in
    last_taken args.tally (Refused 5) 0 true after.result after.ensures refl (put_same c.put_refused.ensures refl (omega arith))
    c.put_tail.ensures
