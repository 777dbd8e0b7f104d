-- `fours::put_small` meets its contract: a number of eight digits at most is put at once; the digits of a longer one are put in front of an
-- array's end, and copied from where they begin.
use native.Mathlib.Omega.{arith}
use mathlib.Core.Path.{◌∙◌}
use Rattle.text.proofs.Puts.{rest, rest_short, from_end, behind_same}
use Rattle.text.proofs.fours.put_small.Goals as goal

pub returns : goal.returns
returns c =
    let digits = c.put_before-at in
    behind_same c.put_text.ensures (rest digits.new.text digits.result 10 (omega arith) ∙ from_end digits.ensures (omega arith))
    (rest_short digits.new.text digits.result 10 (omega arith))
