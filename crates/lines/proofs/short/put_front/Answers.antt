-- `short::put_front` meets its contract: the three numbers stand one behind another, each with its blank.
use native.Mathlib.Omega.{arith}
use mathlib.Core.Path.{refl}
use Rattle.text.specs.Texts.{bytes}
use Rattle.text.proofs.Puts.{put_join, put_same}
use Rattle.lines.proofs.short.put_front.Goals as goal

pub returns : goal.returns
unfolding bytes
returns g c =
    put_same
    (put_join (put_join (put_join c.put_up_to_eight.ensures c.put_byte.ensures) c.put_four.ensures) c.put_four-2.ensures)
    refl
    (omega arith)
