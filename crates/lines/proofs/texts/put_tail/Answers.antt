-- `texts::put_tail` meets its contract: the four texts stand one behind another.
use native.Mathlib.Omega.{arith}
use Rattle.text.specs.Texts.{bytes, decimal}
use Rattle.lines.specs.Text.{tail_text}
use Rattle.text.proofs.Puts.{put_join, put_same}
use Rattle.lines.proofs.Puts.{tail_groups}
use Rattle.lines.proofs.texts.put_tail.Goals as goal

pub returns : goal.returns
unfolding tail_text bytes
returns g c =
    let tally = c.args.tally in
    put_same
    (put_join
    (put_join (put_join c.put_named.ensures c.put_named-2.ensures) c.put_named-3.ensures)
    c.put_text.ensures)
    (tail_groups (bytes "accepted ") (decimal tally.accepted) (bytes " refused ") (decimal tally.refused) (bytes " cents ")
    (decimal tally.cents) (bytes "\n"))
    (omega arith)
