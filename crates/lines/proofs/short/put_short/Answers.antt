-- `short::put_short` meets its contract: the line's two halves stand one behind the other.
use native.Mathlib.Omega.{arith}
use Rattle.text.specs.Texts.{bytes, decimal}
use Rattle.text.proofs.Puts.{put_join, put_same}
use Rattle.lines.specs.Text.{entry_text, spaced}
use Rattle.lines.proofs.Puts.{halves_groups}
use Rattle.lines.proofs.short.put_short.Goals as goal

pub returns : goal.returns
unfolding entry_text spaced
returns g c =
    let entry = c.args.entry in
    put_same (put_join c.put_front.ensures c.put_rest.ensures)
    (halves_groups (decimal c.args.number) (decimal entry.area) (decimal entry.km) (decimal entry.minutes) (decimal entry.opening) (decimal entry.cents)
    (bytes " ") (bytes "\n"))
    (omega arith)
