-- `texts::put_line` meets its contract, for an accepted trip of one part, for one of two, and for a refused one.
use native.Mathlib.Omega.{arith}
use mathlib.Core.Path.{sym, ap}
use Rattle.lines.specs.Text.{line_text}
use Rattle.text.proofs.Puts.{put_join, put_same}
use Rattle.lines.proofs.texts.put_line.Goals as goal

pub returns-in-Charged : goal.returns-in-Charged
unfolding line_text
returns-in-Charged g c = put_same c.put_charged.ensures (sym (ap (line_text c.args.number) c.in-Charged.is)) (omega arith)

pub returns-in-Both : goal.returns-in-Both
unfolding line_text
returns-in-Both g c =
    put_same (put_join c.put_charged-in-Both.ensures c.put_charged-in-Both-2.ensures)
    (sym (ap (line_text c.args.number) c.in-Both.is))
    (omega arith)

pub returns-in-Refused : goal.returns-in-Refused
returns-in-Refused g c = put_same c.put_refused.ensures (sym (ap (line_text c.args.number) c.in-Refused.is)) (omega arith)
