-- `texts::put_refused` meets its contract: the three texts stand one behind another.
use native.Mathlib.Omega.{arith}
use Rattle.text.specs.Texts.{bytes, decimal}
use Rattle.lines.specs.Text.{line_text}
use Rattle.text.proofs.Puts.{put_join, put_same}
use Rattle.lines.proofs.Puts.{refused_groups}
use Rattle.lines.proofs.texts.put_refused.Goals as goal

pub returns : goal.returns
unfolding line_text bytes
returns g c =
    let args = c.args in
    put_same (put_join (put_join c.put_number.ensures c.put_named.ensures) c.put_text.ensures)
    (refused_groups (decimal args.number) (bytes " refused ") (decimal args.refusal) (bytes "\n"))
    (omega arith)
