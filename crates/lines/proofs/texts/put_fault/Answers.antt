-- `texts::put_fault` meets its contract: the three texts stand one behind another.
use native.Mathlib.Omega.{arith}
use Rattle.text.specs.Texts.{bytes, decimal}
use Rattle.lines.specs.Text.{fault_text}
use Rattle.text.proofs.Puts.{put_join, put_same}
use Rattle.lines.proofs.Puts.{fault_groups}
use Rattle.lines.proofs.texts.put_fault.Goals as goal

pub returns : goal.returns
unfolding fault_text bytes
returns g c =
    let args = c.args in
    put_same (put_join (put_join c.put_named.ensures c.put_named-2.ensures) c.put_text.ensures)
    (fault_groups (bytes "tariff refused ") (decimal args.refusal) (bytes " at ") (decimal args.place) (bytes "\n"))
    (omega arith)
