-- `put_marked` meets its contract: the digits are five at most, and the mark stands behind them.
use native.Mathlib.Omega.{arith}
use Rattle.text.proofs.Puts.{put_join}
use Rattle.salvage.proofs.Texts.{five_digits, narrow}
use Rattle.salvage.proofs.put_marked.Goals as goal

pub put_byte-requires : goal.put_byte-requires
put_byte-requires c =
    let digits = narrow 5 c.put_up_to_eight.ensures (five_digits c.args.number (omega arith)) in
    omega (arith, digits.room)

pub returns : goal.returns
returns c =
    let digits = narrow 5 c.put_up_to_eight.ensures (five_digits c.args.number (omega arith)) in
    put_join digits c.put_byte.ensures
