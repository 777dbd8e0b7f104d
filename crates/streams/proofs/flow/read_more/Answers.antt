-- `flow::read_more` meets its contract: with bytes read there is room for fewer, and without any the input is at its end.
use native.Mathlib.Omega.{arith}
use Rattle.streams.proofs.Steps.{more_came}
use Rattle.streams.proofs.Pieces.{read_is}
use Rattle.streams.proofs.flow.read_more.Goals as goal

pub returns-in-Ok : goal.returns-in-Ok
returns-in-Ok g c =
    let kept = c.keep-kept in
    let came = read_is c.read_next.ensures c.in-Ok.is in
    more_came c.args.flow c.args.input.now kept.new.room c.read_next.new.room kept.result c.in-Ok.got c.requires.range c.requires.more
    (omega arith) (omega (arith, came.fits)) kept.ensures came
