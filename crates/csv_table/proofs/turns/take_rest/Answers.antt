-- `turns::take_rest` meets its contract: where more can come, at the statement's end, and at a broken frame.
use native.Mathlib.Omega.{arith}
use mathlib.Core.Path.{refl}
use Rattle.text.proofs.Puts.{put_same}
use Rattle.csv_table.specs.Clauses.{asked, ended}
use Rattle.csv_table.proofs.Taken.{more_effect, end_effect, broken-effect, nothing_put}
use Rattle.csv_table.proofs.turns.take_rest.Goals as goal

pub returns-then-more-size : goal.returns-then-more-size
returns-then-more-size g c = let args = c.args in rw (more_effect args.size args.more args.number c.if-more-size.true) (asked refl)

pub returns-then-size-eq0 : goal.returns-then-size-eq0
returns-then-size-eq0 g c =
    let args = c.args in
    rw (end_effect args.size args.more args.number c.if-more-size.false c.if-size-eq0.true)
    (ended (nothing_put args.out.now))

pub returns : goal.returns
returns g c =
    let args = c.args in
    rw (broken-effect args.size args.more args.number c.if-more-size.false c.if-size-eq0.false)
    (ended (put_same c.put_refused.ensures refl (omega arith)))
