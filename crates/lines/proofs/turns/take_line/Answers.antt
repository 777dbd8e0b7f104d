-- `turns::take_line` meets its contract: behind the last record's line stands the tail, and behind any other nothing.
use mathlib.Core.Bool.{false}
use borrow.Author.Tests.{eq-eqb, ne_eqb}
use Rattle.lines.proofs.Taken.{last_taken, on_taken}
use Rattle.lines.proofs.turns.take_line.Goals as goal

pub returns-then-number-eq-MOST_RECORDS : goal.returns-then-number-eq-MOST_RECORDS
returns-then-number-eq-MOST_RECORDS g c =
    let args = c.args in
    let after = c.count-after in
    last_taken args.tally args.line args.used false after.result after.ensures (eq-eqb _ _ c.if-number-eq-MOST_RECORDS.true)
    c.put_line.ensures c.put_tail.ensures

pub returns : goal.returns
returns g c =
    let args = c.args in
    let after = c.count-after in
    on_taken args.tally args.line args.used false after.result after.ensures (ne_eqb _ _ c.if-number-eq-MOST_RECORDS.false) c.put_line.ensures
