-- `rows::put_rider` meets its contract, for each sort of a party.
use native.Mathlib.Omega.{arith}
use mathlib.Core.Path.{sym, ap}
use mathlib.Core.List.{◌++◌}
use Rattle.text.specs.Texts.{bytes}
use Rattle.text.proofs.Puts.{put_same}
use Rattle.csv_table.proofs.Lines.{holder, adult, child, bicycle}
use Rattle.csv_table.proofs.rows.put_rider.Goals as goal

pub returns-then-i-eq0 : goal.returns-then-i-eq0
unfolding bytes
returns-then-i-eq0 g c =
    let args = c.args in
    put_same c.put_text.ensures (ap (bytes "," ++◌) (sym (holder args.party args.i c.if-i-eq0.true))) (omega arith)

pub returns-then-i-adults : goal.returns-then-i-adults
unfolding bytes
returns-then-i-adults g c =
    let args = c.args in
    put_same c.put_column.ensures (ap (bytes "," ++◌) (sym (adult args.party args.i c.if-i-eq0.false c.if-i-adults.true))) (omega arith)

pub returns-then-i-carried : goal.returns-then-i-carried
unfolding bytes
returns-then-i-carried g c =
    let args = c.args in
    put_same c.put_column-then-i-carried.ensures (ap (bytes "," ++◌) (sym (child args.party args.i c.if-i-eq0.false c.if-i-adults.false c.if-i-carried.true))) (omega arith)

pub returns-else-i-carried : goal.returns-else-i-carried
unfolding bytes
returns-else-i-carried g c =
    let args = c.args in
    put_same c.put_column-else-i-carried.ensures (ap (bytes "," ++◌) (sym (bicycle args.party args.i c.if-i-eq0.false c.if-i-adults.false c.if-i-carried.false))) (omega arith)
