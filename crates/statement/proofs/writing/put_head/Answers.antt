-- `statement::writing::put_head` meets its contract: the numbers that it puts, each behind those before it, are the head's bytes.
use Rattle.std.proofs.Common.{arith}
use Rattle.statement.proofs.Head.{head_put}
use Rattle.statement.proofs.Wrote.{field_wrote, field_behind}
use Rattle.statement.proofs.writing.put_head.Goals as goal

pub returns : goal.returns
returns c =
    let a = c.args in
    let to_long = field_wrote 2 a.long c.put_two.ensures in
    let to_kind = field_behind 2 6 to_long c.put_two-2.ensures (omega arith) in
    let to_opening = field_behind 4 a.opening to_kind c.put_four.ensures (omega arith) in
    let to_area = field_behind 1 a.area to_opening c.put_one.ensures (omega arith) in
    let to_km = field_behind 2 a.km to_area c.put_two-3.ensures (omega arith) in
    let to_minutes = field_behind 2 a.minutes to_km c.put_two-4.ensures (omega arith) in
    let to_adults = field_behind 1 a.adults to_minutes c.put_one-2.ensures (omega arith) in
    let to_children = field_behind 1 a.children to_adults c.put_one-3.ensures (omega arith) in
    let to_bicycles = field_behind 1 a.bicycles to_children c.put_one-4.ensures (omega arith) in
    let all = rw (head_put a.long a.opening a.area a.km a.minutes a.adults a.children a.bicycles) at to_bicycles in
    record { next = omega (arith, all.next); stored = all.stored }
