-- `statement::writing::put_person` meets its contract: the numbers that it puts, each behind those before it, are a person's bytes.
use Rattle.std.proofs.Common.{arith}
use Rattle.statement.proofs.Head.{person_put}
use Rattle.statement.proofs.Wrote.{field_wrote, field_behind}
use Rattle.statement.proofs.writing.put_person.Goals as goal

pub returns : goal.returns
returns c =
    let a = c.args in
    let to_amount = field_wrote 4 a.amount c.put_four.ensures in
    let to_reduction = field_behind 4 a.reduction to_amount c.put_four-2.ensures (omega arith) in
    let to_area = field_behind 1 a.area to_reduction c.put_one.ensures (omega arith) in
    let to_class = field_behind 1 a.class to_area c.put_one-2.ensures (omega arith) in
    let all = rw (person_put a.amount a.reduction a.area a.class) at to_class in
    record { next = omega (arith, all.next); stored = all.stored }
