-- `vectors::show_settled` is safe and ends: where a size is told, the statement's records can be read.
use Rattle.roll.proofs.Outcomes.{settled_readable}
use Rattle.vectors.proofs.show_settled.Goals as goal

pub show_records-requires : goal.show_records-requires
show_records-requires g c =
    let entered = c.args in
    settled_readable entered.file.now entered.book.now entered.trip.now _ c.settle.ensures c.in-Written.is
