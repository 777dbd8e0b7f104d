-- `statement::reading::charge_of` meets its contract: the cuts before a charge are those of the persons before it.
use Rattle.statement.proofs.reading.charge_of.Goals as goal

pub returns : goal.returns
returns c =
    let asked = c.requires in
    let read = c.four_at.ensures in
    record { value = rw (← asked.1.0, ← c.smaller.ensures) read.value; range = read.range }
