-- `statement::reading::cents_at` meets its contract: as many charges are added as the record has.
use native.Mathlib.Omega.{arith}
use Rattle.statement.proofs.reading.cents_at.Goals as goal

pub returns : goal.returns
returns c =
    let counted = c.count_at.ensures in
    record { value = rw (← counted.0) c.cents_up_to.ensures.value; range = omega arith }
