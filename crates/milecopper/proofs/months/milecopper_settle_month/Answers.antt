-- `milecopper::months::milecopper_settle_month` meets its contract: the number that it answers is the outcome's.
use Rattle.milecopper.proofs.Answers.{month-told}
use Rattle.milecopper.proofs.months.milecopper_settle_month.Goals as goal

pub returns : goal.returns
returns c = month-told c.settle_month.ensures c.encoded.ensures
