-- `milecopper::milecopper_settle` meets its contract: the number that it answers is the outcome's.
use Rattle.milecopper.proofs.Answers.{settled-told}
use Rattle.milecopper.proofs.milecopper_settle.Goals as goal

pub returns : goal.returns
returns c = settled-told c.settle.ensures c.encoded.ensures
