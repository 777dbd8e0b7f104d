-- `milecopper::members::milecopper_add` meets its contract: the number that it answers is the change's.
use Rattle.milecopper.proofs.Answers.{changed-told}
use Rattle.milecopper.proofs.members.milecopper_add.Goals as goal

pub returns : goal.returns
returns c = changed-told c.add_for.ensures c.encoded.ensures
