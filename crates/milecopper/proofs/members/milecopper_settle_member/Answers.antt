-- `milecopper::members::milecopper_settle_member` meets its contract: the number that it answers is the outcome's.
use Rattle.milecopper.proofs.Answers.{settled-told}
use Rattle.milecopper.proofs.members.milecopper_settle_member.Goals as goal

pub returns : goal.returns
returns c = settled-told c.settle_for.ensures c.encoded.ensures
