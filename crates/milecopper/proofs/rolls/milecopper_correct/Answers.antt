-- `milecopper::rolls::milecopper_correct` meets its contract: the number that it answers is the correction's.
use Rattle.milecopper.proofs.Answers.{corrected-told}
use Rattle.milecopper.proofs.rolls.milecopper_correct.Goals as goal

pub returns : goal.returns
returns c = corrected-told c.correct.ensures c.encoded.ensures
