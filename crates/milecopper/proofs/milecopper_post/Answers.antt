-- `milecopper::milecopper_post` meets its contract: the number that it answers is the posting's.
use Rattle.milecopper.proofs.Answers.{posted_told}
use Rattle.milecopper.proofs.milecopper_post.Goals as goal

pub returns : goal.returns
returns c = posted_told c.post_quote.ensures c.encoded.ensures
