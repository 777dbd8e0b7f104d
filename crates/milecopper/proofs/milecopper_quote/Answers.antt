-- `milecopper::milecopper_quote` meets its contract: the number that it answers is the quote's.
use Rattle.milecopper.proofs.Answers.{quoted-told}
use Rattle.milecopper.proofs.milecopper_quote.Goals as goal

pub returns : goal.returns
returns c = quoted-told c.quote.ensures c.encoded.ensures
