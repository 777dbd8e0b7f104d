-- `statement::writing::put_charge` meets its contract: it puts one number.
use Rattle.statement.proofs.Wrote.{field_wrote}
use Rattle.statement.proofs.writing.put_charge.Goals as goal

pub returns : goal.returns
returns c = field_wrote 4 c.args.amount c.put_four.ensures
