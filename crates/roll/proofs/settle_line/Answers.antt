-- `roll::settle_line` meets its contract: where a size is told, the line is read off the statement; else the refusal is the line.
use Rattle.roll.proofs.Outcomes.{readable, charged_settled, refused_settled}
use Rattle.roll.proofs.settle_line.Goals as goal

pub charged_line-requires : goal.charged_line-requires
charged_line-requires c = readable c.args.trip.now c.requires.0 c.requires.1 c.settle_next.ensures c.in-Written.is

pub returns-in-Refused : goal.returns-in-Refused
returns-in-Refused c = refused_settled c.args.trip.now c.requires.0 c.requires.1 c.settle_next.ensures c.in-Refused.is

pub returns-in-Written : goal.returns-in-Written
returns-in-Written c =
    charged_settled c.args.trip.now c.requires.0 c.requires.1 c.settle_next.ensures c.in-Written.is
    c.charged_line.ensures
