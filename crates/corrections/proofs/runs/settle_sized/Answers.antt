-- `corrections::runs::settle_sized` meets its contract: the room for the statement is as good as room for the largest.
use Rattle.corrections.proofs.Rooms.{sized_refused, sized_written}
use Rattle.corrections.proofs.runs.settle_sized.Goals as goal

pub returns-in-Refused : goal.returns-in-Refused
returns-in-Refused c =
    sized_refused c.args.file.now c.args.editions c.args.book.now c.args.trip.now c.requires.0 c.requires.1
    c.settle_under.ensures c.in-Refused.is

pub returns-in-Written : goal.returns-in-Written
returns-in-Written c =
    sized_written c.args.file.now c.args.editions c.args.book.now c.args.trip.now c.requires.0 c.requires.1
    c.settle_under.ensures c.in-Written.is
