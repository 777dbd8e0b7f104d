-- `turns::take_turn` meets its contract, for each thing that can stand at the start of the piece.
use borrow.Author.Rules.{rules}
use Rattle.lines.proofs.Taken.{more_turned, record_turned, broken_turned, end_turned, record_cents}
use Rattle.lines.proofs.turns.take_turn.Goals as goal

pub take_line-requires : goal.take_line-requires
take_line-requires g c = (search rules, (c.requires.1.0, (c.requires.1.1.0, record_cents _ _ c.next.ensures.range c.in-Record.is)))

pub returns-in-More : goal.returns-in-More
returns-in-More g c = more_turned c.requires.0 c.requires.1.1.0 c.next.ensures c.in-More.is

pub returns-in-Record : goal.returns-in-Record
returns-in-Record g c = record_turned c.requires.0 c.requires.1.1.0 c.next.ensures c.in-Record.is c.take_line.ensures

pub returns-in-Broken : goal.returns-in-Broken
returns-in-Broken g c = broken_turned c.requires.0 c.requires.1.1.0 c.next.ensures c.in-Broken.is c.take_broken.ensures

pub returns-in-End : goal.returns-in-End
returns-in-End g c = end_turned c.requires.0 c.requires.1.1.0 c.next.ensures c.in-End.is c.put_tail.ensures
