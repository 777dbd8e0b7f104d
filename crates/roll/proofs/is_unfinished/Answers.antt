-- `roll::is_unfinished` meets its contract: its two returns are the two ways through `unfinished`.
use Rattle.roll.proofs.Starts.{few_unfinished, length_decides}
use Rattle.roll.proofs.is_unfinished.Goals as goal

pub returns-then-piece-lt4 : goal.returns-then-piece-lt4
returns-then-piece-lt4 c = few_unfinished _ c.if-piece-lt4.true

pub returns : goal.returns
returns c = length_decides _ _ c.if-piece-lt4.false c.two_at-long.ensures.value
