-- `ceiling::room_for` meets its contract: each way through it is one through `room_for`.
use Rattle.ceiling.proofs.Kept.{short_room, whole_room}
use Rattle.ceiling.proofs.room_for.Goals as goal

pub returns-then-due-lt-DUE_SIZE : goal.returns-then-due-lt-DUE_SIZE
returns-then-due-lt-DUE_SIZE c = short_room _ _ c.if-due-lt-DUE_SIZE.true

pub returns : goal.returns
returns c = whole_room _ _ c.if-due-lt-DUE_SIZE.false
