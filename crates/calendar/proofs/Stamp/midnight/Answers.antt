-- `calendar::Stamp::midnight` meets its contract: the day's number stands for its definition.
use Rattle.calendar.proofs.Fields.{stamp_parts}
use Rattle.calendar.proofs.Stamp.midnight.Goals as goal

pub day_number-requires : goal.day_number-requires
day_number-requires c = (stamp_parts c.args.self c.requires).date
