-- `calendar::Stamp::on_date` meets its contract: the date is that of a stamp, and the other tests are the definition's.
use Rattle.calendar.specs.Stamps.{stamp_of}
use Rattle.calendar.proofs.Fields.{stamp_parts}
use Rattle.calendar.proofs.Order.{stamp_tests}
use Rattle.calendar.proofs.Stamp.on_date.Goals as goal

pub returns-then-is_clock-is_offset : goal.returns-then-is_clock-is_offset
unfolding stamp_of
returns-then-is_clock-is_offset c =
    rw (
      ← stamp_tests _,
      (stamp_parts c.args.self c.requires).date,
      ← c.is_clock.ensures,
      ← c.is_offset.ensures,
      ← c.from_zero.ensures,
      c.if-is_clock-is_offset.true,
    )

pub returns-else-is_clock-is_offset : goal.returns-else-is_clock-is_offset
unfolding stamp_of
returns-else-is_clock-is_offset c =
    rw (
      ← stamp_tests _,
      (stamp_parts c.args.self c.requires).date,
      ← c.is_clock.ensures,
      ← c.is_offset.ensures,
      ← c.from_zero.ensures,
      c.if-is_clock-is_offset.false,
    )
