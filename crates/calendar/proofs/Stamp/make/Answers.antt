-- `calendar::Stamp::make` meets its contract: its row of tests is the definition's, and each way returns that case of it.
use Rattle.calendar.specs.Stamps.{stamp_of}
use Rattle.calendar.proofs.Order.{stamp_tests}
use Rattle.calendar.proofs.Stamp.make.Goals as goal

pub returns-then-is_date-is_clock : goal.returns-then-is_date-is_clock
unfolding stamp_of
returns-then-is_date-is_clock c =
    rw (
      ← stamp_tests _,
      ← c.is_date.ensures,
      ← c.is_clock.ensures,
      ← c.is_offset.ensures,
      ← c.from_zero.ensures,
      c.if-is_date-is_clock.true,
    )

pub returns-else-is_date-is_clock : goal.returns-else-is_date-is_clock
unfolding stamp_of
returns-else-is_date-is_clock c =
    rw (
      ← stamp_tests _,
      ← c.is_date.ensures,
      ← c.is_clock.ensures,
      ← c.is_offset.ensures,
      ← c.from_zero.ensures,
      c.if-is_date-is_clock.false,
    )
